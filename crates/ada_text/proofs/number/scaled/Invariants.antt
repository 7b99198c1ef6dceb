use Rattle.std.proofs.Common.{◌≡◌, ◌-◌, ◌*◌, ◌^◌}
use Rattle.std.specs.Prelude.{min}
use Rattle.ada_text.proofs.number.scaled.Given as goal

abbrev pub invariant-loop-turn : goal.invariant-loop-turn
invariant-loop-turn l = l.value ≡ min (l.digits * l.radix ^ l.turn) (2 ^ 128 - 1)
