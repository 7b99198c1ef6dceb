use Rattle.std.proofs.Common.{◌≡◌, drop}
use Rattle.choice_cover.specs.Sweeps.{apart_after}
use Rattle.choice_cover.proofs.sweeps.is_apart.Given as goal

abbrev pub invariant-loop-range : goal.invariant-loop-range
invariant-loop-range l = apart_after l.reach (drop l.range-index l.rest) ≡ apart_after l.initial.reach l.rest
