use Rattle.std.proofs.Common.{◌≡◌, ◌*◌, ◌%◌, ◌^◌, ◌<◌}
use Rattle.ada_values.proofs.modular.power_modulo.Given as goal

abbrev pub invariant-loop-left : goal.invariant-loop-left
invariant-loop-left l = record {
  power : l.power < l.modulus;
  square : l.square < l.modulus;
  same : (l.power * l.square ^ l.left) % l.modulus ≡ (l.fn.base ^ l.fn.exponent) % l.modulus;
}

abbrev pub decreases-loop-left : goal.decreases-loop-left
decreases-loop-left l = l.left
