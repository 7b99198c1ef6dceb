use Rattle.std.proofs.Common.{◌≡◌, length, drop}
use Rattle.ada_values.specs.Value.{values, same_vals}
use Rattle.ada_values.proofs.values.+same.Given as goal

abbrev pub invariant-same_values-loop-i : goal.invariant-same_values-loop-i
invariant-same_values-loop-i l = record {
  long : length l.a ≡ length l.b;
  same : same_vals (values (drop l.i l.a)) (values (drop l.i l.b)) ≡ same_vals (values l.a) (values l.b);
}
