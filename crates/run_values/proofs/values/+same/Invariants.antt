use Rattle.std.proofs.Common.{◌≡◌, length, drop}
use Rattle.ada_values.specs.Value.{same_vals}
use Rattle.run_values.specs.RunValues.{run_values}
use Rattle.run_values.proofs.values.+same.Given as goal

abbrev pub invariant-same_run_values-loop-i : goal.invariant-same_run_values-loop-i
invariant-same_run_values-loop-i l = record {
  long : length l.a ≡ length l.b;
  same : same_vals (run_values (drop l.i l.a)) (run_values (drop l.i l.b)) ≡ same_vals (run_values l.a) (run_values l.b);
}
