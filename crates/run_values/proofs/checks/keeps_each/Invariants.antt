use Rattle.std.proofs.Common.{◌≡◌, drop}
use Rattle.ada_semantics.specs.Operators.{keeps_each}
use Rattle.run_values.specs.RunValues.{run_value}
use Rattle.run_values.proofs.checks.keeps_each.Given as goal

abbrev pub invariant-loop-bounds : goal.invariant-loop-bounds
invariant-loop-bounds l = keeps_each (drop l.bounds-index l.bounds) (run_value l.v) ≡ keeps_each l.bounds (run_value l.v)
