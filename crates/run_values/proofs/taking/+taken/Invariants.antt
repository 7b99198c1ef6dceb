use Rattle.std.proofs.Common.{◌≡◌, take, map}
use Rattle.ada_values.specs.Value.{value}
use Rattle.run_values.specs.RunValues.{run_value}
use Rattle.run_values.proofs.taking.+taken.Given as goal

abbrev pub invariant-taken_all-loop-v : goal.invariant-taken_all-loop-v
invariant-taken_all-loop-v l = map run_value l.all ≡ map value (take l.v-index l.v-items)
