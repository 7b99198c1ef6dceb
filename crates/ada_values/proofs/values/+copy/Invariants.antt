use Rattle.std.proofs.Common.{◌≡◌, take}
use Rattle.ada_values.proofs.values.+copy.Given as goal

abbrev pub invariant-copy_values-loop-v : goal.invariant-copy_values-loop-v
invariant-copy_values-loop-v l = l.copy ≡ take l.v-index l.v-items
