use Rattle.std.proofs.Common.{◌≡◌, length}
use Rattle.tree_parts.specs.Operations.{grouped}
use Rattle.tree_parts.proofs.operations.grouped.Given as goal

abbrev pub invariant-loop-operation : goal.invariant-loop-operation
invariant-loop-operation l = grouped l.all l.left ≡ grouped l.fn.first l.fn.more

abbrev pub decreases-loop-operation : goal.decreases-loop-operation
decreases-loop-operation l = length l.left
