use Rattle.std.proofs.Common.{◌≡◌, ◌≤◌, ◌++◌, drop, length}
use Rattle.ada_tree.proofs.weave.put_all.Given as goal

abbrev pub invariant-loop-left : goal.invariant-loop-left
invariant-loop-left l = (l.left ≤ length l.right) × (l.symbols ≡ drop l.left l.right ++ l.fn.symbols)

abbrev pub decreases-loop-left : goal.decreases-loop-left
decreases-loop-left l = l.left
