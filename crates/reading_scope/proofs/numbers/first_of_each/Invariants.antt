use Rattle.std.proofs.Common.{◌≡◌, ℕ, ◌≤◌, drop, length}
use Rattle.std.specs.BTreeMap.{get}
use Rattle.std.specs.Ordering.{nat_cmp}
use Rattle.reading_scope.specs.Numbers.{numbered_at}
use Rattle.reading_scope.proofs.numbers.first_of_each.Given as goal

abbrev pub invariant-loop-left : goal.invariant-loop-left
invariant-loop-left l = (l.left ≤ length l.list) × ((at : ℕ) → get nat_cmp l.first at ≡ numbered_at at (drop l.left l.list))

abbrev pub decreases-loop-left : goal.decreases-loop-left
decreases-loop-left l = l.left
