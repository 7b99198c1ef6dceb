use Rattle.std.proofs.Common.{◌≡◌, ℕ, ◌≤◌, drop, length}
use Rattle.std.specs.BTreeMap.{get}
use Rattle.std.specs.Ordering.{nat_cmp}
use Rattle.name_library.specs.Library.{else_unit, unit_as, unit_at}
use Rattle.name_library.proofs.lookups.numbered.Given as goal

abbrev pub invariant-loop-left : goal.invariant-loop-left
invariant-loop-left l = (l.left ≤ length l.units) × ((n : ℕ) → unit_at l.units (get nat_cmp l.numbers n) ≡ else_unit (unit_as l.part n (drop l.left l.units)) (unit_at l.units (get nat_cmp l.initial.numbers n)))

abbrev pub decreases-loop-left : goal.decreases-loop-left
decreases-loop-left l = l.left
