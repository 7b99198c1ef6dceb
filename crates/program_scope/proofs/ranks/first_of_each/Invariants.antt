use Rattle.std.proofs.Common.{◌≡◌, ℕ, ◌≤◌, drop, length}
use Rattle.std.specs.BTreeMap.{get}
use Rattle.name_links.specs.Links.{place_cmp}
use Rattle.program_scope.specs.Ranks.{ranked_from}
use Rattle.program_scope.proofs.ranks.first_of_each.Given as goal

abbrev pub invariant-loop-left : goal.invariant-loop-left
invariant-loop-left l = (l.left ≤ length l.spots) × ((file at : ℕ) → get place_cmp l.first (file, at) ≡ ranked_from l.left (drop l.left l.spots) (record { file = file; at = at }))

abbrev pub decreases-loop-left : goal.decreases-loop-left
decreases-loop-left l = l.left
