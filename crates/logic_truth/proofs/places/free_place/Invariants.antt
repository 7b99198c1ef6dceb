use Rattle.std.proofs.Common.{◌≡◌, true}
use Rattle.std.specs.Prelude.{ℤ, ◌≤ℤ◌, ◌<ℤ◌}
use Rattle.logic_terms.specs.Value.{count}
use Rattle.logic_truth.specs.Places.{is_place}
use Rattle.logic_truth.proofs.places.free_place.Given as goal

abbrev pub invariant-loop-at : goal.invariant-loop-at
invariant-loop-at l = (l.fn.first ≤ℤ l.at) × ((i : ℤ) → l.fn.first ≤ℤ i → i <ℤ l.at → is_place l.places i ≡ true)

abbrev pub decreases-loop-at : goal.decreases-loop-at
decreases-loop-at l = count l.at l.last
