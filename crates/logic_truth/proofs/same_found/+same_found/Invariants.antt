use Rattle.std.proofs.Common.{◌≡◌, ◌*◌, ◌+◌, length, drop}
use Rattle.logic_terms.specs.Value.{same_values}
use Rattle.logic_truth.specs.Places.{same_at}
use Rattle.logic_truth.specs.Size.{size, sizes}
use Rattle.logic_truth.specs.Found.{found, found_all}
use Rattle.logic_truth.proofs.same_found.+same_found.Given as goal

abbrev pub decreases-same_found : goal.decreases-same_found
decreases-same_found l = 4 * size l.a.now + 3

abbrev pub decreases-same_array : goal.decreases-same_array
decreases-same_array l = 4 * size l.a.now + 2

abbrev pub decreases-same_at : goal.decreases-same_at
decreases-same_at l = 4 * size l.a.now + 1

abbrev pub decreases-is_same_at : goal.decreases-is_same_at
decreases-is_same_at l = 4 * size l.a.now

abbrev pub decreases-same_fields : goal.decreases-same_fields
decreases-same_fields l = 4 * sizes l.a.now + 4

abbrev pub invariant-same_fields-loop-i : goal.invariant-same_fields-loop-i
invariant-same_fields-loop-i l =
    (length l.a ≡ length l.b) × (same_values (found_all l.a) (found_all l.b) ≡ same_values (found_all (drop l.i l.a)) (found_all (drop l.i l.b)))

abbrev pub invariant-same_at-loop-place : goal.invariant-same_at-loop-place
invariant-same_at-loop-place l = same_at (found l.a) (found l.b) l.places ≡ same_at (found l.a) (found l.b) (drop l.place-index l.place-items)
