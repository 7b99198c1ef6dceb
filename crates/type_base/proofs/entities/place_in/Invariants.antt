use Rattle.std.proofs.Common.{◌≤◌, length}
use Rattle.type_base.specs.Lookups.{place_in}
use Rattle.type_base.proofs.entities.place_in.Given as goal

abbrev pub invariant-loop-place : goal.invariant-loop-place
invariant-loop-place l = (place_in l.items l.at ≤ l.place) × (l.place ≤ length l.items)

abbrev pub decreases-loop-place : goal.decreases-loop-place
decreases-loop-place l = l.place
