use Rattle.std.proofs.Common.{◌≡◌, drop}
use Rattle.logic_truth.specs.Places.{is_place}
use Rattle.logic_truth.proofs.places.is_place.Given as goal

abbrev pub invariant-loop-known : goal.invariant-loop-known
invariant-loop-known l = is_place l.places l.at ≡ is_place (drop l.known-index l.known-items) l.at
