use Rattle.std.proofs.Common.{◌≡◌, length}
use Rattle.name_library.specs.Library.{package_at}
use Rattle.name_library.proofs.lookups.first_at.Given as goal

abbrev pub invariant-loop-units : goal.invariant-loop-units
invariant-loop-units l = package_at l.units l.spot ≡ package_at l.initial.units l.spot

abbrev pub decreases-loop-units : goal.decreases-loop-units
decreases-loop-units l = length l.units
