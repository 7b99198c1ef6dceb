use Rattle.std.proofs.Common.{◌≡◌, length}
use Rattle.name_library.specs.Library.{unit_as}
use Rattle.name_library.proofs.lookups.first_as.Given as goal

abbrev pub invariant-loop-units : goal.invariant-loop-units
invariant-loop-units l = unit_as l.part l.name l.units ≡ unit_as l.part l.name l.initial.units

abbrev pub decreases-loop-units : goal.decreases-loop-units
decreases-loop-units l = length l.units
