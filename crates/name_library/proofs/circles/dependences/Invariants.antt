use Rattle.std.proofs.Common.{◌≡◌, ◌++◌, length}
use Rattle.name_library.specs.Chains.{dependences_from}
use Rattle.name_library.proofs.circles.dependences.Given as goal

abbrev pub invariant-loop-units : goal.invariant-loop-units
invariant-loop-units l = l.all ++ dependences_from l.library l.units ≡ dependences_from l.library l.library

abbrev pub decreases-loop-units : goal.decreases-loop-units
decreases-loop-units l = length l.units
