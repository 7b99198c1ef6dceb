use Rattle.std.proofs.Common.{◌≡◌, ◌++◌, length}
use Rattle.name_library.specs.Chains.{chains_from, dependences}
use Rattle.name_library.proofs.circles.chains.Given as goal

abbrev pub invariant-loop-units : goal.invariant-loop-units
invariant-loop-units l = (l.all ≡ dependences l.library) × (l.found ++ chains_from l.all l.units ≡ chains_from (dependences l.library) l.library)

abbrev pub decreases-loop-units : goal.decreases-loop-units
decreases-loop-units l = length l.units
