use Rattle.std.proofs.Common.{◌≡◌, ◌++◌, length}
use Rattle.name_library.specs.Library.{units_from}
use Rattle.name_library.proofs.lookups.units_of.Given as goal

abbrev pub invariant-loop-files : goal.invariant-loop-files
invariant-loop-files l = l.units ++ units_from l.number l.files ≡ units_from 0 l.initial.files

abbrev pub decreases-loop-files : goal.decreases-loop-files
decreases-loop-files l = length l.files
