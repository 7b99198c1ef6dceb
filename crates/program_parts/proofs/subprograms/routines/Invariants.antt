use Rattle.std.proofs.Common.{◌≡◌, ◌++◌, length, map}
use Rattle.statement_typing.specs.Units as units
use Rattle.program_scope.specs.Homes.{file_of}
use Rattle.program_parts.proofs.subprograms.routines.Given as goal

abbrev pub invariant-loop-files : goal.invariant-loop-files
invariant-loop-files l = l.found ++ units.routines (map file_of l.files) ≡ units.routines (map file_of l.initial.files)

abbrev pub decreases-loop-files : goal.decreases-loop-files
decreases-loop-files l = length l.files
