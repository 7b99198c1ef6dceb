use Rattle.std.proofs.Common.{◌≡◌, ◌++◌, length, map}
use Rattle.statement_typing.specs.Units as units
use Rattle.program_scope.specs.Homes.{file_of}
use Rattle.program_parts.proofs.packages.variables.Given as goal

abbrev pub invariant-loop-left : goal.invariant-loop-left
invariant-loop-left l = l.found ++ units.variables (map file_of l.files) (map file_of l.left) ≡ units.variables (map file_of l.files) (map file_of l.files)

abbrev pub decreases-loop-left : goal.decreases-loop-left
decreases-loop-left l = length l.left
