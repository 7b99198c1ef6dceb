use Rattle.std.proofs.Common.{◌≡◌, ◌++◌, length}
use Rattle.statement_typing.specs.Units as units
use Rattle.program_scope.specs.Homes.{file_of}
use Rattle.program_parts.proofs.packages.variables_named.Given as goal

abbrev pub invariant-loop-names : goal.invariant-loop-names
invariant-loop-names l = l.found ++ units.variables_named (file_of l.file) l.package_name l.names ≡ l.initial.found ++ units.variables_named (file_of l.file) l.package_name l.initial.names

abbrev pub decreases-loop-names : goal.decreases-loop-names
decreases-loop-names l = length l.names
