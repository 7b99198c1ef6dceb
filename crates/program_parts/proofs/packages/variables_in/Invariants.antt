use Rattle.std.proofs.Common.{◌≡◌, ◌++◌, length}
use Rattle.statement_typing.specs.Units as units
use Rattle.program_scope.specs.Homes.{file_of}
use Rattle.syntax_view.specs.View.{decl, decls_of}
use Rattle.program_parts.proofs.packages.variables_in.Given as goal

abbrev pub invariant-loop-declarations : goal.invariant-loop-declarations
invariant-loop-declarations l = l.found ++ units.variables_in (file_of l.file) l.package_name (decls_of decl l.declarations) ≡ l.initial.found ++ units.variables_in (file_of l.file) l.package_name (decls_of decl l.initial.declarations)

abbrev pub decreases-loop-declarations : goal.decreases-loop-declarations
decreases-loop-declarations l = length l.declarations
