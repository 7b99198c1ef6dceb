use Rattle.std.proofs.Common.{◌≡◌, ◌++◌, drop}
use Rattle.syntax_view.specs.View.{decl, decls_of}
use Rattle.statement_typing.specs.Numbers.{in_decls}
use Rattle.text_numbers.proofs.declarations.push_decls.Given as goal

abbrev pub invariant-loop-declaration : goal.invariant-loop-declaration
invariant-loop-declaration l = l.found ++ in_decls (decls_of decl (drop l.declaration-index l.declaration-items)) ≡ l.initial.found ++ in_decls (decls_of decl l.declaration-items)
