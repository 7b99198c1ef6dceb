use Rattle.std.proofs.Common.{◌≡◌, drop}
use Rattle.name_numbers.specs.Numbers.{number_at}
use Rattle.syntax_view.specs.View.{decl, decls_of}
use Rattle.name_events.specs.Declarations.{decls_onto}
use Rattle.name_events.proofs.subprograms.push_decls.Given as goal

abbrev pub invariant-loop-declaration : goal.invariant-loop-declaration
invariant-loop-declaration l = decls_onto (number_at l.names) l.region l.first l.found (decls_of decl (drop l.declaration-index l.declaration-items)) ≡ decls_onto (number_at l.names) l.region l.initial.first l.initial.found (decls_of decl l.declaration-items)
