use Rattle.std.proofs.Common.{◌≡◌, drop}
use Rattle.name_numbers.specs.Numbers.{number_at}
use Rattle.syntax_view.specs.View.{decl, decls_of}
use Rattle.name_events.specs.Declarations.{plain_decls_onto}
use Rattle.name_events.proofs.declarations.push_plain_list.Given as goal

abbrev pub invariant-loop-declaration : goal.invariant-loop-declaration
invariant-loop-declaration l = plain_decls_onto (number_at l.names) l.first l.found (decls_of decl (drop l.declaration-index l.declaration-items)) ≡ plain_decls_onto (number_at l.names) l.initial.first l.initial.found (decls_of decl l.declaration-items)
