use Rattle.std.proofs.Common.{◌≡◌, ◌∙◌, ◌++◌, List, ap, length, sym, ℕ}
use Rattle.ada_values.specs.declared.place.Place.{Place}
use Rattle.program_scope.specs.Homes.{home_of}
use Rattle.statement_typing.specs.Files.{place_at}
use Rattle.statement_typing.specs.Numbers.{in_decls, in_stmts, loops_in, turns_in}
use Rattle.statement_typing.specs.Objects.{present}
use Rattle.statement_typing.specs.Statements.{stmts}
use Rattle.statement_typing.specs.Units.{around, returns_of}
use Rattle.subprogram_draft.proofs.Counting.{body_by_counts}
use Rattle.subprogram_draft.specs.Counted.{body_with}
use Rattle.syntax_view.specs.View.{decl, decls_of, heading_of, stmt, stmts_of}
use Rattle.typed_units.specs.declared.statements.Stmt.{Stmt}
use Rattle.typing_rules.specs.declared.prefix.Found.{Found}
use Rattle.type_checker.proofs.bodies.with_statements.Goals as goal

pub returns-clause-draft : goal.returns-clause-draft
returns-clause-draft c =
    c.in_ok-with_body.ensures
    ∙ ap (λ (p : Place). body_with p c.args.routine c.args.numbers.now.turns c.args.numbers.now.indexes c.args.numbers.now.loops c.in_ok-found.found.statements c.args.draft.now) c.place_at.ensures
    ∙ ap (λ (n : ℕ). body_with (place_at (home_of c.args.home.now) c.args.sub.now.name) c.args.routine n c.args.numbers.now.indexes c.args.numbers.now.loops c.in_ok-found.found.statements c.args.draft.now) c.requires.turns
    ∙ ap (λ (n : ℕ). body_with (place_at (home_of c.args.home.now) c.args.sub.now.name) c.args.routine (length (turns_in (stmts_of stmt c.args.body.now.statements))) n c.args.numbers.now.loops c.in_ok-found.found.statements c.args.draft.now) c.requires.indexes
    ∙ ap (λ (n : ℕ). body_with (place_at (home_of c.args.home.now) c.args.sub.now.name) c.args.routine (length (turns_in (stmts_of stmt c.args.body.now.statements))) (length (in_decls (decls_of decl c.args.body.now.declarations) ++ in_stmts (stmts_of stmt c.args.body.now.statements))) n c.in_ok-found.found.statements c.args.draft.now) c.requires.loops
    ∙ ap (λ (f : Found (List Stmt)). body_with (place_at (home_of c.args.home.now) c.args.sub.now.name) c.args.routine (length (turns_in (stmts_of stmt c.args.body.now.statements))) (length (in_decls (decls_of decl c.args.body.now.declarations) ++ in_stmts (stmts_of stmt c.args.body.now.statements))) (length (loops_in (stmts_of stmt c.args.body.now.statements))) f c.args.draft.now) c.in_ok-found.ensures.statements
    ∙ sym (body_by_counts (place_at (home_of c.args.home.now) c.args.sub.now.name) c.args.routine (decls_of decl c.args.body.now.declarations) (stmts_of stmt c.args.body.now.statements)
    (stmts (around (home_of c.args.home.now) (returns_of (present (home_of c.args.home.now) c.args.draft.now) (heading_of c.args.sub.now).result) c.args.draft.now.world) (stmts_of stmt c.args.body.now.statements)) c.args.draft.now)
