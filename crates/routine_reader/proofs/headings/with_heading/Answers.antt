use Rattle.std.proofs.Common.{◌≡◌, ◌∙◌, ◌++◌, ℕ, List, [], OnOk, ap, arith, length, map, subst}
use Rattle.ada_syntax.specs.declared.declarations.Aspect.{Aspect}
use Rattle.program_scope.specs.Homes.{home_of}
use Rattle.statement_typing.specs.declared.draft.Draft.{Draft}
use Rattle.statement_typing.specs.Numbers.{in_aspects, is_post, is_pre, numbered}
use Rattle.syntax_view.specs.View.{aspect_of, heading_of}
use Rattle.routine_reader.proofs.Contracts.{first_heading}
use Rattle.routine_reader.proofs.headings.with_heading.Goals as goal

pub returns-then-first-clause-program : goal.returns-then-first-clause-program
returns-then-first-clause-program c =
    let h = home_of c.args.home.now in
    let indexes : List ℕ = c.in_ok-indexes.indexes in
    let listed = c.in_ok-indexes.ensures ∙ ap (λ (l : List Aspect). in_aspects is_pre h.file.word (map aspect_of l) ++ in_aspects is_post h.file.word (map aspect_of l)) c.as_slice-aspects.ensures in
    let named = c.in_ok-numbers.ensures ∙ ap (λ (l : List ℕ). numbered 0 l [] []) c.as_slice.ensures in
    let counted : c.in-Ok.count ≡ length indexes = omega (arith, c.in-Ok.ensures, c.len.ensures) in
    let same = first_heading h c.args.routine (heading_of c.args.sub.now) c.args.draft.now c.args.first indexes c.in_ok-numbers.numbers c.in-Ok.count c.if-first.true listed named counted in
    subst (λ (d : Draft). OnOk c.declare_heading.result (c.declare_heading.new.draft ≡ d)) same c.declare_heading.ensures.program
