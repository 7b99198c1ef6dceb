use Rattle.std.proofs.Common.{ap, ◌∙◌, List}
use Rattle.typed_units.specs.declared.programs.Sub.{Sub}
use Rattle.statement_typing.specs.declared.draft.Draft.{Draft}
use Rattle.statement_typing.specs.Aspects.{with_aspects}
use Rattle.statement_typing.specs.Objects.{changed_at}
use Rattle.subprogram_draft.proofs.Kept.{aspects_kept, on_ok}
use Rattle.subprogram_draft.proofs.aspects.with_contract.Goals as goal

pub returns : goal.returns
returns c =
    let made = with_aspects c.args.routine c.args.aspects.now c.args.draft.now in
    let indexed = changed_at c.args.routine (λ (x : Sub). record x { indexes = c.args.indexes }) in
    on_ok c.change_routine.result
    (λ e. ap (λ (xs : List Sub). record (c.with_aspects.new.draft) { subs = xs }) e
    ∙ ap (λ (d : Draft). record d { subs = indexed d.subs }) c.in_ok-with_aspects.ensures
    ∙ aspects_kept c.args.routine c.args.aspects.now (indexed made.subs) c.args.draft.now)
    c.change_routine.ensures
