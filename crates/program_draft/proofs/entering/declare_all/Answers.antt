use Rattle.std.proofs.Common.{List, ap, sym, ◌+◌, ◌∙◌, drop}
use Rattle.std.proofs.lemmas.List.{drop_all, drop_more}
use Rattle.ada_text.specs.declared.token.Span.{Span}
use Rattle.statement_typing.specs.Drafts.{declare_all}
use Rattle.program_draft.proofs.entering.declare_all.Goals as goal

abbrev no_name : Span
no_name = record { from = 0; to = 0 }

pub loop-name-preserved : goal.loop-name-preserved
loop-name-preserved c =
    ap (declare_all c.args.file (drop (c.loop-name.name-index + 1) c.args.names.now) c.args.entity) c.in_ok-declare.ensures
    ∙ ap (λ (l : List Span). declare_all c.args.file l c.args.entity c.loop-name.draft) (sym (drop_more c.args.names.now c.loop-name.name-index no_name c.loop-name-test.true))
    ∙ c.loop-name.invariant

pub returns : goal.returns
returns c =
    ap (λ (l : List Span). declare_all c.args.file l c.args.entity c.loop-name.draft) (sym (drop_all c.loop-name.name-index c.args.names.now c.loop-name-test.false))
    ∙ c.loop-name.invariant
