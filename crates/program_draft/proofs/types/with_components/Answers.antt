use Rattle.std.proofs.Common.{ℕ, List, [], ◌∷◌, ◌++◌, ap, sym, ◌+◌, ◌∙◌, drop}
use Rattle.std.proofs.lemmas.List.{drop_all, drop_more}
use Rattle.ada_text.specs.declared.token.Span.{Span}
use Rattle.program_scope.specs.Homes.{file_of}
use Rattle.statement_typing.specs.declared.draft.Draft.{Draft}
use Rattle.statement_typing.specs.Drafts.{in_world, with_components}
use Rattle.type_base.specs.declared.world.Component.{Component}
use Rattle.program_draft.proofs.types.with_components.Goals as goal

abbrev no_name : Span
no_name = record { from = 0; to = 0 }

-- a draft with other components
abbrev holding : Draft → List Component → Draft
holding d ks = in_world (λ w. record w { components = ks }) d

-- a draft with one more, of a name of this number
abbrev with_one : Draft → ℕ → ℕ → Draft
with_one d k n = holding d (d.world.components ++ record { name = n; subtype = k } ∷ [])

pub loop-name-preserved : goal.loop-name-preserved
loop-name-preserved c =
    ap (with_components (file_of c.args.file.now).name (drop (c.loop-name.name-index + 1) c.args.names.now) c.args.subtype) (ap (holding c.loop-name.draft) c.in_ok-push.ensures.ok ∙ ap (with_one c.loop-name.draft c.args.subtype) c.name.ensures)
    ∙ ap (λ (l : List Span). with_components (file_of c.args.file.now).name l c.args.subtype c.loop-name.draft) (sym (drop_more c.args.names.now c.loop-name.name-index no_name c.loop-name-test.true))
    ∙ c.loop-name.invariant

pub returns : goal.returns
returns c =
    ap (λ (l : List Span). with_components (file_of c.args.file.now).name l c.args.subtype c.loop-name.draft) (sym (drop_all c.loop-name.name-index c.args.names.now c.loop-name-test.false))
    ∙ c.loop-name.invariant
