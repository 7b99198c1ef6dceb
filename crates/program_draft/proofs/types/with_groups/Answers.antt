use Rattle.std.proofs.Common.{List, ap, sym, subst, ◌+◌, ◌∙◌, drop, ◌∷◌}
use Rattle.std.proofs.lemmas.List.{drop_all, drop_more}
use Rattle.program_scope.specs.Homes.{file_of}
use Rattle.sound_subtypes.specs.Sound.{IsSoundGroup}
use Rattle.statement_typing.specs.declared.parts.Group.{Group}
use Rattle.statement_typing.specs.Drafts.{with_groups}
use Rattle.program_draft.proofs.types.with_groups.Goals as goal

pub with_group-requires : goal.with_group-requires
with_group-requires c =
    subst IsSoundGroup (sym c.group-item.is) (c.requires c.loop-group.group-index c.group-item.result c.loop-group-test.true)

pub loop-group-preserved : goal.loop-group-preserved
loop-group-preserved c =
    ap (with_groups (file_of c.args.file.now).name (drop (c.loop-group.group-index + 1) c.args.groups.now)) c.in_ok-with_group.ensures
    ∙ ap (λ (g : Group). with_groups (file_of c.args.file.now).name (g ∷ drop (c.loop-group.group-index + 1) c.args.groups.now) c.loop-group.draft) c.group-item.is
    ∙ ap (λ (l : List Group). with_groups (file_of c.args.file.now).name l c.loop-group.draft) (sym (drop_more c.args.groups.now c.loop-group.group-index c.group-item.result c.loop-group-test.true))
    ∙ c.loop-group.invariant

pub returns : goal.returns
returns c =
    ap (λ (l : List Group). with_groups (file_of c.args.file.now).name l c.loop-group.draft) (sym (drop_all c.loop-group.group-index c.args.groups.now c.loop-group-test.false))
    ∙ c.loop-group.invariant
