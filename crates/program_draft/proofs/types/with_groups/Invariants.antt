use Rattle.std.proofs.Common.{◌≡◌, drop}
use Rattle.program_scope.specs.Homes.{file_of}
use Rattle.statement_typing.specs.Drafts.{with_groups}
use Rattle.program_draft.proofs.types.with_groups.Given as goal

abbrev pub invariant-loop-group : goal.invariant-loop-group
invariant-loop-group l =
    with_groups (file_of l.file).name (drop l.group-index l.groups) l.draft ≡ with_groups (file_of l.file).name l.groups l.fn.draft
