use Rattle.std.proofs.Common.{◌≡◌, drop}
use Rattle.program_scope.specs.Homes.{file_of}
use Rattle.statement_typing.specs.Drafts.{with_components}
use Rattle.program_draft.proofs.types.with_components.Given as goal

abbrev pub invariant-loop-name : goal.invariant-loop-name
invariant-loop-name l =
    with_components (file_of l.file).name (drop l.name-index l.names) l.subtype l.draft ≡ with_components (file_of l.file).name l.names l.subtype l.fn.draft
