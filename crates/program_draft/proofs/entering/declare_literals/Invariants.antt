use Rattle.std.proofs.Common.{◌≡◌, drop}
use Rattle.statement_typing.specs.Drafts.{declare_literals}
use Rattle.program_draft.proofs.entering.declare_literals.Given as goal

abbrev pub invariant-loop-position : goal.invariant-loop-position
invariant-loop-position l =
    declare_literals l.file l.subtype l.position (drop l.position l.names) l.draft ≡ declare_literals l.file l.subtype 0 l.names l.fn.draft
