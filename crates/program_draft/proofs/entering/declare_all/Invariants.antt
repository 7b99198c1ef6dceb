use Rattle.std.proofs.Common.{◌≡◌, drop}
use Rattle.statement_typing.specs.Drafts.{declare_all}
use Rattle.program_draft.proofs.entering.declare_all.Given as goal

abbrev pub invariant-loop-name : goal.invariant-loop-name
invariant-loop-name l = declare_all l.file (drop l.name-index l.names) l.entity l.draft ≡ declare_all l.file l.names l.entity l.fn.draft
