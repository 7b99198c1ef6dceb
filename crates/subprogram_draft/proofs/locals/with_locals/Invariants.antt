use Rattle.std.proofs.Common.{◌≡◌, drop}
use Rattle.program_scope.specs.Homes.{home_of}
use Rattle.statement_typing.specs.Objects.{with_locals}
use Rattle.subprogram_draft.proofs.locals.with_locals.Given as goal

abbrev pub invariant-loop-name : goal.invariant-loop-name
invariant-loop-name l = with_locals (home_of l.home) l.constant l.subtype l.value (drop l.name-index l.names) l.draft ≡ with_locals (home_of l.home) l.constant l.subtype l.value l.names l.fn.draft
