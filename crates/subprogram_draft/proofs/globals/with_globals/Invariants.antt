use Rattle.std.proofs.Common.{◌≡◌, drop}
use Rattle.program_scope.specs.Homes.{home_of}
use Rattle.statement_typing.specs.Objects.{with_globals}
use Rattle.subprogram_draft.proofs.globals.with_globals.Given as goal

abbrev pub invariant-loop-name : goal.invariant-loop-name
invariant-loop-name l = with_globals (home_of l.home) l.subtype l.value (drop l.name-index l.names) l.draft ≡ with_globals (home_of l.home) l.subtype l.value l.names l.fn.draft
