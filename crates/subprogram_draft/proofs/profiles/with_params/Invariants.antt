use Rattle.std.proofs.Common.{◌≡◌, ◌+◌, drop}
use Rattle.program_scope.specs.Homes.{home_of}
use Rattle.statement_typing.specs.Routines.{with_params}
use Rattle.subprogram_draft.proofs.profiles.with_params.Given as goal

abbrev pub invariant-loop-name : goal.invariant-loop-name
invariant-loop-name l =
    (with_params (home_of l.home) l.routine l.group.mode l.group.subtype (drop l.name-index l.group.names) l.count l.draft ≡ with_params (home_of l.home) l.routine l.group.mode l.group.subtype l.group.names l.before l.fn.draft)
    × (l.count ≡ l.before + l.name-index)
