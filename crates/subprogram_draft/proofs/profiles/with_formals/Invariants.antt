use Rattle.std.proofs.Common.{◌≡◌, drop}
use Rattle.program_scope.specs.Homes.{home_of}
use Rattle.statement_typing.specs.Routines.{with_formals}
use Rattle.subprogram_draft.proofs.profiles.with_formals.Given as goal

abbrev pub invariant-loop-group : goal.invariant-loop-group
invariant-loop-group l = with_formals (home_of l.home) l.routine (drop l.group-index l.groups) l.count l.draft ≡ with_formals (home_of l.home) l.routine l.groups 0 l.fn.draft
