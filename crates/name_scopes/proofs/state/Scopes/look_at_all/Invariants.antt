use Rattle.std.proofs.Common.{◌≡◌, length}
use Rattle.name_scopes.specs.Steps.{late_ones}
use Rattle.name_scopes.proofs.state.Scopes.look_at_all.Given as goal

abbrev pub invariant-loop-late : goal.invariant-loop-late
invariant-loop-late l = late_ones l.units l.self l.late ≡ late_ones l.units l.initial.self l.initial.late

abbrev pub decreases-loop-late : goal.decreases-loop-late
decreases-loop-late l = length l.late
