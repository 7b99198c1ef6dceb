use Rattle.std.proofs.Common.{◌≡◌, length}
use Rattle.name_scopes.specs.Steps.{after}
use Rattle.name_scopes.proofs.state.Scopes.go_on.Given as goal

abbrev pub invariant-loop-events : goal.invariant-loop-events
invariant-loop-events l = after l.units l.self l.events ≡ after l.units l.initial.self l.initial.events

abbrev pub decreases-loop-events : goal.decreases-loop-events
decreases-loop-events l = length l.events
