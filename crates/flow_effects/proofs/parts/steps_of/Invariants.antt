use Rattle.std.proofs.Common.{◌≡◌, ◌++◌, map, drop}
use Rattle.typed_units.specs.View.{expr, path_of}
use Rattle.flow_rules.specs.Aliases.{steps_of}
use Rattle.flow_effects.specs.Seen.{step_of}
use Rattle.flow_effects.proofs.parts.steps_of.Given as goal

abbrev pub invariant-loop-step : goal.invariant-loop-step
invariant-loop-step l =
    map step_of l.found ++ steps_of (path_of (expr l.shapes) (drop l.step-index l.step-items)) ≡ steps_of (path_of (expr l.shapes) l.step-items)
