use Rattle.std.proofs.Common.{◌≡◌, map, drop}
use Rattle.typed_units.specs.View.{actuals_of, expr}
use Rattle.flow_effects.specs.OwnParts.{each_actual_onto}
use Rattle.unit_nodes.specs.View.{node_of}
use Rattle.flow_effects.proofs.own.push_actuals.Given as goal

abbrev pub invariant-loop-argument : goal.invariant-loop-argument
invariant-loop-argument l =
    each_actual_onto (map (node_of l.shapes) l.found) (actuals_of (expr l.shapes) (drop l.argument-index l.argument-items)) ≡ each_actual_onto (map (node_of l.shapes) l.initial.found) (actuals_of (expr l.shapes) l.argument-items)
