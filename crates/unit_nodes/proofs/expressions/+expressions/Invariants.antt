use Rattle.std.proofs.Common.{◌≡◌, ◌+◌, ◌*◌, map, drop}
use Rattle.typed_units.specs.View.{actuals_of, expr, path_of}
use Rattle.unit_nodes.specs.Nodes.{actuals_onto, assocs_onto, path_onto}
use Rattle.unit_nodes.specs.View.{assocs_seen, each_arm_onto, node_of}
use Rattle.unit_nodes.proofs.expressions.+expressions.Given as goal

abbrev pub decreases-push_expression : goal.decreases-push_expression
decreases-push_expression l = 4 * goal.size-push_expression l

abbrev pub decreases-push_path : goal.decreases-push_path
decreases-push_path l = 4 * goal.size-push_path l + 1

abbrev pub decreases-push_actuals : goal.decreases-push_actuals
decreases-push_actuals l = 4 * goal.size-push_actuals l + 2

abbrev pub decreases-push_associations : goal.decreases-push_associations
decreases-push_associations l = 4 * goal.size-push_associations l + 1

abbrev pub decreases-push_arms : goal.decreases-push_arms
decreases-push_arms l = 4 * goal.size-push_arms l + 1

abbrev pub invariant-push_path-loop-step : goal.invariant-push_path-loop-step
invariant-push_path-loop-step l =
    path_onto (map (node_of l.shapes) l.found) (path_of (expr l.shapes) (drop l.step-index l.step-items)) ≡ path_onto (map (node_of l.shapes) l.initial.found) (path_of (expr l.shapes) l.step-items)

abbrev pub invariant-push_actuals-loop-argument : goal.invariant-push_actuals-loop-argument
invariant-push_actuals-loop-argument l =
    actuals_onto l.callee (map (node_of l.shapes) l.found) (actuals_of (expr l.shapes) (drop l.argument-index l.argument-items)) ≡ actuals_onto l.callee (map (node_of l.shapes) l.initial.found) (actuals_of (expr l.shapes) l.argument-items)

abbrev pub invariant-push_associations-loop-association : goal.invariant-push_associations-loop-association
invariant-push_associations-loop-association l =
    assocs_onto (map (node_of l.shapes) l.found) (assocs_seen l.shapes (drop l.association-index l.association-items)) ≡ assocs_onto (map (node_of l.shapes) l.initial.found) (assocs_seen l.shapes l.association-items)

abbrev pub invariant-push_arms-loop-arm : goal.invariant-push_arms-loop-arm
invariant-push_arms-loop-arm l =
    each_arm_onto l.shapes (map (node_of l.shapes) l.found) (drop l.arm-index l.arm-items) ≡ each_arm_onto l.shapes (map (node_of l.shapes) l.initial.found) l.arm-items
