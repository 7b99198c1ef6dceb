use Rattle.std.proofs.Common.{◌≡◌, map, drop}
use Rattle.flow_effects.specs.OwnParts.{conditions_of}
use Rattle.unit_nodes.specs.View.{node_of}
use Rattle.flow_rules.specs.Functions.{each_onto}
use Rattle.flow_effects.proofs.own.push_conditions.Given as goal

abbrev pub invariant-loop-branch : goal.invariant-loop-branch
invariant-loop-branch l =
    each_onto (map (node_of l.shapes) l.found) (conditions_of l.shapes (drop l.branch-index l.branch-items)) ≡ each_onto (map (node_of l.shapes) l.initial.found) (conditions_of l.shapes l.branch-items)
