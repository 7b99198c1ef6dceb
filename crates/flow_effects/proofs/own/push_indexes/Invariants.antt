use Rattle.std.proofs.Common.{◌≡◌, map, drop}
use Rattle.typed_units.specs.View.{expr, path_of}
use Rattle.unit_nodes.specs.Parts.{path_parts}
use Rattle.unit_nodes.specs.View.{node_of}
use Rattle.flow_rules.specs.Functions.{each_onto}
use Rattle.flow_effects.proofs.own.push_indexes.Given as goal

abbrev pub invariant-loop-step : goal.invariant-loop-step
invariant-loop-step l =
    each_onto (map (node_of l.shapes) l.found) (path_parts (path_of (expr l.shapes) (drop l.step-index l.step-items))) ≡ each_onto (map (node_of l.shapes) l.initial.found) (path_parts (path_of (expr l.shapes) l.step-items))
