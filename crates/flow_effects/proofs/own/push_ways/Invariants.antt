use Rattle.std.proofs.Common.{◌≡◌, map, drop}
use Rattle.typed_units.specs.View.{way_of}
use Rattle.unit_nodes.specs.Inner.{ways_parts}
use Rattle.unit_nodes.specs.View.{node_of}
use Rattle.flow_rules.specs.Functions.{each_onto}
use Rattle.flow_effects.proofs.own.push_ways.Given as goal

abbrev pub invariant-loop-way : goal.invariant-loop-way
invariant-loop-way l =
    each_onto (map (node_of l.shapes) l.found) (ways_parts (map (way_of l.shapes) (drop l.way-index l.way-items))) ≡ each_onto (map (node_of l.shapes) l.initial.found) (ways_parts (map (way_of l.shapes) l.way-items))
