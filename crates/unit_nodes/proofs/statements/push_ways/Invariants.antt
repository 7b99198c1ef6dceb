use Rattle.std.proofs.Common.{◌≡◌, map, drop}
use Rattle.typed_units.specs.View.{way_of}
use Rattle.unit_nodes.specs.Nodes.{ways_onto}
use Rattle.unit_nodes.specs.View.{node_of}
use Rattle.unit_nodes.proofs.statements.push_ways.Given as goal

abbrev pub invariant-loop-way : goal.invariant-loop-way
invariant-loop-way l =
    ways_onto (map (node_of l.shapes) l.found) (map (way_of l.shapes) (drop l.way-index l.way-items)) ≡ ways_onto (map (node_of l.shapes) l.initial.found) (map (way_of l.shapes) l.way-items)
