use Rattle.std.proofs.Common.{◌≡◌, map, drop}
use Rattle.typed_units.specs.View.{demand_of}
use Rattle.flow_effects.specs.OwnParts.{each_demand_onto}
use Rattle.unit_nodes.specs.View.{node_of}
use Rattle.flow_effects.proofs.own.push_demands.Given as goal

abbrev pub invariant-loop-demand : goal.invariant-loop-demand
invariant-loop-demand l =
    each_demand_onto (map (node_of l.shapes) l.found) (map (demand_of l.shapes) (drop l.demand-index l.demand-items)) ≡ each_demand_onto (map (node_of l.shapes) l.initial.found) (map (demand_of l.shapes) l.demand-items)
