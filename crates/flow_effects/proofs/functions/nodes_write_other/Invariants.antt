use Rattle.std.proofs.Common.{◌≡◌, length, map}
use Rattle.unit_nodes.specs.View.{node_of}
use Rattle.flow_rules.specs.Base.{gathered, objects_written}
use Rattle.flow_rules.specs.Functions.{any_other}
use Rattle.flow_effects.proofs.functions.nodes_write_other.Given as goal

abbrev pub invariant-loop-nodes : goal.invariant-loop-nodes
invariant-loop-nodes l = any_other (gathered objects_written (map (node_of l.shapes) l.nodes)) ≡ any_other (gathered objects_written (map (node_of l.shapes) l.initial.nodes))

abbrev pub decreases-loop-nodes : goal.decreases-loop-nodes
decreases-loop-nodes l = length l.nodes
