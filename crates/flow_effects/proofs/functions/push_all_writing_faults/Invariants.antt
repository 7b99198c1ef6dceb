use Rattle.std.proofs.Common.{◌≡◌, ◌++◌, map, drop}
use Rattle.unit_nodes.specs.View.{node_of}
use Rattle.flow_rules.specs.Base.{gathered}
use Rattle.flow_rules.specs.Functions.{writing_faults}
use Rattle.flow_effects.proofs.functions.push_all_writing_faults.Given as goal

abbrev pub invariant-loop-node : goal.invariant-loop-node
invariant-loop-node l =
    l.found ++ gathered (writing_faults l.effects) (map (node_of l.shapes) (drop l.node-index l.nodes)) ≡ l.initial.found ++ gathered (writing_faults l.effects) (map (node_of l.shapes) l.nodes)
