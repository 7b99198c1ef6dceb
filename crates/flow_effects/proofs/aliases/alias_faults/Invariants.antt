use Rattle.std.proofs.Common.{◌≡◌, ◌++◌, map, drop}
use Rattle.typed_units.specs.View.{text_of}
use Rattle.unit_nodes.specs.View.{node_of}
use Rattle.flow_rules.specs.Aliases.{node_faults}
use Rattle.flow_rules.specs.Base.{gathered}
use Rattle.flow_effects.proofs.aliases.alias_faults.Given as goal

abbrev pub invariant-loop-node : goal.invariant-loop-node
invariant-loop-node l =
    l.found ++ gathered (node_faults (text_of l.program) l.effects) (map (node_of l.program.shapes) (drop l.node-index l.node-items)) ≡ gathered (node_faults (text_of l.program) l.effects) (map (node_of l.program.shapes) l.node-items)
