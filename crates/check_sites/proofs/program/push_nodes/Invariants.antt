use Rattle.std.proofs.Common.{◌≡◌, ◌++◌, map, drop}
use Rattle.typed_units.specs.View.{text_of}
use Rattle.unit_nodes.specs.View.{node_of}
use Rattle.check_sites.specs.Sites.{checks_of}
use Rattle.check_sites.proofs.program.push_nodes.Given as goal

abbrev pub invariant-loop-node : goal.invariant-loop-node
invariant-loop-node l =
    l.found.items ++ checks_of (text_of l.program) l.owner (map (node_of l.program.shapes) (drop l.node-index l.nodes)) ≡ l.initial.found.items ++ checks_of (text_of l.program) l.owner (map (node_of l.program.shapes) l.nodes)
