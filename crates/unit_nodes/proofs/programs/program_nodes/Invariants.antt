use Rattle.std.proofs.Common.{◌≡◌, [], map, drop}
use Rattle.typed_units.specs.View.{routine}
use Rattle.unit_nodes.specs.Nodes.{routines_onto}
use Rattle.unit_nodes.specs.View.{node_of}
use Rattle.unit_nodes.proofs.programs.program_nodes.Given as goal

abbrev pub invariant-loop-sub : goal.invariant-loop-sub
invariant-loop-sub l =
    (l.number ≡ l.sub-index) × (routines_onto l.sub-index (map (node_of l.program.shapes) l.found) (map (routine l.program.shapes) (drop l.sub-index l.sub-items)) ≡ routines_onto 0 [] (map (routine l.program.shapes) l.sub-items))
