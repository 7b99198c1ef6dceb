-- A statement's own expressions as the code goes over them. It serves the proof alone.
use Rattle.std.specs.Prelude.{List, [], ◌∷◌}
use Rattle.ada_values.specs.declared.shapes.Shape.{Shape}
use Rattle.typed_units.specs.declared.statements.Branch.{Branch}
use Rattle.typed_units.specs.declared.statements.Stmt.{Stmt}
use Rattle.typed_units.specs.Syntax as text
use Rattle.typed_units.specs.Syntax.{Ex}
use Rattle.typed_units.specs.View.{expr}
use Rattle.unit_nodes.specs.Inner.{demand_parts}
use Rattle.unit_nodes.specs.Nodes.{Node}
use Rattle.unit_nodes.specs.Parts.{actual_parts}
use Rattle.flow_rules.specs.Functions.{each_onto}

abbrev pub conditions_of : List Shape → List (Branch Stmt) → List Ex
conditions_of shapes [] = []
conditions_of shapes (b ∷ bs) = expr shapes b.condition ∷ conditions_of shapes bs

-- the nodes of what is passed, one actual after the other
abbrev pub each_actual_onto : List Node → text.Actuals → List Node
each_actual_onto xs text.no_actuals = xs
each_actual_onto xs (text.actual a rest) = each_actual_onto (each_onto xs (actual_parts a)) rest

abbrev pub each_demand_onto : List Node → List text.Demand → List Node
each_demand_onto xs [] = xs
each_demand_onto xs (d ∷ ds) = each_demand_onto (each_onto xs (demand_parts d)) ds
