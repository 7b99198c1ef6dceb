-- The nodes that the code's nodes are, and the code's lists of parts as definitions speak of them.
use Rattle.std.specs.Prelude.{List, [], ◌∷◌}
use Rattle.ada_values.specs.declared.shapes.Shape.{Shape}
use Rattle.typed_units.specs.declared.expressions.Arm.{Arm}
use Rattle.typed_units.specs.declared.expressions.Association.{Association}
use Rattle.typed_units.specs.declared.expressions.Expr.{Expr}
use Rattle.typed_units.specs.declared.statements.Alternative.{Alternative}
use Rattle.typed_units.specs.declared.statements.Branch.{Branch}
use Rattle.typed_units.specs.declared.statements.Stmt.{Stmt}
use Rattle.typed_units.specs.Syntax as text
use Rattle.typed_units.specs.View.{actual_of, demand_of, expr, stmt, stmts}
use Rattle.unit_nodes.specs.declared.node.Asked.TheVariants as asked
use Rattle.unit_nodes.specs.declared.node.NodeRef.{NodeRef}
use Rattle.unit_nodes.specs.declared.node.NodeRef.TheVariants as node
use Rattle.unit_nodes.specs.Nodes.{Node, subprogram, pre, post, statement, demand, passed, item_index, association, expression, onto, sts_onto}

abbrev pub node_of : List Shape → NodeRef → Node
node_of shapes (node.Subprogram k) = subprogram k
node_of shapes (node.Pre e) = pre (expr shapes e.now)
node_of shapes (node.Post e) = post (expr shapes e.now)
node_of shapes (node.Statement s) = statement (stmt shapes s.now)
node_of shapes (node.Demand d) = demand (demand_of shapes d.now)
node_of shapes (node.Passed q a) = passed q (actual_of (expr shapes) a.now.formal a.now.value)
node_of shapes (node.Index i) = item_index i.now.checked (expr shapes i.now.value)
node_of shapes (node.Association a) = association a.now.ranges a.now.others a.now.checks (expr shapes a.now.value)
node_of shapes (node.Expression a e) = expression a (expr shapes e.now)

-- the nodes of arms, without what stands after `else`
abbrev pub each_arm_onto : List Shape → List Node → List (Arm Expr) → List Node
each_arm_onto shapes xs [] = xs
each_arm_onto shapes xs (a ∷ rest) = each_arm_onto shapes (onto asked.Whole (onto asked.Whole xs (expr shapes a.condition)) (expr shapes a.gives)) rest

abbrev pub assocs_seen : List Shape → List (Association Expr) → text.Assocs
assocs_seen shapes [] = text.no_assocs
assocs_seen shapes (a ∷ rest) = text.assoc a.ranges a.others a.checks (expr shapes a.value) (assocs_seen shapes rest)

-- the nodes of branches, without what stands after `else`
abbrev pub each_branch_onto : List Shape → List Node → List (Branch Stmt) → List Node
each_branch_onto shapes xs [] = xs
each_branch_onto shapes xs (b ∷ rest) = each_branch_onto shapes (sts_onto (onto asked.Whole xs (expr shapes b.condition)) (stmts shapes b.body)) rest

abbrev pub alternatives_seen : List Shape → List (Alternative Stmt) → text.Alternatives
alternatives_seen shapes [] = text.no_alternatives
alternatives_seen shapes (a ∷ rest) = text.alternative a.choices a.others (stmts shapes a.body) (alternatives_seen shapes rest)
