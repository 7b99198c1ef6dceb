-- The nodes of expressions by how many operands they have.
use Rattle.expression_copies.specs.declared.forms.One.{One}
use Rattle.expression_copies.specs.declared.forms.One.TheVariants as one
use Rattle.expression_copies.specs.declared.forms.Two.{Two}
use Rattle.expression_copies.specs.declared.forms.Two.TheVariants as two
use Rattle.expression_copies.specs.declared.forms.Three.{Three}
use Rattle.expression_copies.specs.declared.forms.Three.TheVariants as three
use Rattle.typed_units.specs.declared.expressions.Expr.{Expr}
use Rattle.typed_units.specs.declared.expressions.ExprNode.{ExprNode}
use Rattle.typed_units.specs.declared.expressions.ExprNode.TheVariants as node

abbrev pub one_node : One → Expr → ExprNode Expr
one_node one.First x = node.First x
one_node one.Last x = node.Last x
one_node (one.Length p) x = node.Length p x
one_node (one.Succ p) x = node.Succ p x
one_node (one.Pred p) x = node.Pred p x
one_node one.Same x = node.Same x
one_node one.Not x = node.Not x
one_node (one.Unary p o) x = node.Unary p o x
one_node (one.Convert b) x = node.Convert b x
one_node (one.Component n) x = node.Component x n

abbrev pub two_node : Two → Expr → Expr → ExprNode Expr
two_node (two.Binary p o) x y = node.Binary p o x y
two_node (two.Compare r) x y = node.Compare r x y
two_node (two.Connect c) x y = node.Connect c x y

abbrev pub three_node : Three → Expr → Expr → Expr → ExprNode Expr
three_node (three.Member b) x y z = node.Member b x y z
three_node (three.Quantified q i) x y z = node.Quantified q i x y z
