-- The value of an object at an earlier time. -- Ada RM 6.1.1, SPARK RM 5.5.3.1
use Rattle.std.specs.Prelude.{Option}
use Rattle.ada_values.specs.declared.place.Place.{Place}
use Rattle.attribute_rules.specs.declared.earlier.Earlier.{Earlier}
use Rattle.attribute_rules.specs.declared.earlier.Earlier.TheVariants.{Call, Turns}
use Rattle.typed_units.specs.declared.expressions.Expr.{Expr}
use Rattle.typed_units.specs.declared.expressions.ExprNode.{ExprNode}
use Rattle.typed_units.specs.declared.operators.Object.{Object}
use Rattle.typing_rules.specs.Attributes.{entry_node, old_node}

abbrev pub earlier_node : Place → Earlier → Object → Option (ExprNode Expr)
earlier_node p Call = old_node p
earlier_node p (Turns l m) = entry_node p l m
