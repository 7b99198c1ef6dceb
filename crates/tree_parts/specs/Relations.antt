-- Expressions from their first part and what follows it.
use Rattle.std.specs.Prelude.{Option, Some, None}
use Rattle.ada_text.specs.declared.token.Span.{Span}
use Rattle.ada_syntax.specs.declared.expressions.Arg.{Arg}
use Rattle.ada_syntax.specs.declared.expressions.ArgChoice.TheVariants as arg_choice
use Rattle.ada_syntax.specs.declared.expressions.Expr.{Expr}
use Rattle.ada_syntax.specs.declared.expressions.ExprNode.TheVariants as node
use Rattle.ada_syntax.specs.declared.expressions.Item.{Item}
use Rattle.ada_syntax.specs.declared.expressions.ItemForm.TheVariants as item_form
use Rattle.ada_syntax.specs.declared.expressions.Name.{Name}
use Rattle.ada_syntax.specs.declared.expressions.Range.{Range}
use Rattle.ada_syntax.specs.declared.statements.Action.{Action}
use Rattle.ada_syntax.specs.declared.statements.Action.TheVariants as action
use Rattle.ada_syntax.specs.declared.statements.Stmt.{Stmt}
use Rattle.tree_parts.specs.declared.relations.ArgTail.{ArgTail}
use Rattle.tree_parts.specs.declared.relations.ArgTail.TheVariants as arg_tail
use Rattle.tree_parts.specs.declared.relations.RelationTail.{RelationTail}
use Rattle.tree_parts.specs.declared.relations.RelationTail.TheVariants as relation_tail
use Rattle.tree_parts.specs.Ends.{expr_end, item_end}
use Rattle.tree_parts.specs.Missing.{expr_at}
use Rattle.tree_parts.specs.Operations.{binary, grouped, joined, span_of}

abbrev pub range_end : Range Expr → Span
range_end r = expr_end r.high (span_of r.low)

-- a relation (Ada RM 4.4)
abbrev pub related : Expr → RelationTail → Expr
related a relation_tail.Nothing = a
related a (relation_tail.Compare o) = binary a o
related a (relation_tail.Member p n r) = expr_at (joined (span_of a) (range_end r)) (node.Member p n a r)

abbrev pub plain : Expr → Item Expr
plain e = record { span = span_of e; form = item_form.Plain e }

abbrev pub plain_argument : Expr → Option (Item Expr) → Arg Expr
plain_argument e v = record { span = joined (span_of e) (item_end v (span_of e)); choice = arg_choice.Item (plain e); value = v }

-- an argument that begins with a simple expression
abbrev pub argument : Expr → ArgTail → Arg Expr
argument a (arg_tail.UpTo h v) = record { span = joined (span_of a) (item_end v (span_of h)); choice = arg_choice.Range a h; value = v }
argument a (arg_tail.Rest r os v) = plain_argument (grouped (related a r) os) v

-- an assignment of a value to a name, or without a value a call
abbrev pub named_action : Name Expr → Option Expr → Action Stmt
named_action n None = action.Call n
named_action n (Some e) = action.Assign n e
