-- Operators between their operands.
use Rattle.std.specs.Prelude.{List, [], ◌∷◌}
use Rattle.ada_text.specs.declared.token.Span.{Span}
use Rattle.ada_text.specs.declared.token.Token.{Token}
use Rattle.ada_syntax.specs.declared.expressions.BinaryOperator.{BinaryOperator}
use Rattle.ada_syntax.specs.declared.expressions.ExprNode.TheVariants as node
use Rattle.ada_syntax.specs.declared.expressions.Expr.{Expr, out-Expr}
use Rattle.tree_parts.specs.declared.part.Operation.{Operation}
use Rattle.tree_parts.specs.Missing.{expr_at}
use Rattle.tree_parts.specs.Operators.{unary_operator_of}

-- from the first byte of one span to the end of another
abbrev pub joined : Span → Span → Span
joined a b = record { from = a.from; to = b.to }

abbrev pub span_of : Expr → Span
span_of e = (out-Expr e).span

-- an operator before its operand
abbrev pub unary : Token → Expr → Expr
unary t a = expr_at (joined t.span (span_of a)) (node.Unary t.span (unary_operator_of t.kind) a)

abbrev pub operation : Span → BinaryOperator → Expr → Operation
operation p o a = record { place = p; operator = o; operand = a }

-- an operator between two operands
abbrev pub binary : Expr → Operation → Expr
binary a o = expr_at (joined (span_of a) (span_of o.operand)) (node.Binary o.place o.operator a o.operand)

-- operators one after another group to the left (Ada RM 4.5)
abbrev pub grouped : Expr → List Operation → Expr
grouped a [] = a
grouped a (o ∷ os) = grouped (binary a o) os
