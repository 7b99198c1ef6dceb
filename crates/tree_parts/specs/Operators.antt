-- What tokens say: operators, quantifiers and numbers.
use Rattle.std.specs.Prelude.{ℤ, pos, Bool, true, false}
use Rattle.ada_text.specs.declared.delimiters.Delimiter.{Delimiter}
use Rattle.ada_text.specs.declared.delimiters.Delimiter.TheVariants as mark
use Rattle.ada_text.specs.declared.reserved.Reserved.{Reserved}
use Rattle.ada_text.specs.declared.reserved.Reserved.TheVariants as word
use Rattle.ada_text.specs.declared.token.TokenKind.{TokenKind}
use Rattle.ada_text.specs.declared.token.TokenKind.TheVariants.{Id, Word, Number, Mark}
use Rattle.ada_syntax.specs.declared.expressions.BinaryOperator.{BinaryOperator}
use Rattle.ada_syntax.specs.declared.expressions.BinaryOperator.TheVariants as binary_op
use Rattle.ada_syntax.specs.declared.expressions.Quantifier.{Quantifier}
use Rattle.ada_syntax.specs.declared.expressions.Quantifier.TheVariants as quantifier
use Rattle.ada_syntax.specs.declared.expressions.UnaryOperator.{UnaryOperator}
use Rattle.ada_syntax.specs.declared.expressions.UnaryOperator.TheVariants as unary_op

-- an operator of one operand; any other token counts as `not`
abbrev pub unary_operator_of : TokenKind → UnaryOperator
unary_operator_of (Mark mark.Plus) = unary_op.Plus
unary_operator_of (Mark mark.Minus) = unary_op.Minus
unary_operator_of (Word word.Abs) = unary_op.Abs
unary_operator_of _ = unary_op.Not

-- an operator of two operands; any other token counts as `=`
abbrev pub marked_operator : Delimiter → BinaryOperator
marked_operator mark.NotEqual = binary_op.NotEqual
marked_operator mark.Less = binary_op.Less
marked_operator mark.AtMost = binary_op.AtMost
marked_operator mark.Greater = binary_op.Greater
marked_operator mark.AtLeast = binary_op.AtLeast
marked_operator mark.Plus = binary_op.Add
marked_operator mark.Minus = binary_op.Subtract
marked_operator mark.Star = binary_op.Multiply
marked_operator mark.Slash = binary_op.Divide
marked_operator mark.DoubleStar = binary_op.Power
marked_operator _ = binary_op.Equal

abbrev pub reserved_operator : Reserved → BinaryOperator
reserved_operator word.And = binary_op.And
reserved_operator word.Or = binary_op.Or
reserved_operator word.Xor = binary_op.Xor
reserved_operator word.Mod = binary_op.Mod
reserved_operator word.Rem = binary_op.Rem
reserved_operator _ = binary_op.Equal

abbrev pub operator_of : TokenKind → BinaryOperator
operator_of Id = binary_op.Equal
operator_of (Word w) = reserved_operator w
operator_of (Number n) = binary_op.Equal
operator_of (Mark m) = marked_operator m

-- the short-circuit form that begins with `and` or `or`
abbrev pub short_operator_of : TokenKind → BinaryOperator
short_operator_of (Word word.Or) = binary_op.OrElse
short_operator_of _ = binary_op.AndThen

abbrev pub logic_operator : Bool → TokenKind → BinaryOperator
logic_operator true k = short_operator_of k
logic_operator false k = operator_of k

abbrev pub quantifier_of : TokenKind → Quantifier
quantifier_of (Word word.All) = quantifier.All
quantifier_of _ = quantifier.Some

abbrev pub number_of : TokenKind → ℤ
number_of (Number n) = n
number_of _ = pos 0
