-- What operations give: static values, and expressions. -- Ada RM 4.9
use Rattle.std.specs.Prelude.{ℕ, ℤ, pos, negsuc, Bool, true, false, not, ◌&&◌, ◌||◌, Option, Some, None, Result, Ok, Err, int_le, int_lt, if◌then◌else◌}
use Rattle.std.specs.Ordering.{int_eq}
use Rattle.ada_values.specs.Combine.{combined}
use Rattle.ada_values.specs.Scalars.{in_base}
use Rattle.ada_values.specs.declared.place.Place.{Place}
use Rattle.ada_values.specs.declared.scalars.Op.{Op}
use Rattle.ada_values.specs.declared.scalars.OpFault.{OpFault}
use Rattle.ada_values.specs.declared.scalars.OpFault.TheVariants as fault
use Rattle.ada_values.specs.declared.scalars.Scalar.{Scalar}
use Rattle.ada_values.specs.declared.values.Value.TheVariants as value
use Rattle.front_codes.specs.declared.codes.Code.TheVariants as code
use Rattle.typed_units.specs.declared.expressions.Expr.{Expr, out-Expr}
use Rattle.typed_units.specs.declared.expressions.ExprNode.{ExprNode}
use Rattle.typed_units.specs.declared.expressions.ExprNode.TheVariants as node
use Rattle.typed_units.specs.declared.operators.Connective.{Connective}
use Rattle.typed_units.specs.declared.operators.Connective.TheVariants as connective
use Rattle.typed_units.specs.declared.operators.Relation.{Relation}
use Rattle.typed_units.specs.declared.operators.Relation.TheVariants as relation
use Rattle.type_base.specs.declared.seen.Agreed.{Agreed}
use Rattle.type_base.specs.declared.seen.Agreed.TheVariants as agreed
use Rattle.type_base.specs.declared.seen.Seen.{Seen}
use Rattle.type_base.specs.declared.seen.Seen.TheVariants.{Refused, Unknown, Number, Typed}
use Rattle.type_base.specs.declared.world.Form.{Form}
use Rattle.type_base.specs.declared.world.Form.TheVariants as form
use Rattle.type_base.specs.declared.world.World.{World}
use Rattle.type_base.specs.Demands.{is_one, made, refused, subtype_of}
use Rattle.type_base.specs.Lookups.{form_at}
use Rattle.type_base.specs.Standard.{boolean}

-- ---- static values

abbrev pub bit : Bool → ℤ
bit true = pos 1
bit false = pos 0

abbrev pub number_of : ExprNode Expr → Option ℤ
number_of (node.Static (value.Int n)) = Some n
number_of (node.Static (value.Bool b)) = Some (bit b)
number_of _ = None

-- the number that a static expression is, or its position
abbrev pub number_in : Expr → Option ℤ
number_in x = number_of (out-Expr x).node

abbrev pub truth_of : ExprNode Expr → Option Bool
truth_of (node.Static (value.Bool b)) = Some b
truth_of _ = None

-- the truth value that a static expression is
abbrev pub truth_in : Expr → Option Bool
truth_in x = truth_of (out-Expr x).node

-- the greatest number of 128 bits
abbrev pub wide_last : ℕ
wide_last = 170141183460469231731687303715884105727

-- a scalar subtype with the numbers of 128 bits for its base range
abbrev pub widened : Scalar → Scalar
widened s = record { lo = s.lo; hi = s.hi; base_lo = negsuc wide_last; base_hi = pos wide_last; modulus = s.modulus }

-- the universal numbers, as far as they have 128 bits
abbrev pub universal : Scalar
universal = record { lo = negsuc wide_last; hi = pos wide_last; base_lo = negsuc wide_last; base_hi = pos wide_last; modulus = None }

abbrev pub holds : Relation → ℤ → ℤ → Bool
holds relation.Equal a b = int_eq a b
holds relation.Differs a b = not (int_eq a b)
holds relation.Less a b = int_lt a b
holds relation.AtMost a b = int_le a b
holds relation.Greater a b = int_lt b a
holds relation.AtLeast a b = int_le b a

abbrev pub differ : Bool → Bool → Bool
differ true b = not b
differ false b = b

abbrev pub connected : Connective → Bool → Bool → Bool
connected connective.And a b = a && b
connected connective.AndThen a b = a && b
connected connective.Or a b = a || b
connected connective.OrElse a b = a || b
connected connective.Xor a b = differ a b

-- ---- results: p is the place of the whole, q that of the right operand

-- TooWide, L29
abbrev pub universal_result : Place → Place → Result ℤ OpFault → Seen
universal_result p q (Ok v) = Number v
universal_result p q (Err fault.Overflow) = refused code.TooWide p
universal_result p q (Err fault.ZeroDivisor) = refused code.L29 q
universal_result p q (Err fault.NegativeExponent) = refused code.L29 q

-- a static value of a type lies in its base range -- L29
abbrev pub typed_result : Place → Place → ℕ → Scalar → Result ℤ OpFault → Seen
typed_result p q t s (Ok v) = if in_base s v then Typed t (made p t (node.Static (value.Int v))) else refused code.L29 p
typed_result p q t s (Err fault.Overflow) = refused code.TooWide p
typed_result p q t s (Err fault.ZeroDivisor) = refused code.L29 q
typed_result p q t s (Err fault.NegativeExponent) = refused code.L29 q

-- a scalar type, and what an operation on numbers gives in it: the exact result, or that modulo its modulus
abbrev pub computed : Op → ℤ → ℤ → Option Form → Option (Scalar × Result ℤ OpFault)
computed o a b (Some (form.Number d s)) = Some (s, combined o (widened s) a b)
computed o a b _ = None

abbrev pub settled : Place → Place → ℕ → Option (Scalar × Result ℤ OpFault) → Seen
settled p q t (Some e) = typed_result p q t e.0 e.1
settled p q t None = Unknown

-- an operation on static operands of type t
abbrev pub static_result : Place → Place → ℕ → Op → ℤ → ℤ → Option Form → Seen
static_result p q t o a b m = settled p q t (computed o a b m)

abbrev pub arithmetic_of : World → Place → Place → Place → Op → ℕ → Expr → Expr → Option ℤ → Option ℤ → Seen
arithmetic_of w p o q c t x y (Some a) (Some b) = static_result p q t c a b (form_at w t)
arithmetic_of w p o q c t x y (Some a) None = Typed t (made p t (node.Binary o c x y))
arithmetic_of w p o q c t x y None b = Typed t (made p t (node.Binary o c x y))

-- the operator stands at o
abbrev pub arithmetic : World → Place → Place → Place → Op → Agreed → Seen
arithmetic w p o q c (agreed.Refused f) = Refused f
arithmetic w p o q c agreed.Unknown = Unknown
arithmetic w p o q c (agreed.Numbers a b) = universal_result p q (combined c universal a b)
arithmetic w p o q c (agreed.Typed t x y) = arithmetic_of w p o q c t x y (number_in x) (number_in y)

abbrev pub truth_at : Place → ExprNode Expr → Seen
truth_at p n = Typed boolean (made p boolean n)

abbrev pub static_truth : Place → Bool → Seen
static_truth p b = truth_at p (node.Static (value.Bool b))

abbrev pub comparison_of : Place → Relation → Expr → Expr → Option ℤ → Option ℤ → Seen
comparison_of p r x y (Some a) (Some b) = static_truth p (holds r a b)
comparison_of p r x y (Some a) None = truth_at p (node.Compare r x y)
comparison_of p r x y None b = truth_at p (node.Compare r x y)

-- arrays are of one subtype -- L5
abbrev pub comparison : World → Place → Place → Relation → Agreed → Seen
comparison w p q r (agreed.Refused f) = Refused f
comparison w p q r agreed.Unknown = Unknown
comparison w p q r (agreed.Numbers a b) = static_truth p (holds r a b)
comparison w p q r (agreed.Typed t x y) =
    if is_one w (subtype_of x) (subtype_of y) then comparison_of p r x y (number_in x) (number_in y) else refused code.L5 q

abbrev pub connection_of : Place → Connective → Expr → Expr → Option Bool → Option Bool → Seen
connection_of p c x y (Some a) (Some b) = static_truth p (connected c a b)
connection_of p c x y (Some a) None = truth_at p (node.Connect c x y)
connection_of p c x y None b = truth_at p (node.Connect c x y)

abbrev pub connection : Place → Connective → Agreed → Seen
connection p c (agreed.Refused f) = Refused f
connection p c agreed.Unknown = Unknown
connection p c (agreed.Numbers a b) = refused code.L4 p
connection p c (agreed.Typed t x y) = connection_of p c x y (truth_in x) (truth_in y)

-- ---- one operand

-- an expression in parentheses stands where they begin
abbrev pub moved : Place → Seen → Seen
moved p (Refused f) = Refused f
moved p Unknown = Unknown
moved p (Number n) = Number n
moved p (Typed t x) = Typed t (made p (subtype_of x) (out-Expr x).node)

abbrev pub kept_of : Place → ℕ → Expr → Option ℤ → Seen
kept_of p t x (Some a) = Typed t (made p t (node.Static (value.Int a)))
kept_of p t x None = Typed t (made p t (node.Same x))

-- unary `+`
abbrev pub kept : Place → Seen → Seen
kept p (Refused f) = Refused f
kept p Unknown = Unknown
kept p (Number n) = Number n
kept p (Typed t x) = kept_of p t x (number_in x)

abbrev pub changed_of : World → Place → Op → ℕ → Expr → Option ℤ → Seen
changed_of w p o t x (Some a) = static_result p p t o a (pos 0) (form_at w t)
changed_of w p o t x None = Typed t (made p t (node.Unary p o x))

-- unary `-` and `abs`
abbrev pub changed : World → Place → Op → Seen → Seen
changed w p o (Refused f) = Refused f
changed w p o Unknown = Unknown
changed w p o (Number n) = universal_result p p (combined o universal n (pos 0))
changed w p o (Typed t x) = changed_of w p o t x (number_in x)

abbrev pub opposite_of : Place → Expr → Option Bool → Seen
opposite_of p x (Some b) = static_truth p (not b)
opposite_of p x None = truth_at p (node.Not x)

-- `not`
abbrev pub opposite : Place → Seen → Seen
opposite p (Refused f) = Refused f
opposite p Unknown = Unknown
opposite p (Number n) = refused code.L4 p
opposite p (Typed t x) = opposite_of p x (truth_in x)
