-- What operators demand of their operands, and what they give. -- Ada RM 4.5
use Rattle.std.specs.Prelude.{ℕ, ℤ, ◌==◌, if◌then◌else◌}
use Rattle.ada_syntax.specs.declared.expressions.BinaryOperator.{BinaryOperator}
use Rattle.ada_syntax.specs.declared.expressions.BinaryOperator.TheVariants as binary'
use Rattle.ada_syntax.specs.declared.expressions.UnaryOperator.{UnaryOperator}
use Rattle.ada_syntax.specs.declared.expressions.UnaryOperator.TheVariants as unary'
use Rattle.ada_values.specs.declared.place.Place.{Place}
use Rattle.ada_values.specs.declared.scalars.Op.TheVariants as op
use Rattle.front_codes.specs.declared.codes.Code.{Code}
use Rattle.front_codes.specs.declared.codes.Code.TheVariants.{L1, L2, L3, L4, L5, L6}
use Rattle.typed_units.specs.declared.expressions.Expr.{Expr}
use Rattle.typed_units.specs.declared.operators.Connective.TheVariants as connective
use Rattle.typed_units.specs.declared.operators.Relation.TheVariants as relation
use Rattle.type_base.specs.declared.seen.Agreed.{Agreed}
use Rattle.type_base.specs.declared.seen.Agreed.TheVariants as agreed
use Rattle.type_base.specs.declared.seen.Demand.{Demand}
use Rattle.type_base.specs.declared.seen.Demand.TheVariants as demand
use Rattle.type_base.specs.declared.seen.Family.{Family}
use Rattle.type_base.specs.declared.seen.Family.TheVariants as family
use Rattle.type_base.specs.declared.seen.Seen.{Seen}
use Rattle.type_base.specs.declared.seen.Seen.TheVariants.{Refused, Unknown, Number, Typed}
use Rattle.type_base.specs.declared.seen.Want.{Want}
use Rattle.type_base.specs.declared.world.World.{World}
use Rattle.type_base.specs.Demands.{agree, operand, placed_number, refused, wanted_integer, with_left, with_refused, with_right, with_unknown}
use Rattle.type_base.specs.Results.{arithmetic, changed, comparison, connection, kept, opposite}
use Rattle.type_base.specs.Standard.{integer_base}

abbrev pub family_of : BinaryOperator → Family
family_of binary'.And = family.Connect connective.And
family_of binary'.AndThen = family.Connect connective.AndThen
family_of binary'.Or = family.Connect connective.Or
family_of binary'.OrElse = family.Connect connective.OrElse
family_of binary'.Xor = family.Connect connective.Xor
family_of binary'.Equal = family.Compare relation.Equal
family_of binary'.NotEqual = family.Compare relation.Differs
family_of binary'.Less = family.Compare relation.Less
family_of binary'.AtMost = family.Compare relation.AtMost
family_of binary'.Greater = family.Compare relation.Greater
family_of binary'.AtLeast = family.Compare relation.AtLeast
family_of binary'.Add = family.Arithmetic op.Add
family_of binary'.Subtract = family.Arithmetic op.Sub
family_of binary'.Multiply = family.Arithmetic op.Mul
family_of binary'.Divide = family.Arithmetic op.Quo
family_of binary'.Mod = family.Arithmetic op.Mod
family_of binary'.Rem = family.Arithmetic op.Rem
family_of binary'.Power = family.Power

-- what the rules L1, L2, L4, L5 and L6 demand of an operand
abbrev pub demand_of : Family → Demand
demand_of (family.Arithmetic o) = demand.Integer
demand_of (family.Compare relation.Equal) = demand.Comparable
demand_of (family.Compare relation.Differs) = demand.Comparable
demand_of (family.Compare _) = demand.Ordered
demand_of (family.Connect k) = demand.Truth
demand_of family.Power = demand.Integer

abbrev pub rule_of : Family → Code
rule_of (family.Arithmetic o) = L1
rule_of (family.Compare relation.Equal) = L5
rule_of (family.Compare relation.Differs) = L5
rule_of (family.Compare _) = L6
rule_of (family.Connect k) = L4
rule_of family.Power = L2

-- ---- `**` (Ada RM 4.5.6)

-- the exponent is of type Integer -- L2
abbrev pub exponent : Place → Seen → Seen
exponent p (Refused f) = Refused f
exponent p Unknown = Unknown
exponent p (Number n) = Number n
exponent p (Typed t x) = if t == integer_base then Typed t x else refused L2 p

-- a number beside an exponent that has a type takes the type that the context gives
abbrev pub number_to : World → Want → Place → ℤ → Seen → Agreed
number_to w v p m (Refused g) = agreed.Refused g
number_to w v p m Unknown = agreed.Unknown
number_to w v p m (Number n) = agreed.Numbers m n
number_to w v p m (Typed u y) = with_left (placed_number w L2 p p (wanted_integer w v) m) y

abbrev pub typed_to : World → Place → ℕ → Expr → Seen → Agreed
typed_to w q t x (Refused g) = agreed.Refused g
typed_to w q t x Unknown = agreed.Unknown
typed_to w q t x (Number n) = with_right t x (placed_number w L2 q q integer_base n)
typed_to w q t x (Typed u y) = agreed.Typed t x y

-- the operands of `**`, at p and q, in a context; the type is that of the former
abbrev pub raised : World → Want → Place → Place → Seen → Seen → Agreed
raised w v p q (Refused f) b = with_refused f b
raised w v p q Unknown b = with_unknown b
raised w v p q (Number m) b = number_to w v p m b
raised w v p q (Typed t x) b = typed_to w q t x b

-- ---- all operators of two operands: p is the place of the whole, o that of the operator, pa and pb those of the operands

-- operands that are each as demanded, and agree -- L1, L4, L5, L6
abbrev pub operands : World → Family → Place → Place → Seen → Seen → Agreed
operands w f pa pb a b = agree w (rule_of f) pa pb (operand w (demand_of f) (rule_of f) pa a) (operand w (demand_of f) (rule_of f) pb b)

-- L2
abbrev pub powers : World → Want → Place → Place → Seen → Seen → Agreed
powers w v pa pb a b = raised w v pa pb (operand w demand.Integer L2 pa a) (exponent pb b)

-- the operands of a family's operator, in a context
abbrev pub matched : World → Want → Place → Place → Family → Seen → Seen → Agreed
matched w v pa pb (family.Arithmetic c) a b = operands w (family.Arithmetic c) pa pb a b
matched w v pa pb (family.Compare r) a b = operands w (family.Compare r) pa pb a b
matched w v pa pb (family.Connect c) a b = operands w (family.Connect c) pa pb a b
matched w v pa pb family.Power a b = powers w v pa pb a b

abbrev pub with_operator : World → Place → Place → Place → Family → Agreed → Seen
with_operator w p o pb (family.Arithmetic c) g = arithmetic w p o pb c g
with_operator w p o pb (family.Compare r) g = comparison w p pb r g
with_operator w p o pb (family.Connect c) g = connection p c g
with_operator w p o pb family.Power g = arithmetic w p o pb op.Pow g

-- what two operands give with their operator, in a context
abbrev pub joined : World → Want → Place → Place → Place → Place → Family → Seen → Seen → Seen
joined w v p o pa pb f a b = with_operator w p o pb f (matched w v pa pb f a b)

-- ---- operators of one operand, which stands at q

-- L3, L4
abbrev pub unary_of : World → Place → Place → UnaryOperator → Seen → Seen
unary_of w p q unary'.Plus a = kept p (operand w demand.Integer L3 q a)
unary_of w p q unary'.Minus a = changed w p op.Neg (operand w demand.Integer L3 q a)
unary_of w p q unary'.Abs a = changed w p op.Abs (operand w demand.Integer L3 q a)
unary_of w p q unary'.Not a = opposite p (operand w demand.Truth L4 q a)
