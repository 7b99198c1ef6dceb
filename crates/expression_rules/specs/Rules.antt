-- What operators demand of their operands, in the words of the rules, and what type they give. -- Ada RM 4.5
use Rattle.std.specs.Prelude.{◌≡◌, ℕ, true, Some}
use Rattle.ada_syntax.specs.declared.expressions.UnaryOperator.{UnaryOperator}
use Rattle.ada_syntax.specs.declared.expressions.UnaryOperator.TheVariants as unary'
use Rattle.ada_values.specs.declared.scalars.Op.{Op}
use Rattle.typed_units.specs.declared.expressions.Expr.{Expr}
use Rattle.typed_units.specs.declared.operators.Connective.{Connective}
use Rattle.typed_units.specs.declared.operators.Relation.{Relation}
use Rattle.type_base.specs.declared.seen.Demand.{Demand}
use Rattle.type_base.specs.declared.seen.Demand.TheVariants as demand
use Rattle.type_base.specs.declared.seen.Family.{Family}
use Rattle.type_base.specs.declared.seen.Family.TheVariants as family
use Rattle.type_base.specs.declared.seen.Seen.{Seen}
use Rattle.type_base.specs.declared.seen.Seen.TheVariants.{Refused, Unknown, Number, Typed}
use Rattle.type_base.specs.declared.seen.Want.{Want}
use Rattle.type_base.specs.declared.world.Form.{Form}
use Rattle.type_base.specs.declared.world.World.{World}
use Rattle.type_base.specs.Demands.{is_integer, is_one, meets, subtype_of, takes_numbers, wanted_integer}
use Rattle.type_base.specs.Lookups.{form_at}
use Rattle.type_base.specs.Operators.{demand_of}
use Rattle.type_base.specs.Standard.{boolean, integer_base}

-- what type an expression has: that of universal numbers, or the type of a number
pub data Kind : Type 0 where
  universal : Kind
  of : ℕ → Kind

abbrev pub TypeIs : ℕ → Kind → Type 0
TypeIs t universal = ⊥
TypeIs t (of u) = t ≡ u

-- an expression is accepted, and has this type
abbrev pub Is : Seen → Kind → Type 0
Is (Refused f) k = ⊥
Is Unknown k = ⊥
Is (Number n) universal = Unit {0}
Is (Number n) (of u) = ⊥
Is (Typed t x) k = TypeIs t k

-- the subtype of an expression meets a demand
pub record Meets (w : World) (d : Demand) (x : Expr) : Type 0 where
  pub form : Form
  pub is : form_at w (subtype_of x) ≡ Some form
  pub met : meets d form ≡ true

-- an operand is as demanded
abbrev pub IsAs : World → Demand → Seen → Type 0
IsAs w d (Refused f) = ⊥
IsAs w d Unknown = ⊥
IsAs w d (Number n) = takes_numbers d ≡ true
IsAs w d (Typed t x) = Meets w d x

pub record IsIntegerType (w : World) (t : ℕ) : Type 0 where
  pub form : Form
  pub is : form_at w t ≡ Some form
  pub whole : is_integer form ≡ true

-- the type that two operands have together, where universal numbers take the other's type
pub data Common (w : World) : Kind → Kind → Kind → Type 0 where
  numbers : Common w universal universal universal
  left_number : (t : ℕ) → IsIntegerType w t → Common w universal (of t) (of t)
  right_number : (t : ℕ) → IsIntegerType w t → Common w (of t) universal (of t)
  same : (t : ℕ) → Common w (of t) (of t) (of t)

-- the type of a power by those of its operands, of which the latter is of type Integer; a universal number takes the type that the
-- context gives, or Integer -- Ada RM 4.5.6
pub data Raised (w : World) (v : Want) : Kind → Kind → Kind → Type 0 where
  no_types : Raised w v universal universal universal
  exponent_typed : IsIntegerType w (wanted_integer w v) → Raised w v universal (of integer_base) (of (wanted_integer w v))
  left_typed : (t : ℕ) → Raised w v (of t) universal (of t)
  both_typed : (t : ℕ) → Raised w v (of t) (of integer_base) (of t)

-- arrays are of one subtype
abbrev pub AreOne : World → Seen → Seen → Type 0
AreOne w (Typed t x) (Typed u y) = is_one w (subtype_of x) (subtype_of y) ≡ true
AreOne w a b = Unit {0}

-- the type that an operator gives for two operands in a context
pub data Gives (w : World) (v : Want) (x y : Seen) : Family → Kind → Type 0 where
  -- L1
  arithmetic : (o : Op) (j k l : Kind) → Is x j → Is y k → IsAs w demand.Integer x → IsAs w demand.Integer y → Common w j k l
      → Gives w v x y (family.Arithmetic o) l
  -- L5, L6
  comparison : (r : Relation) (j k l : Kind) → Is x j → Is y k → IsAs w (demand_of (family.Compare r)) x → IsAs w (demand_of (family.Compare r)) y
      → Common w j k l → AreOne w x y → Gives w v x y (family.Compare r) (of boolean)
  -- L4
  connection : (c : Connective) (j k l : Kind) → Is x j → Is y k → IsAs w demand.Truth x → IsAs w demand.Truth y → Common w j k l
      → Gives w v x y (family.Connect c) (of boolean)
  -- L2
  power : (j k l : Kind) → Is x j → Is y k → IsAs w demand.Integer x → Raised w v j k l → Gives w v x y family.Power l

-- the type that an operator gives for an operand
pub data GivesOne (w : World) (x : Seen) : UnaryOperator → Kind → Type 0 where
  -- L3
  plus : (k : Kind) → Is x k → IsAs w demand.Integer x → GivesOne w x unary'.Plus k
  minus : (k : Kind) → Is x k → IsAs w demand.Integer x → GivesOne w x unary'.Minus k
  absolute : (k : Kind) → Is x k → IsAs w demand.Integer x → GivesOne w x unary'.Abs k
  -- L4
  opposite : (t : ℕ) → Is x (of t) → IsAs w demand.Truth x → GivesOne w x unary'.Not (of boolean)
