-- What rules demand of operands, and what is seen of operands that are to have one type.
use Rattle.std.specs.Prelude.{ℕ, ℤ, Bool, true, false, ◌==◌, ◌&&◌, Option, Some, None, is_some, int_le, if◌then◌else◌}
use Rattle.std.specs.Ordering.{int_eq}
use Rattle.ada_values.specs.Scalars.{in_base}
use Rattle.ada_values.specs.declared.place.Place.{Place}
use Rattle.ada_values.specs.declared.values.Value.TheVariants as value
use Rattle.front_codes.specs.Codes.{first_of_two}
use Rattle.front_codes.specs.declared.codes.Code.{Code}
use Rattle.front_codes.specs.declared.codes.Code.TheVariants as code
use Rattle.front_codes.specs.declared.codes.Refusal.{Refusal}
use Rattle.typed_units.specs.declared.expressions.Expr.{Expr, out-Expr, roll-Expr}
use Rattle.typed_units.specs.declared.expressions.ExprNode.{ExprNode}
use Rattle.typed_units.specs.declared.expressions.ExprNode.TheVariants as node
use Rattle.typed_units.specs.declared.expressions.Fitted.{Fitted}
use Rattle.typed_units.specs.declared.operators.Bounds.{Bounds}
use Rattle.type_base.specs.declared.seen.Agreed.{Agreed}
use Rattle.type_base.specs.declared.seen.Agreed.TheVariants as agreed
use Rattle.type_base.specs.declared.seen.Demand.{Demand}
use Rattle.type_base.specs.declared.seen.Demand.TheVariants as demand
use Rattle.type_base.specs.declared.seen.Seen.{Seen}
use Rattle.type_base.specs.declared.seen.Seen.TheVariants.{Refused, Unknown, Number, Typed}
use Rattle.type_base.specs.declared.seen.Want.{Want}
use Rattle.type_base.specs.declared.seen.Want.TheVariants as want
use Rattle.type_base.specs.declared.world.Discrete.{Discrete}
use Rattle.type_base.specs.declared.world.Discrete.TheVariants as discrete
use Rattle.type_base.specs.declared.world.Form.{Form}
use Rattle.type_base.specs.declared.world.Form.TheVariants as form
use Rattle.type_base.specs.declared.world.World.{World}
use Rattle.type_base.specs.Lookups.{form_at, type_at}
use Rattle.type_base.specs.Standard.{integer_base}

abbrev pub broken : Code → Place → Refusal
broken r p = record { code = r; place = p }

abbrev pub refused : Code → Place → Seen
refused r p = Refused (broken r p)

-- an expression at a place, of a subtype's number
abbrev pub made : Place → ℕ → ExprNode Expr → Expr
made p k n = roll-Expr (record { place = p; subtype = k; node = n })

abbrev pub subtype_of : Expr → ℕ
subtype_of x = (out-Expr x).subtype

-- ---- forms of subtypes

abbrev pub is_whole : Discrete → Bool
is_whole discrete.Signed = true
is_whole discrete.Modular = true
is_whole discrete.Enumeration = false

-- an integer subtype -- Ada RM 3.5.4
abbrev pub is_integer : Form → Bool
is_integer (form.Number d s) = is_whole d
is_integer _ = false

-- a subtype of an integer or enumeration type; Boolean isn't one here
abbrev pub is_ordered : Form → Bool
is_ordered (form.Number d s) = true
is_ordered _ = false

abbrev pub is_truth : Form → Bool
is_truth form.Truth = true
is_truth _ = false

-- no array of an unconstrained subtype -- Ada RM 3.6
abbrev pub is_comparable : Form → Bool
is_comparable (form.Array i b t) = is_some b
is_comparable _ = true

abbrev pub meets : Demand → Form → Bool
meets demand.Any f = true
meets demand.Integer f = is_integer f
meets demand.Ordered f = is_ordered f
meets demand.Comparable f = is_comparable f
meets demand.Truth f = is_truth f

-- ---- operands

abbrev pub takes_numbers : Demand → Bool
takes_numbers demand.Truth = false
takes_numbers _ = true

abbrev pub fitting : Demand → Code → Place → ℕ → Expr → Option Form → Seen
fitting d r p t x None = Unknown
fitting d r p t x (Some f) = if meets d f then Typed t x else refused r p

-- an operand at a place, of whose subtype a rule demands something
abbrev pub operand : World → Demand → Code → Place → Seen → Seen
operand w d r p (Refused f) = Refused f
operand w d r p Unknown = Unknown
operand w d r p (Number n) = if takes_numbers d then Number n else refused r p
operand w d r p (Typed t x) = fitting d r p t x (form_at w (subtype_of x))

-- a number at p that is to be of type t takes it, where that is an integer type with the number in its base range -- Ada RM 4.9
abbrev pub number_as : Code → Place → Place → ℕ → ℤ → Option Form → Seen
number_as r q p t n None = Unknown
number_as r q p t n (Some (form.Number d s)) =
    if is_whole d then (if in_base s n then Typed t (made p t (node.Static (value.Int n))) else refused code.L29 p) else refused r q
number_as r q p t n (Some _) = refused r q

-- where the type is no integer type, rule r is broken at q
abbrev pub placed_number : World → Code → Place → Place → ℕ → ℤ → Seen
placed_number w r q p t n = number_as r q p t n (form_at w t)

-- two operands of one type, the former or the latter of which was a number
abbrev pub with_left : Seen → Expr → Agreed
with_left (Refused f) y = agreed.Refused f
with_left Unknown y = agreed.Unknown
with_left (Number n) y = agreed.Unknown
with_left (Typed t x) y = agreed.Typed t x y

abbrev pub with_right : ℕ → Expr → Seen → Agreed
with_right t x (Refused f) = agreed.Refused f
with_right t x Unknown = agreed.Unknown
with_right t x (Number n) = agreed.Unknown
with_right t x (Typed u y) = agreed.Typed t x y

abbrev pub with_refused : Refusal → Seen → Agreed
with_refused f (Refused g) = agreed.Refused (first_of_two f g)
with_refused f _ = agreed.Refused f

abbrev pub with_unknown : Seen → Agreed
with_unknown (Refused g) = agreed.Refused g
with_unknown _ = agreed.Unknown

abbrev pub with_number : World → Code → Place → Place → ℤ → Seen → Agreed
with_number w r p q m (Refused g) = agreed.Refused g
with_number w r p q m Unknown = agreed.Unknown
with_number w r p q m (Number n) = agreed.Numbers m n
with_number w r p q m (Typed u y) = with_left (placed_number w r q p u m) y

abbrev pub with_typed : World → Code → Place → ℕ → Expr → Seen → Agreed
with_typed w r q t x (Refused g) = agreed.Refused g
with_typed w r q t x Unknown = agreed.Unknown
with_typed w r q t x (Number n) = with_right t x (placed_number w r q q t n)
with_typed w r q t x (Typed u y) = if t == u then agreed.Typed t x y else agreed.Refused (broken r q)

-- operands at p and q that by rule r are to have one type, where a number takes the other's type
abbrev pub agree : World → Code → Place → Place → Seen → Seen → Agreed
agree w r p q (Refused f) b = with_refused f b
agree w r p q Unknown b = with_unknown b
agree w r p q (Number m) b = with_number w r p q m b
agree w r p q (Typed t x) b = with_typed w r q t x b

-- ---- arrays

abbrev pub array_bounds : Option Form → Option Bounds
array_bounds (Some (form.Array i b t)) = b
array_bounds _ = None

abbrev pub same_bounds : Option Bounds → Option Bounds → Bool
same_bounds None None = true
same_bounds None (Some c) = false
same_bounds (Some b) None = false
same_bounds (Some b) (Some c) = int_eq b.first c.first && int_eq b.last c.last

-- Two subtypes of one type are one, where they are of arrays: both are unconstrained, or both have the same bounds. Parts
-- have constrained subtypes, so those of one type have one subtype. -- Ada RM 3.6, 3.8
abbrev pub is_one : World → ℕ → ℕ → Bool
is_one w k j = same_bounds (array_bounds (form_at w k)) (array_bounds (form_at w j))

-- ---- what the context gives

abbrev pub wanted_type : World → Want → Option ℕ
wanted_type w want.Free = None
wanted_type w want.Unknown = None
wanted_type w (want.Type t) = Some t
wanted_type w (want.Subtype k) = type_at w k

abbrev pub integer_or : ℕ → Option Form → ℕ
integer_or t (Some (form.Number d s)) = if is_whole d then t else integer_base
integer_or t _ = integer_base

abbrev pub integer_of : World → Option ℕ → ℕ
integer_of w (Some t) = integer_or t (form_at w t)
integer_of w None = integer_base

-- the type that a universal number takes beside no other operand: that of the context where that is an integer type, else Integer -- Ada RM 8.6(29)
abbrev pub wanted_integer : World → Want → ℕ
wanted_integer w v = integer_of w (wanted_type w v)

-- ---- known ranges

abbrev pub bounds_in : Option Form → Option Bounds
bounds_in (Some (form.Number d s)) = Some (record { first = s.lo; last = s.hi })
bounds_in _ = None

-- the bounds of a scalar subtype
abbrev pub bounds_at : World → ℕ → Option Bounds
bounds_at w k = bounds_in (form_at w k)

abbrev pub known_in : World → ℕ → ExprNode Expr → Option Bounds
known_in w k (node.Static (value.Int n)) = Some (record { first = n; last = n })
known_in w k _ = bounds_at w k

-- what is known of an expression's range: its value where it is static, else the bounds of its subtype
abbrev pub known : World → Expr → Option Bounds
known w x = known_in w (subtype_of x) (out-Expr x).node

abbrev pub includes : Bounds → Option Bounds → Bool
includes b None = false
includes b (Some k) = int_le b.first k.first && int_le k.last b.last

abbrev pub check_in : Option Bounds → Option Bounds → Option Bounds
check_in None k = None
check_in (Some b) k = if includes b k then None else Some b

-- the bounds of the range check of an expression that is to be of a subtype: none where its known range lies within them
abbrev pub check_of : World → ℕ → Expr → Option Bounds
check_of w k x = check_in (bounds_at w k) (known w x)

abbrev pub fitted : World → ℕ → Expr → Fitted Expr
fitted w k x = record { bounds = check_of w k x; value = x }
