-- The broken rules of operators, one line a demand, and which of several is the first.
use Rattle.std.specs.Prelude.{◌≡◌, ℤ, pos, Bool, true, false, ◌==◌, ◌++◌, ◌⊎◌, List, [], ◌∷◌, Option, Some, None, Result, Ok, Err, if◌then◌else◌}
use Rattle.ada_syntax.specs.declared.expressions.UnaryOperator.{UnaryOperator}
use Rattle.ada_syntax.specs.declared.expressions.UnaryOperator.TheVariants as unary'
use Rattle.ada_values.specs.Combine.{combined}
use Rattle.ada_values.specs.Scalars.{in_base}
use Rattle.ada_values.specs.declared.place.Place.{Place}
use Rattle.ada_values.specs.declared.scalars.Op.{Op}
use Rattle.ada_values.specs.declared.scalars.Op.TheVariants as op
use Rattle.ada_values.specs.declared.scalars.OpFault.{OpFault}
use Rattle.ada_values.specs.declared.scalars.OpFault.TheVariants as wrong
use Rattle.ada_values.specs.declared.scalars.Scalar.{Scalar}
use Rattle.front_codes.specs.Codes.{is_before}
use Rattle.front_codes.specs.declared.codes.Code.{Code}
use Rattle.front_codes.specs.declared.codes.Code.TheVariants as code
use Rattle.front_codes.specs.declared.codes.Refusal.{Refusal}
use Rattle.type_base.specs.declared.seen.Agreed.{Agreed}
use Rattle.type_base.specs.declared.seen.Agreed.TheVariants as agreed
use Rattle.type_base.specs.declared.seen.Demand.{Demand}
use Rattle.type_base.specs.declared.seen.Demand.TheVariants as demand
use Rattle.type_base.specs.declared.seen.Family.{Family}
use Rattle.type_base.specs.declared.seen.Family.TheVariants as family
use Rattle.type_base.specs.declared.seen.Seen.{Seen}
use Rattle.type_base.specs.declared.seen.Seen.TheVariants.{Refused, Number, Typed}
use Rattle.type_base.specs.declared.seen.Want.{Want}
use Rattle.type_base.specs.declared.world.Form.{Form}
use Rattle.type_base.specs.declared.world.Form.TheVariants as form
use Rattle.type_base.specs.declared.world.World.{World}
use Rattle.type_base.specs.Demands.{broken, is_one, is_whole, meets, operand, subtype_of, takes_numbers, wanted_integer}
use Rattle.type_base.specs.Lookups.{form_at}
use Rattle.type_base.specs.Operators.{demand_of, exponent, operands, powers, rule_of}
use Rattle.type_base.specs.Results.{computed, number_in, universal}
use Rattle.type_base.specs.Standard.{integer_base}

-- ---- the first of several

abbrev pub IsIn : Refusal → List Refusal → Type 0
IsIn f [] = ⊥
IsIn f (g ∷ gs) = (f ≡ g) ⊎ IsIn f gs

abbrev pub NoneBefore : Refusal → List Refusal → Type 0
NoneBefore f [] = Unit {0}
NoneBefore f (g ∷ gs) = (is_before g f ≡ false) × NoneBefore f gs

-- a refusal is one of the broken rules, and none of them comes before it; no refusal where no rule is broken
abbrev pub First : Option Refusal → List Refusal → Type 0
First None fs = fs ≡ []
First (Some f) fs = IsIn f fs × NoneBefore f fs

abbrev pub fault_of : Seen → Option Refusal
fault_of (Refused f) = Some f
fault_of _ = None

abbrev pub listed : Option Refusal → List Refusal
listed (Some f) = f ∷ []
listed None = []

abbrev pub fault : Code → Place → Option Refusal
fault r p = Some (broken r p)

abbrev pub unless : Bool → Code → Place → Option Refusal
unless true r p = None
unless false r p = fault r p

-- ---- operands

abbrev pub form_fault : Demand → Code → Place → Option Form → Option Refusal
form_fault d r p None = None
form_fault d r p (Some f) = unless (meets d f) r p

-- an operand isn't as demanded -- L1 to L6
abbrev pub operand_fault : World → Demand → Code → Place → Seen → Option Refusal
operand_fault w d r p (Number n) = unless (takes_numbers d) r p
operand_fault w d r p (Typed t x) = form_fault d r p (form_at w (subtype_of x))
operand_fault w d r p _ = None

-- a number takes a type that is no integer type, or lies outside its base range -- L29
abbrev pub number_fault : Code → Place → Place → ℤ → Option Form → Option Refusal
number_fault r q p n None = None
number_fault r q p n (Some (form.Number d s)) = if is_whole d then unless (in_base s n) code.L29 p else fault r q
number_fault r q p n (Some _) = fault r q

-- two operands, each as demanded, don't agree -- L1, L4, L5, L6
abbrev pub pair_fault : World → Code → Place → Place → Seen → Seen → Option Refusal
pair_fault w r p q (Number m) (Typed u y) = number_fault r q p m (form_at w u)
pair_fault w r p q (Typed t x) (Number n) = number_fault r q q n (form_at w t)
pair_fault w r p q (Typed t x) (Typed u y) = unless (t == u) r q
pair_fault w r p q _ _ = None

-- an exponent isn't of type Integer -- L2
abbrev pub exponent_fault : Place → Seen → Option Refusal
exponent_fault p (Typed t x) = unless (t == integer_base) code.L2 p
exponent_fault p _ = None

-- a number as an operand of `**` lies outside the base range of its type -- L29
abbrev pub power_fault : World → Want → Place → Place → Seen → Seen → Option Refusal
power_fault w v p q (Number m) (Typed u y) = number_fault code.L2 p p m (form_at w (wanted_integer w v))
power_fault w v p q (Typed t x) (Number n) = number_fault code.L2 q q n (form_at w integer_base)
power_fault w v p q _ _ = None

-- ---- static results: p is the place of the whole, q that of the right operand

abbrev pub universal_fault : Place → Place → Result ℤ OpFault → Option Refusal
universal_fault p q (Ok v) = None
universal_fault p q (Err wrong.Overflow) = fault code.TooWide p
universal_fault p q (Err wrong.ZeroDivisor) = fault code.L29 q
universal_fault p q (Err wrong.NegativeExponent) = fault code.L29 q

abbrev pub typed_fault : Place → Place → Scalar → Result ℤ OpFault → Option Refusal
typed_fault p q s (Ok v) = unless (in_base s v) code.L29 p
typed_fault p q s (Err wrong.Overflow) = fault code.TooWide p
typed_fault p q s (Err wrong.ZeroDivisor) = fault code.L29 q
typed_fault p q s (Err wrong.NegativeExponent) = fault code.L29 q

abbrev pub settled_fault : Place → Place → Option (Scalar × Result ℤ OpFault) → Option Refusal
settled_fault p q (Some e) = typed_fault p q e.0 e.1
settled_fault p q None = None

abbrev pub static_fault : Place → Place → Op → ℤ → ℤ → Option Form → Option Refusal
static_fault p q o a b m = settled_fault p q (computed o a b m)

abbrev pub both_static : (ℤ → ℤ → Option Refusal) → Option ℤ → Option ℤ → Option Refusal
both_static f (Some a) (Some b) = f a b
both_static f _ _ = None

-- TooWide, L29
abbrev pub arithmetic_fault : World → Place → Place → Op → Agreed → Option Refusal
arithmetic_fault w p q o (agreed.Numbers a b) = universal_fault p q (combined o universal a b)
arithmetic_fault w p q o (agreed.Typed t x y) = both_static (λ a b. static_fault p q o a b (form_at w t)) (number_in x) (number_in y)
arithmetic_fault w p q o _ = None

-- arrays aren't of one subtype -- L5
abbrev pub comparison_fault : World → Place → Agreed → Option Refusal
comparison_fault w q (agreed.Typed t x y) = unless (is_one w (subtype_of x) (subtype_of y)) code.L5 q
comparison_fault w q _ = None

-- numbers are no truth values -- L4
abbrev pub connection_fault : Place → Agreed → Option Refusal
connection_fault p (agreed.Numbers a b) = fault code.L4 p
connection_fault p _ = None

-- ---- operators of two operands, whose own broken rules are fs and gs

-- each operand isn't as demanded, or they don't agree
abbrev pub operands_faults : World → Family → Place → Place → List Refusal → List Refusal → Seen → Seen → List Refusal
operands_faults w f pa pb fs gs x y =
    ((fs ++ listed (operand_fault w (demand_of f) (rule_of f) pa x)) ++ (gs ++ listed (operand_fault w (demand_of f) (rule_of f) pb y)))
    ++ listed (pair_fault w (rule_of f) pa pb (operand w (demand_of f) (rule_of f) pa x) (operand w (demand_of f) (rule_of f) pb y))

abbrev pub powers_faults : World → Want → Place → Place → List Refusal → List Refusal → Seen → Seen → List Refusal
powers_faults w v pa pb fs gs x y =
    ((fs ++ listed (operand_fault w demand.Integer code.L2 pa x)) ++ (gs ++ listed (exponent_fault pb y)))
    ++ listed (power_fault w v pa pb (operand w demand.Integer code.L2 pa x) (exponent pb y))

abbrev pub binary_faults : World → Want → Place → Place → Place → Family → List Refusal → List Refusal → Seen → Seen → List Refusal
binary_faults w v p pa pb (family.Arithmetic c) fs gs x y =
    operands_faults w (family.Arithmetic c) pa pb fs gs x y ++ listed (arithmetic_fault w p pb c (operands w (family.Arithmetic c) pa pb x y))
binary_faults w v p pa pb (family.Compare r) fs gs x y =
    operands_faults w (family.Compare r) pa pb fs gs x y ++ listed (comparison_fault w pb (operands w (family.Compare r) pa pb x y))
binary_faults w v p pa pb (family.Connect c) fs gs x y =
    operands_faults w (family.Connect c) pa pb fs gs x y ++ listed (connection_fault p (operands w (family.Connect c) pa pb x y))
binary_faults w v p pa pb family.Power fs gs x y =
    powers_faults w v pa pb fs gs x y ++ listed (arithmetic_fault w p pb op.Pow (powers w v pa pb x y))

-- ---- operators of one operand, which stands at q and has the broken rules fs

abbrev pub one_static : (ℤ → Option Refusal) → Option ℤ → Option Refusal
one_static f (Some a) = f a
one_static f None = None

abbrev pub changed_fault : World → Place → Op → Seen → Option Refusal
changed_fault w p o (Number n) = universal_fault p p (combined o universal n (pos 0))
changed_fault w p o (Typed t x) = one_static (λ a. static_fault p p o a (pos 0) (form_at w t)) (number_in x)
changed_fault w p o _ = None

abbrev pub unary_faults : World → Place → Place → UnaryOperator → List Refusal → Seen → List Refusal
unary_faults w p q unary'.Plus fs x = fs ++ listed (operand_fault w demand.Integer code.L3 q x)
unary_faults w p q unary'.Minus fs x =
    (fs ++ listed (operand_fault w demand.Integer code.L3 q x)) ++ listed (changed_fault w p op.Neg (operand w demand.Integer code.L3 q x))
unary_faults w p q unary'.Abs fs x =
    (fs ++ listed (operand_fault w demand.Integer code.L3 q x)) ++ listed (changed_fault w p op.Abs (operand w demand.Integer code.L3 q x))
unary_faults w p q unary'.Not fs x = fs ++ listed (operand_fault w demand.Truth code.L4 q x)
