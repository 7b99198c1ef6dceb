-- Operators in a context, and those of one operand.
use Rattle.std.proofs.Common.{◌≡◌, ap, subst, sym, ◌∙◌, refl, true≢false, ℕ, zero, suc, ◌≤◌, Bool, true, false, Option, Some, None, arith}
use Rattle.std.specs.Prelude.{◌==◌, if◌then◌else◌}
use Rattle.std.proofs.lemmas.Bool.{eqb-true}
use Rattle.ada_syntax.specs.declared.expressions.BinaryOperator.{BinaryOperator}
use Rattle.ada_syntax.specs.declared.expressions.BinaryOperator.TheVariants as binary'
use Rattle.ada_values.specs.declared.place.Place.{Place}
use Rattle.ada_values.specs.declared.scalars.Op.{Op}
use Rattle.ada_values.specs.declared.scalars.Op.TheVariants as op
use Rattle.front_codes.specs.declared.codes.Code.TheVariants.{L2}
use Rattle.typed_units.specs.declared.expressions.Expr.{Expr}
use Rattle.typed_units.specs.declared.operators.Connective.{Connective}
use Rattle.typed_units.specs.declared.operators.Connective.TheVariants as connective
use Rattle.typed_units.specs.declared.operators.Relation.{Relation}
use Rattle.typed_units.specs.declared.operators.Relation.TheVariants as relation
use Rattle.typed_units.specs.declared.programs.Class.{Class}
use Rattle.typed_units.specs.declared.programs.Class.TheVariants as class
use Rattle.typed_units.specs.declared.programs.Program.{Program}
use Rattle.type_base.specs.declared.seen.Agreed.{Agreed}
use Rattle.type_base.specs.declared.seen.Agreed.TheVariants as agreed
use Rattle.type_base.specs.declared.seen.Demand.TheVariants as demand
use Rattle.type_base.specs.declared.seen.Family.TheVariants as family
use Rattle.type_base.specs.declared.seen.Seen.{Seen}
use Rattle.type_base.specs.declared.seen.Seen.TheVariants as seen
use Rattle.type_base.specs.declared.seen.Want.{Want}
use Rattle.type_base.specs.declared.seen.Want.TheVariants as want
use Rattle.type_base.specs.declared.world.Discrete.TheVariants as discrete
use Rattle.type_base.specs.declared.world.Form.{Form}
use Rattle.type_base.specs.declared.world.Form.TheVariants as form
use Rattle.type_base.specs.declared.world.World.{World}
use Rattle.type_base.specs.Demands.{agree, integer_of, integer_or, operand, placed_number, refused, wanted_integer, wanted_type, with_left, with_right}
use Rattle.type_base.specs.Lookups.{form_at, subtype_at, type_at, type_in}
use Rattle.type_base.specs.Operators.{demand_of, exponent, family_of, joined, raised, rule_of}
use Rattle.type_base.specs.Standard.{integer_base}
use Rattle.program_typing.specs.Expressions as rule
use Rattle.program_typing.specs.Expressions.{Frame, Gives, HasSubtype, IsArithmetic}
use Rattle.program_typing.specs.Subtypes as subtypes
use Rattle.program_typing.specs.Subtypes.{Has, class_of, passes}
use Rattle.well_typed_programs.specs.Fits.{GivesType, IsTyped, IsWell, WorldFits}
use Rattle.well_typed_programs.proofs.Operators.{IsOperand, IsPlaced, Operand, agree_is, number_is, operand_is}
use Rattle.well_typed_programs.proofs.Results.{CanJoin, arithmetic_is, can_join, comparison_is, connection_is, type_whole}
use Rattle.well_typed_programs.proofs.Worlds.{class_kept, class_there, form_there, none_is, some_is, type_in_program, type_itself}

-- ---- the type of universal numbers in a context

abbrev is_signed : Option Class → Bool
is_signed (Some class.Signed) = true
is_signed _ = false

-- a signed type among the first two entries is the second, as the first is Boolean
one_of : (p : Program) (w : World) (k : ℕ) → WorldFits p w → class_of p k ≡ Some class.Signed → k ≤ 1 → k ≡ 1
one_of p w zero h c b =
    absurd (true≢false (ap (λ (o : Option Class). is_signed o) (sym c ∙ class_there p w 0 form.Truth h h.world.standard.truth)))
one_of p w (suc zero) h c b = refl
one_of p w (suc (suc k)) h c b = absurd (omega (arith, b))

-- the type of Integer stands for itself
integer_type : (p : Program) (w : World) → WorldFits p w → type_at w integer_base ≡ Some integer_base
integer_type p w h =
    let z = form_there (subtype_at w 1) (form.Number discrete.Signed h.world.standard.integer) h.world.standard.integer_is in
    let s = h.sound 1 z.0 z.1 in
    let at_one : type_at w 1 ≡ Some (z.0).of = ap (λ o. type_in o) z.1 in
    let same : s.type ≡ (z.0).of = some_is s.type (z.0).of (sym s.of_type ∙ type_in_program p w 1 (z.0).of h at_one) in
    let signed : class_of p (z.0).of ≡ Some class.Signed =
    class_kept p w 1 (z.0).of h at_one ∙ class_there p w 1 (form.Number discrete.Signed h.world.standard.integer) h h.world.standard.integer_is in
    at_one ∙ ap (λ (n : ℕ). Some n) (one_of p w (z.0).of h signed (subst (λ (n : ℕ). n ≤ 1) same s.before))

integer_or_is : (p : Program) (w : World) (t : ℕ) (m : Option Form) → WorldFits p w → type_at w t ≡ Some t → type_at w (integer_or t m) ≡ Some (integer_or t m)
integer_or_is p w t None h e = integer_type p w h
integer_or_is p w t (Some form.Truth) h e = integer_type p w h
integer_or_is p w t (Some (form.Array i b k)) h e = integer_type p w h
integer_or_is p w t (Some (form.Record i b)) h e = integer_type p w h
integer_or_is p w t (Some (form.Number discrete.Signed s)) h e = e
integer_or_is p w t (Some (form.Number discrete.Modular s)) h e = e
integer_or_is p w t (Some (form.Number discrete.Enumeration s)) h e = integer_type p w h

integer_of_is : (p : Program) (w : World) (o : Option ℕ) → WorldFits p w → ((t : ℕ) → o ≡ Some t → type_at w t ≡ Some t) → type_at w (integer_of w o) ≡ Some (integer_of w o)
integer_of_is p w None h e = integer_type p w h
integer_of_is p w (Some t) h e = integer_or_is p w t (form_at w t) h (e t refl)

wanted_is : (p : Program) (w : World) (v : Want) (t : ℕ) → WorldFits p w → GivesType w v → wanted_type w v ≡ Some t → type_at w t ≡ Some t
wanted_is p w want.Free t h g e = absurd (none_is None t refl e)
wanted_is p w want.Unknown t h g e = absurd (none_is None t refl e)
wanted_is p w (want.Type u) t h g e = subst (λ (k : ℕ). type_at w k ≡ Some k) (some_is u t e) g
wanted_is p w (want.Subtype k) t h g e = type_itself p w k t h e

-- it is an integer type
integer_whole : (p : Program) (w : World) → WorldFits p w → Has subtypes.is_integer p integer_base
integer_whole p w h = ap (λ (c : Option Class). passes subtypes.is_integer c) (class_there p w 1 (form.Number discrete.Signed h.world.standard.integer) h h.world.standard.integer_is)

or_whole : (p : Program) (w : World) (t : ℕ) (m : Option Form) → WorldFits p w → form_at w t ≡ m → Has subtypes.is_integer p (integer_or t m)
or_whole p w t None h e = integer_whole p w h
or_whole p w t (Some form.Truth) h e = integer_whole p w h
or_whole p w t (Some (form.Array i b k)) h e = integer_whole p w h
or_whole p w t (Some (form.Record i b)) h e = integer_whole p w h
or_whole p w t (Some (form.Number discrete.Signed s)) h e = ap (λ (c : Option Class). passes subtypes.is_integer c) (class_there p w t (form.Number discrete.Signed s) h e)
or_whole p w t (Some (form.Number discrete.Modular s)) h e = ap (λ (c : Option Class). passes subtypes.is_integer c) (class_there p w t (form.Number discrete.Modular s) h e)
or_whole p w t (Some (form.Number discrete.Enumeration s)) h e = integer_whole p w h

of_whole : (p : Program) (w : World) (o : Option ℕ) → WorldFits p w → Has subtypes.is_integer p (integer_of w o)
of_whole p w None h = integer_whole p w h
of_whole p w (Some t) h = or_whole p w t (form_at w t) h refl

pub wanted_integer_whole : (p : Program) (w : World) (v : Want) → WorldFits p w → Has subtypes.is_integer p (wanted_integer w v)
wanted_integer_whole p w v h = of_whole p w (wanted_type w v) h

pub wanted_integer_is : (p : Program) (w : World) (v : Want) → WorldFits p w → GivesType w v → type_at w (wanted_integer w v) ≡ Some (wanted_integer w v)
wanted_integer_is p w v h g = integer_of_is p w (wanted_type w v) h (λ t e. wanted_is p w v t h g e)

-- ---- `**`

-- the exponent is of Integer
abbrev IsExponent : Frame → World → Seen → Type 0
IsExponent f w (seen.Typed t x) = IsTyped f w integer_base x
IsExponent f w _ = Unit {0}

exponent_if : (f : Frame) (w : World) (b : Bool) (u v : Seen) → (b ≡ true → IsExponent f w u) → IsExponent f w v → IsExponent f w (if b then u else v)
exponent_if f w true u v h g = h refl
exponent_if f w false u v h g = g

exponent_is : (f : Frame) (w : World) (q : Place) (s : Seen) → IsWell f w s → IsExponent f w (exponent q s)
exponent_is f w q (seen.Refused g) z = tt
exponent_is f w q seen.Unknown z = tt
exponent_is f w q (seen.Number n) z = tt
exponent_is f w q (seen.Typed t x) z =
    exponent_if f w (t == integer_base) (seen.Typed t x) (refused L2 q) (λ e. subst (λ (k : ℕ). IsTyped f w k x) (eqb-true t integer_base e) z) tt

-- a base of an integer type, and an exponent
abbrev ArePowers : Frame → World → Agreed → Type 0
ArePowers f w (agreed.Typed t x y) = Operand f w demand.Integer t x × IsTyped f w integer_base y
ArePowers f w _ = Unit {0}

left_power : (f : Frame) (w : World) (u : ℕ) (s : Seen) (y : Expr) → IsPlaced f w demand.Integer u s → IsTyped f w integer_base y → ArePowers f w (with_left s y)
left_power f w u (seen.Refused g) y a b = tt
left_power f w u seen.Unknown y a b = tt
left_power f w u (seen.Number n) y a b = tt
left_power f w u (seen.Typed t x) y a b = (subst (λ (v : ℕ). Operand f w demand.Integer v x) (sym a.0) a.1, b)

right_power : (f : Frame) (w : World) (t : ℕ) (x : Expr) (s : Seen) → Operand f w demand.Integer t x → IsPlaced f w demand.Integer integer_base s → ArePowers f w (with_right t x s)
right_power f w t x (seen.Refused g) a b = tt
right_power f w t x seen.Unknown a b = tt
right_power f w t x (seen.Number n) a b = tt
right_power f w t x (seen.Typed u y) a b = let z = b.1 in (a, record { subtype = z.subtype; has = z.has; of_type = z.of_type })

powers_are : (f : Frame) (w : World) (v : Want) (p q : Place) (a b : Seen) → WorldFits f.program w → GivesType w v → IsOperand f w demand.Integer a → IsExponent f w b → ArePowers f w (raised w v p q a b)
powers_are f w v p q (seen.Refused g) (seen.Refused i) h k x y = tt
powers_are f w v p q (seen.Refused g) seen.Unknown h k x y = tt
powers_are f w v p q (seen.Refused g) (seen.Number n) h k x y = tt
powers_are f w v p q (seen.Refused g) (seen.Typed t z) h k x y = tt
powers_are f w v p q seen.Unknown (seen.Refused i) h k x y = tt
powers_are f w v p q seen.Unknown seen.Unknown h k x y = tt
powers_are f w v p q seen.Unknown (seen.Number n) h k x y = tt
powers_are f w v p q seen.Unknown (seen.Typed t z) h k x y = tt
powers_are f w v p q (seen.Number m) (seen.Refused i) h k x y = tt
powers_are f w v p q (seen.Number m) seen.Unknown h k x y = tt
powers_are f w v p q (seen.Number m) (seen.Number n) h k x y = tt
powers_are f w v p q (seen.Number m) (seen.Typed u z) h k x y =
    left_power f w (wanted_integer w v) (placed_number w L2 p p (wanted_integer w v) m) z
    (number_is f w demand.Integer L2 p p (wanted_integer w v) m (form_at w (wanted_integer w v)) h refl (wanted_integer_is f.program w v h k) refl) y
powers_are f w v p q (seen.Typed t z) (seen.Refused i) h k x y = tt
powers_are f w v p q (seen.Typed t z) seen.Unknown h k x y = tt
powers_are f w v p q (seen.Typed t z) (seen.Number n) h k x y =
    right_power f w t z (placed_number w L2 q q integer_base n) x (number_is f w demand.Integer L2 q q integer_base n (form_at w integer_base) h refl (integer_type f.program w h) refl)
powers_are f w v p q (seen.Typed t z) (seen.Typed u y) h k a b = (a, b)

can_raise : (f : Frame) (w : World) (g : Agreed) → WorldFits f.program w → ArePowers f w g → CanJoin f w op.Pow g
can_raise f w (agreed.Refused r) h z = tt
can_raise f w agreed.Unknown h z = tt
can_raise f w (agreed.Numbers a b) h z = tt
can_raise f w (agreed.Typed t x y) h z =
    let a = z.0 in let b = z.1 in (
      type_itself f.program w a.subtype t h a.of_type,
      λ q. rule.power f q x y a.subtype b.subtype t a.has b.has (type_in_program f.program w a.subtype t h a.of_type) (type_in_program f.program w b.subtype integer_base h b.of_type) (type_whole f w t x h a),
    )

-- ---- all operators of two operands

arithmetic_joined : (f : Frame) (w : World) (v : Want) (p o pa pb : Place) (c : Op) (x y : Seen) → IsArithmetic c → WorldFits f.program w → IsWell f w x → IsWell f w y
    → IsWell f w (joined w v p o pa pb (family.Arithmetic c) x y)
arithmetic_joined f w v p o pa pb c x y i h a b =
    let d = demand.Integer in let r = rule_of (family.Arithmetic c) in
    arithmetic_is f w p o pb c (agree w r pa pb (operand w d r pa x) (operand w d r pb y)) h
    (can_join f w c (agree w r pa pb (operand w d r pa x) (operand w d r pb y)) i h
    (agree_is f w d r pa pb (operand w d r pa x) (operand w d r pb y) h (operand_is f w d r pa x h a) (operand_is f w d r pb y h b)))

compared_joined : (f : Frame) (w : World) (v : Want) (p o pa pb : Place) (r : Relation) (x y : Seen) → WorldFits f.program w → IsWell f w x → IsWell f w y
    → IsWell f w (joined w v p o pa pb (family.Compare r) x y)
compared_joined f w v p o pa pb r x y h a b =
    let d = demand_of (family.Compare r) in let l = rule_of (family.Compare r) in
    comparison_is f w p pb r (agree w l pa pb (operand w d l pa x) (operand w d l pb y)) h
    (agree_is f w d l pa pb (operand w d l pa x) (operand w d l pb y) h (operand_is f w d l pa x h a) (operand_is f w d l pb y h b))

connected_joined : (f : Frame) (w : World) (v : Want) (p o pa pb : Place) (c : Connective) (x y : Seen) → WorldFits f.program w → IsWell f w x → IsWell f w y
    → IsWell f w (joined w v p o pa pb (family.Connect c) x y)
connected_joined f w v p o pa pb c x y h a b =
    let d = demand.Truth in let l = rule_of (family.Connect c) in
    connection_is f w p c (agree w l pa pb (operand w d l pa x) (operand w d l pb y)) h
    (agree_is f w d l pa pb (operand w d l pa x) (operand w d l pb y) h (operand_is f w d l pa x h a) (operand_is f w d l pb y h b))

pub joined_is : (f : Frame) (w : World) (v : Want) (p o pa pb : Place) (g : BinaryOperator) (x y : Seen) → WorldFits f.program w → GivesType w v → IsWell f w x → IsWell f w y
    → IsWell f w (joined w v p o pa pb (family_of g) x y)
joined_is f w v p o pa pb binary'.And x y h k a b = connected_joined f w v p o pa pb connective.And x y h a b
joined_is f w v p o pa pb binary'.AndThen x y h k a b = connected_joined f w v p o pa pb connective.AndThen x y h a b
joined_is f w v p o pa pb binary'.Or x y h k a b = connected_joined f w v p o pa pb connective.Or x y h a b
joined_is f w v p o pa pb binary'.OrElse x y h k a b = connected_joined f w v p o pa pb connective.OrElse x y h a b
joined_is f w v p o pa pb binary'.Xor x y h k a b = connected_joined f w v p o pa pb connective.Xor x y h a b
joined_is f w v p o pa pb binary'.Equal x y h k a b = compared_joined f w v p o pa pb relation.Equal x y h a b
joined_is f w v p o pa pb binary'.NotEqual x y h k a b = compared_joined f w v p o pa pb relation.Differs x y h a b
joined_is f w v p o pa pb binary'.Less x y h k a b = compared_joined f w v p o pa pb relation.Less x y h a b
joined_is f w v p o pa pb binary'.AtMost x y h k a b = compared_joined f w v p o pa pb relation.AtMost x y h a b
joined_is f w v p o pa pb binary'.Greater x y h k a b = compared_joined f w v p o pa pb relation.Greater x y h a b
joined_is f w v p o pa pb binary'.AtLeast x y h k a b = compared_joined f w v p o pa pb relation.AtLeast x y h a b
joined_is f w v p o pa pb binary'.Add x y h k a b = arithmetic_joined f w v p o pa pb op.Add x y rule.add h a b
joined_is f w v p o pa pb binary'.Subtract x y h k a b = arithmetic_joined f w v p o pa pb op.Sub x y rule.subtract h a b
joined_is f w v p o pa pb binary'.Multiply x y h k a b = arithmetic_joined f w v p o pa pb op.Mul x y rule.multiply h a b
joined_is f w v p o pa pb binary'.Divide x y h k a b = arithmetic_joined f w v p o pa pb op.Quo x y rule.divide h a b
joined_is f w v p o pa pb binary'.Mod x y h k a b = arithmetic_joined f w v p o pa pb op.Mod x y rule.modulo h a b
joined_is f w v p o pa pb binary'.Rem x y h k a b = arithmetic_joined f w v p o pa pb op.Rem x y rule.remainder h a b
joined_is f w v p o pa pb binary'.Power x y h k a b =
    arithmetic_is f w p o pb op.Pow (raised w v pa pb (operand w demand.Integer L2 pa x) (exponent pb y)) h
    (can_raise f w (raised w v pa pb (operand w demand.Integer L2 pa x) (exponent pb y)) h
    (powers_are f w v pa pb (operand w demand.Integer L2 pa x) (exponent pb y) h k (operand_is f w demand.Integer L2 pa x h a) (exponent_is f w pb y b)))
