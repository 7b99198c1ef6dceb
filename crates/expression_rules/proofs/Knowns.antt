-- Of known operands an operator gives what is known.
use Rattle.std.proofs.Common.{◌≡◌, refl, sym, ◌∙◌, ap, subst, ℕ, ℤ, pos, Bool, true, false, true≢false, ◌==◌, Option, Some, None, Result, Ok, Err}
use Rattle.std.specs.Prelude.{if◌then◌else◌, is_some, not}
use Rattle.ada_syntax.specs.declared.expressions.UnaryOperator.{UnaryOperator}
use Rattle.ada_syntax.specs.declared.expressions.UnaryOperator.TheVariants as unary'
use Rattle.ada_values.specs.Combine.{combined}
use Rattle.ada_values.specs.Scalars.{in_base}
use Rattle.ada_values.specs.declared.place.Place.{Place}
use Rattle.ada_values.specs.declared.scalars.Op.{Op}
use Rattle.ada_values.specs.declared.scalars.Op.TheVariants as op
use Rattle.ada_values.specs.declared.scalars.OpFault.{OpFault}
use Rattle.ada_values.specs.declared.scalars.OpFault.TheVariants as wrong
use Rattle.ada_values.specs.declared.scalars.Scalar.{Scalar}
use Rattle.ada_values.specs.declared.values.Value.TheVariants as value
use Rattle.front_codes.specs.declared.codes.Code.{Code}
use Rattle.front_codes.specs.declared.codes.Code.TheVariants as code
use Rattle.typed_units.specs.declared.expressions.Expr.{Expr, out-roll-Expr}
use Rattle.typed_units.specs.declared.expressions.ExprNode.{ExprNode}
use Rattle.typed_units.specs.declared.expressions.ExprNode.TheVariants as node
use Rattle.typed_units.specs.declared.operators.Connective.{Connective}
use Rattle.typed_units.specs.declared.operators.Relation.{Relation}
use Rattle.type_base.specs.declared.seen.Agreed.{Agreed}
use Rattle.type_base.specs.declared.seen.Agreed.TheVariants as agreed
use Rattle.type_base.specs.declared.seen.Demand.{Demand}
use Rattle.type_base.specs.declared.seen.Demand.TheVariants as demand
use Rattle.type_base.specs.declared.seen.Family.{Family}
use Rattle.type_base.specs.declared.seen.Family.TheVariants as family
use Rattle.type_base.specs.declared.seen.Seen.{Seen}
use Rattle.type_base.specs.declared.seen.Seen.TheVariants.{Refused, Unknown, Number, Typed}
use Rattle.type_base.specs.declared.seen.Want.{Want}
use Rattle.type_base.specs.declared.world.Discrete.{Discrete}
use Rattle.type_base.specs.declared.world.Discrete.TheVariants as discrete
use Rattle.type_base.specs.declared.world.Form.{Form}
use Rattle.type_base.specs.declared.world.Form.TheVariants as form
use Rattle.type_base.specs.declared.world.World.{World}
use Rattle.type_base.specs.Demands.{agree, broken, fitting, integer_of, integer_or, is_one, is_whole, made, meets, number_as, operand, refused, subtype_of, takes_numbers, wanted_integer, wanted_type, with_left, with_right}
use Rattle.type_base.specs.Lookups.{form_at}
use Rattle.type_base.specs.Operators.{demand_of, exponent, joined, operands, powers, raised, rule_of, unary_of}
use Rattle.type_base.specs.Results.{arithmetic, arithmetic_of, changed, changed_of, comparison, comparison_of, computed, connected, connection, connection_of, holds, kept, kept_of, number_in, opposite, opposite_of, settled, truth_in, typed_result, universal, universal_result, widened}
use Rattle.type_base.specs.Standard.{boolean, integer_base}
use Rattle.expression_rules.specs.Known.{HasStandard, IsKnown, SameSort, Stands}

-- ---- forms

abbrev form_or : Form → Option Form → Form
form_or g (Some f) = f
form_or g None = g

one_form : (m : Option Form) (f g : Form) → m ≡ Some f → m ≡ Some g → f ≡ g
one_form m f g a b = ap (form_or f) (sym a ∙ b)

not_none : {A : Type 0} (f : Form) → None ≡ Some f → A
not_none f e = absurd (true≢false (sym (ap is_some e)))

abbrev NoNumber : Form → Type 0
NoNumber (form.Number d s) = ⊥
NoNumber _ = Unit {0}

no_number : {d : Discrete} {s : Scalar} (f : Form) → NoNumber f → f ≡ form.Number d s → ⊥
no_number f h e = subst NoNumber e h

same_sort : (f : Form) → SameSort f f
same_sort (form.Number d s) = tt
same_sort form.Truth = tt
same_sort (form.Array i b t) = tt
same_sort (form.Record i n) = tt

-- the subtype of a type is the type itself
itself : (w : World) (t : ℕ) (f : Form) → form_at w t ≡ Some f → Stands w t t
itself w t f e = record { form = f; is = e; type = f; type_is = e; sort = same_sort f }

made_stands : (w : World) (t : ℕ) (p : Place) (n : ExprNode Expr) → Stands w t t → Stands w t (subtype_of (made p t n))
made_stands w t p n h = subst (λ k. Stands w t k) (sym (ap (λ r. r.subtype) (out-roll-Expr (record { place = p; subtype = t; node = n })))) h

-- a type of numbers
record IsNumber (w : World) (t : ℕ) : Type 0 where
  discrete : Discrete
  scalar : Scalar
  is : form_at w t ≡ Some (form.Number discrete scalar)

number_of_type : (w : World) (t : ℕ) (d : Discrete) (s : Scalar) (g : Form) → SameSort (form.Number d s) g → form_at w t ≡ Some g → IsNumber w t
number_of_type w t d s (form.Number e u) h i = record { discrete = e; scalar = u; is = i }
number_of_type w t d s form.Truth h i = absurd h
number_of_type w t d s (form.Array i b c) h j = absurd h
number_of_type w t d s (form.Record i n) h j = absurd h

-- a type whose subtype is as demanded of an operand of arithmetic
abbrev Serves : World → Demand → ℕ → Type 0
Serves w demand.Integer t = IsNumber w t
Serves w _ t = Unit {0}

serves_by : (w : World) (t : ℕ) (f g : Form) → SameSort f g → form_at w t ≡ Some g → (d : Demand) → meets d f ≡ true → Serves w d t
serves_by w t f g h i demand.Any m = tt
serves_by w t f g h i demand.Ordered m = tt
serves_by w t f g h i demand.Comparable m = tt
serves_by w t f g h i demand.Truth m = tt
serves_by w t (form.Number d s) g h i demand.Integer m = number_of_type w t d s g h i
serves_by w t form.Truth g h i demand.Integer m = absurd (true≢false (sym m))
serves_by w t (form.Array j b c) g h i demand.Integer m = absurd (true≢false (sym m))
serves_by w t (form.Record j n) g h i demand.Integer m = absurd (true≢false (sym m))

-- ---- operands

record Good (w : World) (d : Demand) (t k : ℕ) : Type 0 where
  stands : Stands w t k
  serves : Serves w d t

abbrev Fine : World → Demand → Seen → Type 0
Fine w d (Refused f) = Unit {0}
Fine w d Unknown = ⊥
Fine w d (Number n) = Unit {0}
Fine w d (Typed t x) = Good w d t (subtype_of x)

number_fine : (w : World) (d : Demand) (r : Code) (p : Place) (n : ℤ) (b : Bool) → Fine w d (if b then Number n else refused r p)
number_fine w d r p n true = tt
number_fine w d r p n false = tt

met_fine : (w : World) (d : Demand) (r : Code) (p : Place) (t : ℕ) (x : Expr) (h : Stands w t (subtype_of x)) (g : Form) → form_at w (subtype_of x) ≡ Some g → (b : Bool) → meets d g ≡ b
    → Fine w d (if b then Typed t x else refused r p)
met_fine w d r p t x h g e true m =
    let s : meets d h.form ≡ true = ap (λ (f : Form). meets d f) (one_form (form_at w (subtype_of x)) h.form g h.is e) ∙ m in
    record { stands = h; serves = serves_by w t h.form h.type h.sort h.type_is d s }
met_fine w d r p t x h g e false m = tt

form_fine : (w : World) (d : Demand) (r : Code) (p : Place) (t : ℕ) (x : Expr) (h : Stands w t (subtype_of x)) (m : Option Form) → form_at w (subtype_of x) ≡ m → Fine w d (fitting d r p t x m)
form_fine w d r p t x h None e = not_none h.form (sym e ∙ h.is)
form_fine w d r p t x h (Some g) e = met_fine w d r p t x h g e (meets d g) refl

operand_fine : (w : World) (d : Demand) (r : Code) (p : Place) (a : Seen) → IsKnown w a → Fine w d (operand w d r p a)
operand_fine w d r p (Refused f) h = tt
operand_fine w d r p Unknown h = absurd h
operand_fine w d r p (Number n) h = number_fine w d r p n (takes_numbers d)
operand_fine w d r p (Typed t x) h = form_fine w d r p t x h (form_at w (subtype_of x)) refl

-- ---- two operands

abbrev AreFine : World → Demand → Agreed → Type 0
AreFine w d (agreed.Refused f) = Unit {0}
AreFine w d agreed.Unknown = ⊥
AreFine w d (agreed.Numbers a b) = Unit {0}
AreFine w d (agreed.Typed t x y) = Serves w d t

left_if : (w : World) (d : Demand) (u : ℕ) (x y : Expr) (p q : Place) (a b : Bool) (r s : Code) → Serves w d u → AreFine w d (with_left (if a then (if b then Typed u x else refused r p) else refused s q) y)
left_if w d u x y p q true true r s h = h
left_if w d u x y p q true false r s h = tt
left_if w d u x y p q false b r s h = tt

left_fine : (w : World) (d : Demand) (r : Code) (q p : Place) (u : ℕ) (m : ℤ) (y : Expr) (f : Form) → Serves w d u → (g : Option Form) → g ≡ Some f → AreFine w d (with_left (number_as r q p u m g) y)
left_fine w d r q p u m y f h None e = not_none f e
left_fine w d r q p u m y f h (Some (form.Number c s)) e = left_if w d u (made p u (node.Static (value.Int m))) y p q (is_whole c) (in_base s m) code.L29 r h
left_fine w d r q p u m y f h (Some form.Truth) e = tt
left_fine w d r q p u m y f h (Some (form.Array i b t)) e = tt
left_fine w d r q p u m y f h (Some (form.Record i c)) e = tt

right_if : (w : World) (d : Demand) (t u : ℕ) (x y : Expr) (p q : Place) (a b : Bool) (r s : Code) → Serves w d t → AreFine w d (with_right t x (if a then (if b then Typed u y else refused r p) else refused s q))
right_if w d t u x y p q true true r s h = h
right_if w d t u x y p q true false r s h = tt
right_if w d t u x y p q false b r s h = tt

right_fine : (w : World) (d : Demand) (r : Code) (q p : Place) (t u : ℕ) (m : ℤ) (x : Expr) (f : Form) → Serves w d t → (g : Option Form) → g ≡ Some f → AreFine w d (with_right t x (number_as r q p u m g))
right_fine w d r q p t u m x f h None e = not_none f e
right_fine w d r q p t u m x f h (Some (form.Number c s)) e = right_if w d t u x (made p u (node.Static (value.Int m))) p q (is_whole c) (in_base s m) code.L29 r h
right_fine w d r q p t u m x f h (Some form.Truth) e = tt
right_fine w d r q p t u m x f h (Some (form.Array i b k)) e = tt
right_fine w d r q p t u m x f h (Some (form.Record i c)) e = tt

same_fine : (w : World) (d : Demand) (r : Code) (q : Place) (t : ℕ) (x y : Expr) → Serves w d t → (b : Bool) → AreFine w d (if b then agreed.Typed t x y else agreed.Refused (broken r q))
same_fine w d r q t x y h true = h
same_fine w d r q t x y h false = tt

agree_fine : (w : World) (d : Demand) (r : Code) (p q : Place) (a b : Seen) → Fine w d a → Fine w d b → AreFine w d (agree w r p q a b)
agree_fine w d r p q (Refused f) (Refused g) h i = tt
agree_fine w d r p q (Refused f) Unknown h i = tt
agree_fine w d r p q (Refused f) (Number n) h i = tt
agree_fine w d r p q (Refused f) (Typed u y) h i = tt
agree_fine w d r p q Unknown b h i = absurd h
agree_fine w d r p q (Number m) (Refused g) h i = tt
agree_fine w d r p q (Number m) Unknown h i = absurd i
agree_fine w d r p q (Number m) (Number n) h i = tt
agree_fine w d r p q (Number m) (Typed u y) h i = left_fine w d r q p u m y i.stands.type i.serves (form_at w u) i.stands.type_is
agree_fine w d r p q (Typed t x) (Refused g) h i = tt
agree_fine w d r p q (Typed t x) Unknown h i = absurd i
agree_fine w d r p q (Typed t x) (Number n) h i = right_fine w d r q q t t n x h.stands.type h.serves (form_at w t) h.stands.type_is
agree_fine w d r p q (Typed t x) (Typed u y) h i = same_fine w d r q t x y h.serves (t == u)

operands_fine : (w : World) (f : Family) (p q : Place) (x y : Seen) → IsKnown w x → IsKnown w y → AreFine w (demand_of f) (operands w f p q x y)
operands_fine w f p q x y h i =
    agree_fine w (demand_of f) (rule_of f) p q (operand w (demand_of f) (rule_of f) p x) (operand w (demand_of f) (rule_of f) q y) (operand_fine w (demand_of f) (rule_of f) p x h) (operand_fine w (demand_of f) (rule_of f) q y i)

-- ---- `**`

whole_number : (w : World) (s : HasStandard w) (t : ℕ) (d : Discrete) (z : Scalar) → form_at w t ≡ Some (form.Number d z) → (b : Bool) → IsNumber w (if b then t else integer_base)
whole_number w s t d z e true = record { discrete = d; scalar = z; is = e }
whole_number w s t d z e false = record { discrete = discrete.Signed; scalar = s.integer; is = s.integer_is }

type_number : (w : World) (s : HasStandard w) (t : ℕ) (m : Option Form) → form_at w t ≡ m → IsNumber w (integer_or t m)
type_number w s t None e = record { discrete = discrete.Signed; scalar = s.integer; is = s.integer_is }
type_number w s t (Some (form.Number d z)) e = whole_number w s t d z e (is_whole d)
type_number w s t (Some form.Truth) e = record { discrete = discrete.Signed; scalar = s.integer; is = s.integer_is }
type_number w s t (Some (form.Array i b k)) e = record { discrete = discrete.Signed; scalar = s.integer; is = s.integer_is }
type_number w s t (Some (form.Record i c)) e = record { discrete = discrete.Signed; scalar = s.integer; is = s.integer_is }

wanted_number : (w : World) (s : HasStandard w) (m : Option ℕ) → IsNumber w (integer_of w m)
wanted_number w s None = record { discrete = discrete.Signed; scalar = s.integer; is = s.integer_is }
wanted_number w s (Some t) = type_number w s t (form_at w t) refl

exponent_if : (w : World) (p : Place) (t : ℕ) (x : Expr) → IsKnown w (Typed t x) → (b : Bool) → IsKnown w (if b then Typed t x else refused code.L2 p)
exponent_if w p t x h true = h
exponent_if w p t x h false = tt

exponent_known : (w : World) (p : Place) (a : Seen) → IsKnown w a → IsKnown w (exponent p a)
exponent_known w p (Refused f) h = tt
exponent_known w p Unknown h = absurd h
exponent_known w p (Number n) h = tt
exponent_known w p (Typed t x) h = exponent_if w p t x h (t == integer_base)

raised_fine : (w : World) (s : HasStandard w) (v : Want) (p q : Place) (a b : Seen) → Fine w demand.Integer a → IsKnown w b → AreFine w demand.Integer (raised w v p q a b)
raised_fine w s v p q (Refused f) (Refused g) h i = tt
raised_fine w s v p q (Refused f) Unknown h i = tt
raised_fine w s v p q (Refused f) (Number n) h i = tt
raised_fine w s v p q (Refused f) (Typed u y) h i = tt
raised_fine w s v p q Unknown b h i = absurd h
raised_fine w s v p q (Number m) (Refused g) h i = tt
raised_fine w s v p q (Number m) Unknown h i = absurd i
raised_fine w s v p q (Number m) (Number n) h i = tt
raised_fine w s v p q (Number m) (Typed u y) h i =
    let z = wanted_number w s (wanted_type w v) in
    left_fine w demand.Integer code.L2 p p (wanted_integer w v) m y (form.Number z.discrete z.scalar) z (form_at w (wanted_integer w v)) z.is
raised_fine w s v p q (Typed t x) (Refused g) h i = tt
raised_fine w s v p q (Typed t x) Unknown h i = absurd i
raised_fine w s v p q (Typed t x) (Number n) h i =
    right_fine w demand.Integer code.L2 q q t integer_base n x (form.Number discrete.Signed s.integer) h.serves (form_at w integer_base) s.integer_is
raised_fine w s v p q (Typed t x) (Typed u y) h i = h.serves

-- ---- results

universal_known : (w : World) (p q : Place) (o : Result ℤ OpFault) → IsKnown w (universal_result p q o)
universal_known w p q (Ok n) = tt
universal_known w p q (Err wrong.Overflow) = tt
universal_known w p q (Err wrong.ZeroDivisor) = tt
universal_known w p q (Err wrong.NegativeExponent) = tt

if_known : (w : World) (t : ℕ) (p : Place) (n : ExprNode Expr) (r : Code) → Stands w t t → (b : Bool) → IsKnown w (if b then Typed t (made p t n) else refused r p)
if_known w t p n r h true = made_stands w t p n h
if_known w t p n r h false = tt

result_known : (w : World) (p q : Place) (t : ℕ) (s : Scalar) → Stands w t t → (o : Result ℤ OpFault) → IsKnown w (typed_result p q t s o)
result_known w p q t s h (Ok v) = if_known w t p (node.Static (value.Int v)) code.L29 h (in_base s v)
result_known w p q t s h (Err wrong.Overflow) = tt
result_known w p q t s h (Err wrong.ZeroDivisor) = tt
result_known w p q t s h (Err wrong.NegativeExponent) = tt

static_known : (w : World) (p q : Place) (t : ℕ) (o : Op) (a b : ℤ) (d : Discrete) (s : Scalar) → Stands w t t → (m : Option Form) → m ≡ Some (form.Number d s) → IsKnown w (settled p q t (computed o a b m))
static_known w p q t o a b d s h None e = not_none (form.Number d s) e
static_known w p q t o a b d s h (Some (form.Number c z)) e = result_known w p q t z h (combined o (widened z) a b)
static_known w p q t o a b d s h (Some form.Truth) e = absurd (no_number form.Truth tt (one_form (Some form.Truth) form.Truth (form.Number d s) refl e))
static_known w p q t o a b d s h (Some (form.Array i c k)) e = absurd (no_number (form.Array i c k) tt (one_form (Some (form.Array i c k)) (form.Array i c k) (form.Number d s) refl e))
static_known w p q t o a b d s h (Some (form.Record i n)) e = absurd (no_number (form.Record i n) tt (one_form (Some (form.Record i n)) (form.Record i n) (form.Number d s) refl e))

arithmetic_two : (w : World) (p o q : Place) (c : Op) (t : ℕ) (x y : Expr) → IsNumber w t → (a b : Option ℤ) → IsKnown w (arithmetic_of w p o q c t x y a b)
arithmetic_two w p o q c t x y h (Some a) (Some b) =
    static_known w p q t c a b h.discrete h.scalar (itself w t (form.Number h.discrete h.scalar) h.is) (form_at w t) h.is
arithmetic_two w p o q c t x y h (Some a) None = made_stands w t p (node.Binary o c x y) (itself w t (form.Number h.discrete h.scalar) h.is)
arithmetic_two w p o q c t x y h None b = made_stands w t p (node.Binary o c x y) (itself w t (form.Number h.discrete h.scalar) h.is)

arithmetic_known : (w : World) (p o q : Place) (c : Op) (g : Agreed) → AreFine w demand.Integer g → IsKnown w (arithmetic w p o q c g)
arithmetic_known w p o q c (agreed.Refused f) h = tt
arithmetic_known w p o q c agreed.Unknown h = absurd h
arithmetic_known w p o q c (agreed.Numbers a b) h = universal_known w p q (combined c universal a b)
arithmetic_known w p o q c (agreed.Typed t x y) h = arithmetic_two w p o q c t x y h (number_in x) (number_in y)

truth_known : (w : World) (s : HasStandard w) (p : Place) (n : ExprNode Expr) → Stands w boolean (subtype_of (made p boolean n))
truth_known w s p n = made_stands w boolean p n (itself w boolean form.Truth s.truth)

comparison_two : (w : World) (s : HasStandard w) (p : Place) (r : Relation) (x y : Expr) (a b : Option ℤ) → IsKnown w (comparison_of p r x y a b)
comparison_two w s p r x y (Some a) (Some b) = truth_known w s p (node.Static (value.Bool (holds r a b)))
comparison_two w s p r x y (Some a) None = truth_known w s p (node.Compare r x y)
comparison_two w s p r x y None b = truth_known w s p (node.Compare r x y)

comparison_if : (w : World) (s : HasStandard w) (p q : Place) (r : Relation) (x y : Expr) (b : Bool) → IsKnown w (if b then comparison_of p r x y (number_in x) (number_in y) else refused code.L5 q)
comparison_if w s p q r x y true = comparison_two w s p r x y (number_in x) (number_in y)
comparison_if w s p q r x y false = tt

comparison_known : (w : World) (s : HasStandard w) (p q : Place) (r : Relation) (d : Demand) (g : Agreed) → AreFine w d g → IsKnown w (comparison w p q r g)
comparison_known w s p q r d (agreed.Refused f) h = tt
comparison_known w s p q r d agreed.Unknown h = absurd h
comparison_known w s p q r d (agreed.Numbers a b) h = truth_known w s p (node.Static (value.Bool (holds r a b)))
comparison_known w s p q r d (agreed.Typed t x y) h = comparison_if w s p q r x y (is_one w (subtype_of x) (subtype_of y))

connection_two : (w : World) (s : HasStandard w) (p : Place) (c : Connective) (x y : Expr) (a b : Option Bool) → IsKnown w (connection_of p c x y a b)
connection_two w s p c x y (Some a) (Some b) = truth_known w s p (node.Static (value.Bool (connected c a b)))
connection_two w s p c x y (Some a) None = truth_known w s p (node.Connect c x y)
connection_two w s p c x y None b = truth_known w s p (node.Connect c x y)

connection_known : (w : World) (s : HasStandard w) (p : Place) (c : Connective) (g : Agreed) → AreFine w demand.Truth g → IsKnown w (connection p c g)
connection_known w s p c (agreed.Refused f) h = tt
connection_known w s p c agreed.Unknown h = absurd h
connection_known w s p c (agreed.Numbers a b) h = tt
connection_known w s p c (agreed.Typed t x y) h = connection_two w s p c x y (truth_in x) (truth_in y)

pub binary_known : (w : World) → HasStandard w → (v : Want) (p o pa pb : Place) (f : Family) (x y : Seen) → IsKnown w x → IsKnown w y → IsKnown w (joined w v p o pa pb f x y)
binary_known w s v p o pa pb (family.Arithmetic c) x y h i = arithmetic_known w p o pb c (operands w (family.Arithmetic c) pa pb x y) (operands_fine w (family.Arithmetic c) pa pb x y h i)
binary_known w s v p o pa pb (family.Compare r) x y h i = comparison_known w s p pb r (demand_of (family.Compare r)) (operands w (family.Compare r) pa pb x y) (operands_fine w (family.Compare r) pa pb x y h i)
binary_known w s v p o pa pb (family.Connect c) x y h i = connection_known w s p c (operands w (family.Connect c) pa pb x y) (operands_fine w (family.Connect c) pa pb x y h i)
binary_known w s v p o pa pb family.Power x y h i =
    arithmetic_known w p o pb op.Pow (powers w v pa pb x y) (raised_fine w s v pa pb (operand w demand.Integer code.L2 pa x) (exponent pb y) (operand_fine w demand.Integer code.L2 pa x h) (exponent_known w pb y i))

-- ---- one operand

kept_two : (w : World) (p : Place) (t : ℕ) (x : Expr) → Stands w t t → (a : Option ℤ) → IsKnown w (kept_of p t x a)
kept_two w p t x h (Some a) = made_stands w t p (node.Static (value.Int a)) h
kept_two w p t x h None = made_stands w t p (node.Same x) h

kept_known : (w : World) (p : Place) (a : Seen) → Fine w demand.Integer a → IsKnown w (kept p a)
kept_known w p (Refused f) h = tt
kept_known w p Unknown h = absurd h
kept_known w p (Number n) h = tt
kept_known w p (Typed t x) h = kept_two w p t x (itself w t (form.Number h.serves.discrete h.serves.scalar) h.serves.is) (number_in x)

changed_two : (w : World) (p : Place) (o : Op) (t : ℕ) (x : Expr) → IsNumber w t → (a : Option ℤ) → IsKnown w (changed_of w p o t x a)
changed_two w p o t x h (Some a) = static_known w p p t o a (pos 0) h.discrete h.scalar (itself w t (form.Number h.discrete h.scalar) h.is) (form_at w t) h.is
changed_two w p o t x h None = made_stands w t p (node.Unary p o x) (itself w t (form.Number h.discrete h.scalar) h.is)

changed_known : (w : World) (p : Place) (o : Op) (a : Seen) → Fine w demand.Integer a → IsKnown w (changed w p o a)
changed_known w p o (Refused f) h = tt
changed_known w p o Unknown h = absurd h
changed_known w p o (Number n) h = universal_known w p p (combined o universal n (pos 0))
changed_known w p o (Typed t x) h = changed_two w p o t x h.serves (number_in x)

opposite_two : (w : World) (s : HasStandard w) (p : Place) (x : Expr) (a : Option Bool) → IsKnown w (opposite_of p x a)
opposite_two w s p x (Some b) = truth_known w s p (node.Static (value.Bool (not b)))
opposite_two w s p x None = truth_known w s p (node.Not x)

opposite_known : (w : World) (s : HasStandard w) (p : Place) (a : Seen) → Fine w demand.Truth a → IsKnown w (opposite p a)
opposite_known w s p (Refused f) h = tt
opposite_known w s p Unknown h = absurd h
opposite_known w s p (Number n) h = tt
opposite_known w s p (Typed t x) h = opposite_two w s p x (truth_in x)

pub unary_known : (w : World) → HasStandard w → (p q : Place) (o : UnaryOperator) (x : Seen) → IsKnown w x → IsKnown w (unary_of w p q o x)
unary_known w s p q unary'.Plus x h = kept_known w p (operand w demand.Integer code.L3 q x) (operand_fine w demand.Integer code.L3 q x h)
unary_known w s p q unary'.Minus x h = changed_known w p op.Neg (operand w demand.Integer code.L3 q x) (operand_fine w demand.Integer code.L3 q x h)
unary_known w s p q unary'.Abs x h = changed_known w p op.Abs (operand w demand.Integer code.L3 q x) (operand_fine w demand.Integer code.L3 q x h)
unary_known w s p q unary'.Not x h = opposite_known w s p (operand w demand.Truth code.L4 q x) (operand_fine w demand.Truth code.L4 q x h)
