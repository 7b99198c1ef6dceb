-- What operators of well-typed operands give.
use Rattle.std.proofs.Common.{◌≡◌, ap, ap₂, subst, sym, ◌∙◌, refl, true≢false, ℕ, ℤ, pos, Bool, true, not, Option, Some, None, Result, Ok, Err, arith}
use Rattle.std.specs.Ordering.{int_eq}
use Rattle.std.proofs.lemmas.Int.{ints}
use Rattle.ada_values.specs.Combine.{combined}
use Rattle.ada_values.specs.Scalars.{in_base}
use Rattle.ada_values.specs.declared.place.Place.{Place}
use Rattle.ada_values.specs.declared.scalars.Op.{Op}
use Rattle.ada_values.specs.declared.scalars.OpFault.{OpFault}
use Rattle.ada_values.specs.declared.scalars.OpFault.TheVariants as fault
use Rattle.ada_values.specs.declared.scalars.Scalar.{Scalar}
use Rattle.ada_values.specs.declared.shapes.Shape.{Shape}
use Rattle.ada_values.specs.declared.values.Value.TheVariants as values
use Rattle.front_codes.specs.declared.codes.Code.TheVariants.{L5, L29}
use Rattle.typed_units.specs.declared.expressions.Expr.{Expr}
use Rattle.typed_units.specs.declared.expressions.ExprNode.TheVariants as node
use Rattle.typed_units.specs.declared.operators.Bounds.{Bounds}
use Rattle.typed_units.specs.declared.operators.Connective.{Connective}
use Rattle.typed_units.specs.declared.operators.Relation.{Relation}
use Rattle.typed_units.specs.declared.operators.Relation.TheVariants as relation
use Rattle.typed_units.specs.declared.programs.Class.{Class}
use Rattle.typed_units.specs.declared.programs.Program.{Program}
use Rattle.type_base.specs.declared.seen.Agreed.{Agreed}
use Rattle.type_base.specs.declared.seen.Agreed.TheVariants as agreed
use Rattle.type_base.specs.declared.seen.Demand.TheVariants as demand
use Rattle.type_base.specs.declared.seen.Family.TheVariants as family
use Rattle.type_base.specs.declared.seen.Seen.{Seen}
use Rattle.type_base.specs.declared.seen.Seen.TheVariants as seen
use Rattle.type_base.specs.declared.world.Discrete.{Discrete}
use Rattle.type_base.specs.declared.world.Form.{Form}
use Rattle.type_base.specs.declared.world.Form.TheVariants as form
use Rattle.type_base.specs.declared.world.World.{World}
use Rattle.type_base.specs.Demands.{array_bounds, is_one, made, refused, same_bounds, subtype_of}
use Rattle.type_base.specs.Lookups.{form_at, form_in, subtype_at, type_at}
use Rattle.type_base.specs.Operators.{demand_of}
use Rattle.type_base.specs.Results as results
use Rattle.type_base.specs.Results.{arithmetic, arithmetic_of, bit, changed, changed_of, comparison, comparison_of, computed, connected, connection, connection_of, holds, kept, kept_of, number_in, number_of, opposite, opposite_of, settled, static_truth, truth_at, truth_in, typed_result, universal_result}
use Rattle.type_base.specs.Standard.{boolean}
use Rattle.program_typing.specs.Expressions as rule
use Rattle.program_typing.specs.Expressions.{Compares, Frame, Gives, HasSubtype, IsArithmetic, IsSign}
use Rattle.program_typing.specs.Subtypes as subtypes
use Rattle.program_typing.specs.Subtypes.{Has, IsSound, class_of, fixed_bounds, passes, shape_of}
use Rattle.program_typing.proofs.Nodes.{subtype_is}
use Rattle.well_typed_programs.specs.Fits as world
use Rattle.well_typed_programs.specs.Fits.{IsShape, IsTyped, IsWell, WorldFits}
use Rattle.well_typed_programs.proofs.Operators.{AreOperands, ClassMeets, IsOperand, Operand}
use Rattle.well_typed_programs.proofs.Worlds.{base_in_shape, both_true, boolean_type, class_kept, made_is, shape_there, truth_in_shape, type_in_program, type_itself, type_there, well_if}

-- ---- static results

universal_is : (f : Frame) (w : World) (p q : Place) (r : Result ℤ OpFault) → IsWell f w (universal_result p q r)
universal_is f w p q (Ok v) = tt
universal_is f w p q (Err fault.Overflow) = tt
universal_is f w p q (Err fault.ZeroDivisor) = tt
universal_is f w p q (Err fault.NegativeExponent) = tt

result_is : (f : Frame) (w : World) (p q : Place) (t : ℕ) (d : Discrete) (s : Scalar) (r : Result ℤ OpFault) → WorldFits f.program w → type_at w t ≡ Some t → form_at w t ≡ Some (form.Number d s)
    → IsWell f w (typed_result p q t s r)
result_is f w p q t d s (Ok v) h e g =
    well_if f w (in_base s v) (seen.Typed t (made p t (node.Static (values.Int v)))) (refused L29 p)
    (λ i. made_is f w p t t (node.Static (values.Int v)) e (rule.static f t (values.Int v) (base_in_shape f.program w t d s v h e g i))) tt
result_is f w p q t d s (Err fault.Overflow) h e g = tt
result_is f w p q t d s (Err fault.ZeroDivisor) h e g = tt
result_is f w p q t d s (Err fault.NegativeExponent) h e g = tt

computed_is : (f : Frame) (w : World) (p q : Place) (t : ℕ) (c : Op) (a b : ℤ) (m : Option Form) → WorldFits f.program w → type_at w t ≡ Some t → form_at w t ≡ m → IsWell f w (settled p q t (computed c a b m))
computed_is f w p q t c a b None h e g = tt
computed_is f w p q t c a b (Some form.Truth) h e g = tt
computed_is f w p q t c a b (Some (form.Array i o k)) h e g = tt
computed_is f w p q t c a b (Some (form.Record i o)) h e g = tt
computed_is f w p q t c a b (Some (form.Number d s)) h e g = result_is f w p q t d s (combined c (results.widened s) a b) h e g

pub truth_is : (f : Frame) (w : World) (p : Place) (b : Bool) → WorldFits f.program w → IsWell f w (static_truth p b)
truth_is f w p b h = made_is f w p boolean boolean (node.Static (values.Bool b)) (boolean_type f.program w h) (rule.static f boolean (values.Bool b) (truth_in_shape f.program w b h))

-- ---- arithmetic

abbrev pub CanJoin : Frame → World → Op → Agreed → Type 0
CanJoin f w c (agreed.Typed t x y) = (type_at w t ≡ Some t) × ((q : Place) → Gives f (node.Binary q c x y) t)
CanJoin f w c _ = Unit {0}

join_is : (f : Frame) (w : World) (p o q : Place) (c : Op) (t : ℕ) (x y : Expr) (m n : Option ℤ) → WorldFits f.program w → type_at w t ≡ Some t → Gives f (node.Binary o c x y) t
    → IsWell f w (arithmetic_of w p o q c t x y m n)
join_is f w p o q c t x y (Some a) (Some b) h e g = computed_is f w p q t c a b (form_at w t) h e refl
join_is f w p o q c t x y (Some a) None h e g = made_is f w p t t (node.Binary o c x y) e g
join_is f w p o q c t x y None (Some b) h e g = made_is f w p t t (node.Binary o c x y) e g
join_is f w p o q c t x y None None h e g = made_is f w p t t (node.Binary o c x y) e g

pub arithmetic_is : (f : Frame) (w : World) (p o q : Place) (c : Op) (g : Agreed) → WorldFits f.program w → CanJoin f w c g → IsWell f w (arithmetic w p o q c g)
arithmetic_is f w p o q c (agreed.Refused r) h z = tt
arithmetic_is f w p o q c agreed.Unknown h z = tt
arithmetic_is f w p o q c (agreed.Numbers a b) h z = universal_is f w p q (combined c results.universal a b)
arithmetic_is f w p o q c (agreed.Typed t x y) h z = join_is f w p o q c t x y (number_in x) (number_in y) h z.0 (z.1 o)

-- the type of an integer operand is an integer type
pub type_whole : (f : Frame) (w : World) (t : ℕ) (x : Expr) → WorldFits f.program w → (z : Operand f w demand.Integer t x) → Has subtypes.is_integer f.program t
type_whole f w t x h z = ap (λ (c : Option Class). passes subtypes.is_integer c) (class_kept f.program w z.subtype t h z.of_type) ∙ z.meets

pub can_join : (f : Frame) (w : World) (c : Op) (g : Agreed) → IsArithmetic c → WorldFits f.program w → AreOperands f w demand.Integer g → CanJoin f w c g
can_join f w c (agreed.Refused r) i h z = tt
can_join f w c agreed.Unknown i h z = tt
can_join f w c (agreed.Numbers a b) i h z = tt
can_join f w c (agreed.Typed t x y) i h z =
    let a = z.0 in let b = z.1 in (
      type_itself f.program w a.subtype t h a.of_type,
      λ q. rule.arithmetic f q c x y a.subtype b.subtype t i a.has b.has (type_in_program f.program w a.subtype t h a.of_type) (type_in_program f.program w b.subtype t h b.of_type) (type_whole f w t x h a),
    )

-- ---- comparison

fixed_shape : (w : World) (g : Form) (sh : Shape) → IsShape w g sh → subtypes.fixed_in (Some sh) ≡ array_bounds (Some g)
fixed_shape w _ _ (world.number d s) = refl
fixed_shape w _ _ world.truth = refl
fixed_shape w _ _ (world.array i t b a u v) = u
fixed_shape w _ _ (world.record_of m n) = refl

pub fixed_there : (p : Program) (w : World) (k t : ℕ) → WorldFits p w → type_at w k ≡ Some t → fixed_bounds p k ≡ array_bounds (form_at w k)
fixed_there p w k t h e =
    let z = type_there (subtype_at w k) t e in
    let g = ap (λ o. form_in o) z.1 in
    let s = shape_there p w k (z.0).form h g in
    ap (λ (o : Option Shape). subtypes.fixed_in o) s.of_shape ∙ fixed_shape w (z.0).form s.shape s.is ∙ ap (λ (o : Option Form). array_bounds o) (sym g)

same_numbers : (a b : ℤ) → int_eq a b ≡ true → a ≡ b
same_numbers a b e = grind (arith, ints)

bounds_same : (a b : Option Bounds) → same_bounds a b ≡ true → a ≡ b
bounds_same None None e = refl
bounds_same None (Some b) e = absurd (true≢false (sym e))
bounds_same (Some a) None e = absurd (true≢false (sym e))
bounds_same (Some a) (Some b) e =
    let z = both_true (int_eq a.first b.first) (int_eq a.last b.last) e in
    ap₂ (λ (x y : ℤ). Some (record { first = x; last = y })) (same_numbers a.first b.first z.0) (same_numbers a.last b.last z.1)

compares : (p : Program) (i j : ℕ) (r : Relation) → ClassMeets p (demand_of (family.Compare r)) i → fixed_bounds p i ≡ fixed_bounds p j → Compares p i j r
compares p i j relation.Equal m e = rule.equal m e
compares p i j relation.Differs m e = rule.differ m e
compares p i j relation.Less m e = rule.less m
compares p i j relation.AtMost m e = rule.at_most m
compares p i j relation.Greater m e = rule.greater m
compares p i j relation.AtLeast m e = rule.at_least m

compared_is : (f : Frame) (w : World) (p : Place) (r : Relation) (x y : Expr) (m n : Option ℤ) → WorldFits f.program w → Gives f (node.Compare r x y) boolean → IsWell f w (comparison_of p r x y m n)
compared_is f w p r x y (Some a) (Some b) h g = truth_is f w p (holds r a b) h
compared_is f w p r x y (Some a) None h g = made_is f w p boolean boolean (node.Compare r x y) (boolean_type f.program w h) g
compared_is f w p r x y None (Some b) h g = made_is f w p boolean boolean (node.Compare r x y) (boolean_type f.program w h) g
compared_is f w p r x y None None h g = made_is f w p boolean boolean (node.Compare r x y) (boolean_type f.program w h) g

pub comparison_is : (f : Frame) (w : World) (p q : Place) (r : Relation) (g : Agreed) → WorldFits f.program w → AreOperands f w (demand_of (family.Compare r)) g → IsWell f w (comparison w p q r g)
comparison_is f w p q r (agreed.Refused d) h z = tt
comparison_is f w p q r agreed.Unknown h z = tt
comparison_is f w p q r (agreed.Numbers a b) h z = truth_is f w p (holds r a b) h
comparison_is f w p q r (agreed.Typed t x y) h z =
    let a = z.0 in let b = z.1 in
    well_if f w (is_one w (subtype_of x) (subtype_of y)) (comparison_of p r x y (number_in x) (number_in y)) (refused L5 q)
    (λ one.
    let same = bounds_same (array_bounds (form_at w (subtype_of x))) (array_bounds (form_at w (subtype_of y))) one in
    let here = ap (λ (k : ℕ). array_bounds (form_at w k)) (subtype_is f x a.subtype a.has) in
    let there = ap (λ (k : ℕ). array_bounds (form_at w k)) (subtype_is f y b.subtype b.has) in
    let e = fixed_there f.program w a.subtype t h a.of_type ∙ sym here ∙ same ∙ there ∙ sym (fixed_there f.program w b.subtype t h b.of_type) in
    compared_is f w p r x y (number_in x) (number_in y) h
    (rule.comparison f r x y a.subtype b.subtype a.has b.has
    (record { type = t; first = type_in_program f.program w a.subtype t h a.of_type; second = type_in_program f.program w b.subtype t h b.of_type })
    (compares f.program a.subtype b.subtype r a.meets e))) tt

-- ---- truth values

of_boolean : (f : Frame) (w : World) (t : ℕ) (x : Expr) → Operand f w demand.Truth t x → HasSubtype f x boolean
of_boolean f w t x z = subst (λ (k : ℕ). HasSubtype f x k) z.meets z.has

connected_is : (f : Frame) (w : World) (p : Place) (c : Connective) (x y : Expr) (m n : Option Bool) → WorldFits f.program w → Gives f (node.Connect c x y) boolean → IsWell f w (connection_of p c x y m n)
connected_is f w p c x y (Some a) (Some b) h g = truth_is f w p (connected c a b) h
connected_is f w p c x y (Some a) None h g = made_is f w p boolean boolean (node.Connect c x y) (boolean_type f.program w h) g
connected_is f w p c x y None (Some b) h g = made_is f w p boolean boolean (node.Connect c x y) (boolean_type f.program w h) g
connected_is f w p c x y None None h g = made_is f w p boolean boolean (node.Connect c x y) (boolean_type f.program w h) g

pub connection_is : (f : Frame) (w : World) (p : Place) (c : Connective) (g : Agreed) → WorldFits f.program w → AreOperands f w demand.Truth g → IsWell f w (connection p c g)
connection_is f w p c (agreed.Refused d) h z = tt
connection_is f w p c agreed.Unknown h z = tt
connection_is f w p c (agreed.Numbers a b) h z = tt
connection_is f w p c (agreed.Typed t x y) h z =
    connected_is f w p c x y (truth_in x) (truth_in y) h (rule.connection f c x y (of_boolean f w t x z.0) (of_boolean f w t y z.1))

negated_is : (f : Frame) (w : World) (p : Place) (x : Expr) (m : Option Bool) → WorldFits f.program w → HasSubtype f x boolean → IsWell f w (opposite_of p x m)
negated_is f w p x (Some b) h g = truth_is f w p (not b) h
negated_is f w p x None h g = made_is f w p boolean boolean (node.Not x) (boolean_type f.program w h) (rule.negation f x g)

pub opposite_is : (f : Frame) (w : World) (p : Place) (s : Seen) → WorldFits f.program w → IsOperand f w demand.Truth s → IsWell f w (opposite p s)
opposite_is f w p (seen.Refused r) h z = tt
opposite_is f w p seen.Unknown h z = tt
opposite_is f w p (seen.Number n) h z = tt
opposite_is f w p (seen.Typed t x) h z = negated_is f w p x (truth_in x) h (of_boolean f w t x z)

-- ---- signs

signed_is : (f : Frame) (w : World) (p : Place) (o : Op) (t : ℕ) (x : Expr) (m : Option ℤ) → IsSign o → WorldFits f.program w → Operand f w demand.Integer t x → IsWell f w (changed_of w p o t x m)
signed_is f w p o t x (Some a) i h z = computed_is f w p p t o a (pos 0) (form_at w t) h (type_itself f.program w z.subtype t h z.of_type) refl
signed_is f w p o t x None i h z =
    made_is f w p t t (node.Unary p o x) (type_itself f.program w z.subtype t h z.of_type) (rule.sign f p o x z.subtype t i z.has (type_in_program f.program w z.subtype t h z.of_type) z.meets)

pub changed_is : (f : Frame) (w : World) (p : Place) (o : Op) (s : Seen) → IsSign o → WorldFits f.program w → IsOperand f w demand.Integer s → IsWell f w (changed w p o s)
changed_is f w p o (seen.Refused r) i h z = tt
changed_is f w p o seen.Unknown i h z = tt
changed_is f w p o (seen.Number n) i h z = universal_is f w p p (combined o results.universal n (pos 0))
changed_is f w p o (seen.Typed t x) i h z = signed_is f w p o t x (number_in x) i h z
