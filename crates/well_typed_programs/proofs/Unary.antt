-- Operators of one operand.
use Rattle.std.proofs.Common.{◌≡◌, ap, subst, sym, ◌∙◌, refl, true≢false, ℕ, ℤ, Bool, true, Option, Some, None, arith}
use Rattle.std.proofs.lemmas.Int.{ints}
use Rattle.ada_syntax.specs.declared.expressions.UnaryOperator.{UnaryOperator}
use Rattle.ada_syntax.specs.declared.expressions.UnaryOperator.TheVariants as unary'
use Rattle.ada_values.specs.Scalars.{within}
use Rattle.ada_values.specs.Shapes.{fits, in_shape}
use Rattle.ada_values.specs.Value.{Val, number, truth, value}
use Rattle.ada_values.specs.declared.place.Place.{Place}
use Rattle.ada_values.specs.declared.scalars.Op.TheVariants as op
use Rattle.ada_values.specs.declared.shapes.Shape.{Shape}
use Rattle.ada_values.specs.declared.shapes.Shape.TheVariants as shape
use Rattle.ada_values.specs.declared.values.Value.TheVariants as values
use Rattle.ada_values.proofs.Views.{value_Bool, value_Int}
use Rattle.front_codes.specs.declared.codes.Code.TheVariants.{L3, L4}
use Rattle.typed_units.specs.declared.expressions.Expr.{Expr, out-Expr}
use Rattle.typed_units.specs.declared.expressions.ExprNode.{ExprNode}
use Rattle.typed_units.specs.declared.expressions.ExprNode.TheVariants as node
use Rattle.typed_units.specs.declared.programs.Class.{Class}
use Rattle.typed_units.specs.declared.programs.Class.TheVariants as class
use Rattle.typed_units.specs.declared.programs.Program.{Program}
use Rattle.type_base.specs.declared.seen.Demand.TheVariants as demand
use Rattle.type_base.specs.declared.seen.Seen.{Seen}
use Rattle.type_base.specs.declared.seen.Seen.TheVariants as seen
use Rattle.type_base.specs.declared.world.World.{World}
use Rattle.type_base.specs.Demands.{operand}
use Rattle.type_base.specs.Lookups.{type_at}
use Rattle.type_base.specs.Operators.{unary_of}
use Rattle.type_base.specs.Results.{kept, kept_of, number_in, number_of}
use Rattle.program_typing.specs.Expressions as rule
use Rattle.program_typing.specs.Expressions.{Frame, Gives, HasSubtype}
use Rattle.program_typing.specs.Subtypes as subtypes
use Rattle.program_typing.specs.Subtypes.{HasBase, Has, IsSound, class_of, passes, shape_of}
use Rattle.program_typing.proofs.Nodes.{node_gives}
use Rattle.well_typed_programs.specs.Fits.{IsWell, WorldFits}
use Rattle.well_typed_programs.proofs.Operators.{IsOperand, Operand, operand_is}
use Rattle.well_typed_programs.proofs.Results.{changed_is, opposite_is}
use Rattle.well_typed_programs.proofs.Worlds.{made_is, none_is, some_is, sound_there, type_in_program, type_itself, widened}

-- ---- static values lie in their subtypes

abbrev pub StaticIs : Frame → ExprNode Expr → ℕ → Type 0
StaticIs f (node.Static v) k = in_shape f.program.shapes k (value v) ≡ true
StaticIs f _ k = Unit {0}

pub static_is : (f : Frame) (n : ExprNode Expr) (k : ℕ) → Gives f n k → StaticIs f n k
static_is _ _ _ (rule.static f k v e) = e
static_is _ _ _ _ = tt

abbrev is_whole_class : Option Class → Bool
is_whole_class o = passes subtypes.is_integer o

-- a number of a subtype belongs to its type
within_wider : (a b l h n : ℤ) → within a b l ≡ true → within a b h ≡ true → within l h n ≡ true → within a b n ≡ true
within_wider a b l h n x y z = grind (arith, ints)

int_in_type : (p : Program) (c : Class) (k : ℕ) (sh ty : Shape) (n : ℤ) → IsSound p k c sh → subtypes.Widens ty sh → fits p.shapes (Some sh) (number n) ≡ true
    → fits p.shapes (Some ty) (number n) ≡ true
int_in_type p _ k _ ty n (subtypes.number c s b l h o) w e =
    ap (λ (x : Shape). fits p.shapes (Some x) (number n)) (widened ty (shape.Number s) s w refl)
    ∙ within_wider s.base_lo s.base_hi s.lo s.hi n l h e
int_in_type p _ k _ ty n (subtypes.truth z) w e = absurd (true≢false (sym e))
int_in_type p _ k _ ty n (subtypes.array i a x y z u v) w e = absurd (true≢false (sym e))
int_in_type p _ k _ ty n (subtypes.record_of ids x) w e = absurd (true≢false (sym e))

pub int_widens : (p : Program) (w : World) (k t : ℕ) (n : ℤ) → WorldFits p w → type_at w k ≡ Some t → in_shape p.shapes k (value (values.Int n)) ≡ true → in_shape p.shapes t (value (values.Int n)) ≡ true
int_widens p w k t n h e i =
    let z = sound_there p w k t h e in
    let same = some_is z.type t (sym z.of_type ∙ type_in_program p w k t h e) in
    let here = ap (λ (o : Option Shape). fits p.shapes o (value (values.Int n))) (sym z.of_shape) ∙ i in
    let plain = ap (λ (v : Val). fits p.shapes (Some z.shape) v) (sym (value_Int n)) ∙ here in
    ap (λ (o : Option Shape). fits p.shapes o (value (values.Int n))) (ap (λ (j : ℕ). shape_of p j) (sym same) ∙ z.of_type_shape)
    ∙ ap (λ (v : Val). fits p.shapes (Some z.type_shape) v) (value_Int n)
    ∙ int_in_type p z.class k z.shape z.type_shape n z.sound z.widens plain

-- ---- unary `+`

not_whole : (p : Program) (k : ℕ) (c : Class) (sh : Shape) (b : Bool) → IsSound p k c sh → subtypes.is_integer c ≡ true → fits p.shapes (Some sh) (truth b) ≡ true → ⊥
not_whole p k _ _ b (subtypes.number c s x l h o) m e = true≢false (sym e)
not_whole p k _ _ b (subtypes.truth z) m e = true≢false (sym m)
not_whole p k _ _ b (subtypes.array i a x y z u v) m e = true≢false (sym m)
not_whole p k _ _ b (subtypes.record_of ids x) m e = true≢false (sym m)

whole_ordered : (o : Option Class) → passes subtypes.is_integer o ≡ true → passes subtypes.is_ordered o ≡ true
whole_ordered None m = m
whole_ordered (Some class.Signed) m = refl
whole_ordered (Some class.Modular) m = refl
whole_ordered (Some class.Enumeration) m = absurd (true≢false (sym m))
whole_ordered (Some class.Boolean) m = absurd (true≢false (sym m))
whole_ordered (Some (class.Array i)) m = absurd (true≢false (sym m))
whole_ordered (Some class.Record) m = absurd (true≢false (sym m))

-- a truth value is of no integer subtype
pub no_truth : (p : Program) (w : World) (k t : ℕ) (b : Bool) → WorldFits p w → type_at w k ≡ Some t → Has subtypes.is_integer p k → in_shape p.shapes k (value (values.Bool b)) ≡ true → ⊥
no_truth p w k t b h e m i =
    let z = sound_there p w k t h e in
    let here = ap (λ (o : Option Shape). fits p.shapes o (value (values.Bool b))) (sym z.of_shape) ∙ i in
    let plain = ap (λ (v : Val). fits p.shapes (Some z.shape) v) (sym (value_Bool b)) ∙ here in
    not_whole p k z.class z.shape b z.sound (ap is_whole_class (sym z.of_class) ∙ m) plain

number_static : (f : Frame) (w : World) (n : ExprNode Expr) (k t : ℕ) (a : ℤ) → WorldFits f.program w → type_at w k ≡ Some t → Has subtypes.is_integer f.program k → StaticIs f n k → number_of n ≡ Some a
    → in_shape f.program.shapes k (value (values.Int a)) ≡ true
number_static f w (node.Static (values.Int m)) k t a h e c s g = subst (λ (v : ℤ). in_shape f.program.shapes k (value (values.Int v)) ≡ true) (some_is m a g) s
number_static f w (node.Static (values.Bool b)) k t a h e c s g = absurd (no_truth f.program w k t b h e c s)
number_static f w _ k t a h e c s g = absurd (none_is None a refl g)

kept_typed : (f : Frame) (w : World) (p : Place) (t : ℕ) (x : Expr) (m : Option ℤ) → WorldFits f.program w → (z : Operand f w demand.Integer t x) → number_in x ≡ m → IsWell f w (kept_of p t x m)
kept_typed f w p t x None h z e =
    made_is f w p t t (node.Same x) (type_itself f.program w z.subtype t h z.of_type)
    (rule.plus f x z.subtype t z.has (type_in_program f.program w z.subtype t h z.of_type) (whole_ordered (class_of f.program z.subtype) z.meets))
kept_typed f w p t x (Some a) h z e =
    made_is f w p t t (node.Static (values.Int a)) (type_itself f.program w z.subtype t h z.of_type)
    (rule.static f t (values.Int a) (int_widens f.program w z.subtype t a h z.of_type
    (number_static f w (out-Expr x).node z.subtype t a h z.of_type z.meets (static_is f (out-Expr x).node z.subtype (node_gives f x z.subtype z.has)) e)))

kept_is : (f : Frame) (w : World) (p : Place) (s : Seen) → WorldFits f.program w → IsOperand f w demand.Integer s → IsWell f w (kept p s)
kept_is f w p (seen.Refused r) h z = tt
kept_is f w p seen.Unknown h z = tt
kept_is f w p (seen.Number n) h z = tt
kept_is f w p (seen.Typed t x) h z = kept_typed f w p t x (number_in x) h z refl

-- ---- all of them

pub unary_is : (f : Frame) (w : World) (p q : Place) (o : UnaryOperator) (x : Seen) → WorldFits f.program w → IsWell f w x → IsWell f w (unary_of w p q o x)
unary_is f w p q unary'.Plus x h a = kept_is f w p (operand w demand.Integer L3 q x) h (operand_is f w demand.Integer L3 q x h a)
unary_is f w p q unary'.Minus x h a = changed_is f w p op.Neg (operand w demand.Integer L3 q x) rule.minus h (operand_is f w demand.Integer L3 q x h a)
unary_is f w p q unary'.Abs x h a = changed_is f w p op.Abs (operand w demand.Integer L3 q x) rule.absolute h (operand_is f w demand.Integer L3 q x h a)
unary_is f w p q unary'.Not x h a = opposite_is f w p (operand w demand.Truth L4 q x) h (operand_is f w demand.Truth L4 q x h a)
