-- What of a world stands in the program.
use Rattle.std.proofs.Common.{◌≡◌, ap, subst, sym, ◌∙◌, refl, true≢false, ℕ, ℤ, Bool, true, false, ◌&&◌, Option, Some, None, is_some, arith}
use Rattle.std.specs.Prelude.{if◌then◌else◌}
use Rattle.ada_values.specs.Scalars.{in_base, in_scalar}
use Rattle.ada_values.specs.Shapes.{fits, in_shape}
use Rattle.ada_values.specs.Value.{Val, value}
use Rattle.ada_values.specs.declared.scalars.Scalar.{Scalar}
use Rattle.ada_values.specs.declared.shapes.Shape.{Shape}
use Rattle.ada_values.specs.declared.shapes.Shape.TheVariants as shape
use Rattle.ada_values.specs.declared.values.Value.TheVariants as values
use Rattle.ada_values.proofs.Views.{value_Bool, value_Int}
use Rattle.typed_units.specs.declared.expressions.Expr.{Expr}
use Rattle.typed_units.specs.declared.expressions.ExprNode.{ExprNode}
use Rattle.typed_units.specs.declared.programs.Class.{Class}
use Rattle.typed_units.specs.declared.programs.Class.TheVariants as class
use Rattle.typed_units.specs.declared.programs.Program.{Program}
use Rattle.ada_values.specs.declared.place.Place.{Place}
use Rattle.type_base.specs.declared.seen.Seen.{Seen}
use Rattle.type_base.specs.declared.world.Discrete.{Discrete}
use Rattle.type_base.specs.declared.world.Form.{Form}
use Rattle.type_base.specs.declared.world.Form.TheVariants as form
use Rattle.type_base.specs.declared.world.Subtype.{Subtype}
use Rattle.type_base.specs.declared.world.World.{World}
use Rattle.type_base.specs.Demands.{is_ordered, is_truth, made}
use Rattle.type_base.specs.Lookups.{form_at, form_in, subtype_at, type_at, type_in}
use Rattle.type_base.specs.Standard.{boolean}
use Rattle.program_typing.specs.Expressions as rule
use Rattle.program_typing.specs.Expressions.{Frame, Gives, HasSubtype}
use Rattle.program_typing.specs.Subtypes as subtypes
use Rattle.program_typing.specs.Subtypes.{HasBase, IsSound, SoundSubtype, Widens, class_of, shape_of, type_of}
use Rattle.well_typed_programs.specs.Fits as world
use Rattle.well_typed_programs.specs.Fits.{IsShape, IsTyped, IsWell, StandsAs, WorldFits, class_by, class_of_discrete}

-- ---- options and conditions

pub some_is : {A : Type 0} (a b : A) → Some a ≡ Some b → a ≡ b
some_is {A = A} a b e = ap (λ (o : Option A). elim o as (λ p. A) [ None ↦ a | Some c ↦ c ]) e

pub none_is : {A : Type 0} (o : Option A) (a : A) → is_some o ≡ false → o ≡ Some a → ⊥
none_is {A = A} o a n e = true≢false (sym (ap (λ (p : Option A). is_some p) e) ∙ n)

pub both_true : (a b : Bool) → a && b ≡ true → (a ≡ true) × (b ≡ true)
both_true true b h = (refl, h)
both_true false b h = absurd (true≢false (sym h))

pub both_hold : (a b : Bool) → a ≡ true → b ≡ true → a && b ≡ true
both_hold a b h g = ap (λ (x : Bool). x && b) h ∙ g

-- ---- what stands at a number

pub form_there : (o : Option Subtype) (g : Form) → form_in o ≡ Some g → (s : Subtype) × (o ≡ Some s) × (s.form ≡ g)
form_there None g e = absurd (none_is None g refl e)
form_there (Some s) g e = (s, refl, some_is s.form g e)

pub type_there : (o : Option Subtype) (t : ℕ) → type_in o ≡ Some t → (s : Subtype) × (o ≡ Some s) × (s.of ≡ t)
type_there None t e = absurd (none_is None t refl e)
type_there (Some s) t e = (s, refl, some_is s.of t e)

pub type_in_program : (p : Program) (w : World) (k t : ℕ) → WorldFits p w → type_at w k ≡ Some t → type_of p k ≡ Some t
type_in_program p w k t h e =
    let z = type_there (subtype_at w k) t e in (h.subtypes k z.0 z.1).of_type ∙ ap (λ (n : ℕ). Some n) z.2

pub sound_there : (p : Program) (w : World) (k t : ℕ) → WorldFits p w → type_at w k ≡ Some t → SoundSubtype p k
sound_there p w k t h e = let z = type_there (subtype_at w k) t e in h.sound k z.0 z.1

pub class_there : (p : Program) (w : World) (k : ℕ) (g : Form) → WorldFits p w → form_at w k ≡ Some g → class_of p k ≡ Some (class_by g)
class_there p w k g h e =
    let z = form_there (subtype_at w k) g e in (h.subtypes k z.0 z.1).of_class ∙ ap (λ (x : Form). Some (class_by x)) z.2

-- the program's shape of a subtype
pub record ShapeThere (p : Program) (w : World) (k : ℕ) (g : Form) : Type 0 where
  pub shape : Shape
  pub of_shape : shape_of p k ≡ Some shape
  pub is : IsShape w g shape

pub shape_there : (p : Program) (w : World) (k : ℕ) (g : Form) → WorldFits p w → form_at w k ≡ Some g → ShapeThere p w k g
shape_there p w k g h e =
    let z = form_there (subtype_at w k) g e in
    let a = h.subtypes k z.0 z.1 in
    record { shape = a.shape; of_shape = a.of_shape; is = subst (λ (x : Form). IsShape w x a.shape) z.2 a.is_shape }

abbrev scalar_of_form : Scalar → Form → Scalar
scalar_of_form r (form.Number d s) = s
scalar_of_form r _ = r

number_only : (w : World) (d : Discrete) (s : Scalar) (g : Form) (sh : Shape) → IsShape w g sh → g ≡ form.Number d s → sh ≡ shape.Number s
number_only w d s _ _ (world.number c r) e = ap (λ (x : Scalar). shape.Number x) (ap (scalar_of_form r) e)
number_only w d s _ _ world.truth e = absurd (true≢false (sym (ap is_ordered e)))
number_only w d s _ _ (world.array i t b a u v) e = absurd (true≢false (sym (ap is_ordered e)))
number_only w d s _ _ (world.record_of m n) e = absurd (true≢false (sym (ap is_ordered e)))

pub number_there : (p : Program) (w : World) (k : ℕ) (d : Discrete) (s : Scalar) → WorldFits p w → form_at w k ≡ Some (form.Number d s) → shape_of p k ≡ Some (shape.Number s)
number_there p w k d s h e =
    let z = shape_there p w k (form.Number d s) h e in z.of_shape ∙ ap (λ (x : Shape). Some x) (number_only w d s (form.Number d s) z.shape z.is refl)

-- ---- types

pub is_type : (p : Program) (w : World) (k t : ℕ) → WorldFits p w → type_at w k ≡ Some t → type_of p t ≡ Some t
is_type p w k t h e =
    let z = sound_there p w k t h e in
    let same : z.type ≡ t = some_is z.type t (sym z.of_type ∙ type_in_program p w k t h e) in
    subst (λ (n : ℕ). type_of p n ≡ Some n) same z.is_type

-- the class of a subtype is that of its type
pub class_kept : (p : Program) (w : World) (k t : ℕ) → WorldFits p w → type_at w k ≡ Some t → class_of p t ≡ class_of p k
class_kept p w k t h e =
    let z = sound_there p w k t h e in
    let same : z.type ≡ t = some_is z.type t (sym z.of_type ∙ type_in_program p w k t h e) in
    ap (λ (n : ℕ). class_of p n) (sym same) ∙ z.type_class ∙ sym z.of_class

-- a type is a type of the world too
pub type_itself : (p : Program) (w : World) (k t : ℕ) → WorldFits p w → type_at w k ≡ Some t → type_at w t ≡ Some t
type_itself p w k t h e =
    let z = type_there (subtype_at w k) t e in
    let there = (h.world.subtypes k z.0 z.1).type in
    let at_t : subtype_at w t ≡ Some there.subtype = subst (λ (n : ℕ). subtype_at w n ≡ Some there.subtype) z.2 there.is in
    let same : there.subtype.of ≡ t = some_is there.subtype.of t (sym (h.subtypes t there.subtype at_t).of_type ∙ is_type p w k t h e) in
    ap (λ (o : Option Subtype). type_in o) at_t ∙ ap (λ (n : ℕ). Some n) same

-- ---- Boolean

abbrev pub is_boolean : Class → Bool
is_boolean class.Boolean = true
is_boolean _ = false

base_is_none : (s : Scalar) (c : Class) → HasBase s c → is_boolean c ≡ false
base_is_none s _ (subtypes.signed n a b c d) = refl
base_is_none s _ (subtypes.modular n a b c d) = refl
base_is_none s _ (subtypes.positions n a b c) = refl

pub truth_number : (p : Program) (k : ℕ) (c : Class) (sh : Shape) → IsSound p k c sh → is_boolean c ≡ true → k ≡ 0
truth_number p k _ _ (subtypes.truth z) e = z
truth_number p k _ _ (subtypes.number c s b l h o) e = absurd (true≢false (sym e ∙ base_is_none s c b))
truth_number p k _ _ (subtypes.array i a x y z u v) e = absurd (true≢false (sym e))
truth_number p k _ _ (subtypes.record_of ids x) e = absurd (true≢false (sym e))

-- Boolean is the only subtype of truth values
pub truth_is_boolean : (p : Program) (w : World) (k : ℕ) → WorldFits p w → form_at w k ≡ Some form.Truth → k ≡ boolean
truth_is_boolean p w k h e =
    let z = form_there (subtype_at w k) form.Truth e in
    let s = h.sound k z.0 z.1 in
    let same : s.class ≡ class.Boolean = some_is s.class class.Boolean (sym s.of_class ∙ class_there p w k form.Truth h e) in
    truth_number p k s.class s.shape s.sound (ap is_boolean same)

pub boolean_type : (p : Program) (w : World) → WorldFits p w → type_at w boolean ≡ Some boolean
boolean_type p w h =
    let z = form_there (subtype_at w 0) form.Truth h.world.standard.truth in
    let s = h.sound 0 z.0 z.1 in
    let same : s.type ≡ z.0.of = some_is s.type z.0.of (sym s.of_type ∙ (h.subtypes 0 z.0 z.1).of_type) in
    let zero_is : z.0.of ≡ 0 = omega (arith, s.before, same) in
    ap (λ (o : Option Subtype). type_in o) z.1 ∙ ap (λ (n : ℕ). Some n) zero_is

-- ---- values

abbrev scalar_or : Scalar → Shape → Scalar
scalar_or r (shape.Number s) = s
scalar_or r _ = r

abbrev is_number : Shape → Bool
is_number (shape.Number s) = true
is_number _ = false

pub widened : (a b : Shape) (s : Scalar) → Widens a b → b ≡ shape.Number s → a ≡ shape.Number (record s { lo = s.base_lo; hi = s.base_hi })
widened _ _ s (subtypes.whole_range r) e = ap (λ (q : Scalar). shape.Number (record q { lo = q.base_lo; hi = q.base_hi })) (ap (scalar_or r) e)
widened _ _ s subtypes.same_truth e = absurd (true≢false (sym (ap is_number e)))
widened _ _ s (subtypes.same_array a) e = absurd (true≢false (sym (ap is_number e)))
widened _ _ s (subtypes.with_bounds a) e = absurd (true≢false (sym (ap is_number e)))
widened _ _ s (subtypes.same_record ids) e = absurd (true≢false (sym (ap is_number e)))

-- a scalar type has its base range
pub type_range : (p : Program) (w : World) (t : ℕ) (d : Discrete) (s : Scalar) → WorldFits p w → type_at w t ≡ Some t → form_at w t ≡ Some (form.Number d s) → record s { lo = s.base_lo; hi = s.base_hi } ≡ s
type_range p w t d s h e g =
    let z = sound_there p w t t h e in
    let same : z.type ≡ t = some_is z.type t (sym z.of_type ∙ type_in_program p w t t h e) in
    let there = number_there p w t d s h g in
    let one : z.shape ≡ shape.Number s = some_is z.shape (shape.Number s) (sym z.of_shape ∙ there) in
    let wide : z.type_shape ≡ shape.Number (record s { lo = s.base_lo; hi = s.base_hi }) = widened z.type_shape z.shape s z.widens one in
    let two : z.type_shape ≡ shape.Number s = some_is z.type_shape (shape.Number s) (sym z.of_type_shape ∙ ap (λ (n : ℕ). shape_of p n) same ∙ there) in
    ap (scalar_or s) (sym wide ∙ two)

pub base_in_shape : (p : Program) (w : World) (t : ℕ) (d : Discrete) (s : Scalar) (n : ℤ) → WorldFits p w → type_at w t ≡ Some t → form_at w t ≡ Some (form.Number d s) → in_base s n ≡ true
    → in_shape p.shapes t (value (values.Int n)) ≡ true
base_in_shape p w t d s n h e g i =
    ap (λ (o : Option Shape). fits p.shapes o (value (values.Int n))) (number_there p w t d s h g)
    ∙ ap (λ (v : Val). fits p.shapes (Some (shape.Number s)) v) (value_Int n)
    ∙ ap (λ (r : Scalar). in_scalar r n) (sym (type_range p w t d s h e g))
    ∙ i

truth_only : (w : World) (g : Form) (sh : Shape) → IsShape w g sh → g ≡ form.Truth → sh ≡ shape.Truth
truth_only w _ _ world.truth e = refl
truth_only w _ _ (world.number d s) e = absurd (true≢false (sym (ap is_truth e)))
truth_only w _ _ (world.array i t b a u v) e = absurd (true≢false (sym (ap is_truth e)))
truth_only w _ _ (world.record_of m n) e = absurd (true≢false (sym (ap is_truth e)))

pub truth_in_shape : (p : Program) (w : World) (b : Bool) → WorldFits p w → in_shape p.shapes boolean (value (values.Bool b)) ≡ true
truth_in_shape p w b h =
    let z = shape_there p w boolean form.Truth h h.world.standard.truth in
    ap (λ (o : Option Shape). fits p.shapes o (value (values.Bool b))) (z.of_shape ∙ ap (λ (x : Shape). Some x) (truth_only w form.Truth z.shape z.is refl))
    ∙ ap (λ (v : Val). fits p.shapes (Some shape.Truth) v) (value_Bool b)

-- ---- what is made

pub made_is : (f : Frame) (w : World) (q : Place) (t k : ℕ) (n : ExprNode Expr) → type_at w k ≡ Some t → Gives f n k → IsTyped f w t (made q k n)
made_is f w q t k n e g = record { subtype = k; has = rule.has f q k n g; of_type = e }

pub well_if : (f : Frame) (w : World) (b : Bool) (u v : Seen) → (b ≡ true → IsWell f w u) → IsWell f w v → IsWell f w (if b then u else v)
well_if f w true u v h g = h refl
well_if f w false u v h g = g
