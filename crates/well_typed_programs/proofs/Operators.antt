-- What operators give.
use Rattle.std.proofs.Common.{◌≡◌, ap, subst, sym, ◌∙◌, refl, true≢false, ℕ, ℤ, Bool, true, false, Option, Some, None, is_some}
use Rattle.std.specs.Prelude.{◌==◌, if◌then◌else◌}
use Rattle.std.proofs.lemmas.Bool.{eqb-true}
use Rattle.ada_values.specs.Scalars.{in_base}
use Rattle.ada_values.specs.declared.place.Place.{Place}
use Rattle.ada_values.specs.declared.scalars.Scalar.{Scalar}
use Rattle.ada_values.specs.declared.shapes.Shape.{Shape}
use Rattle.ada_values.specs.declared.values.Value.TheVariants as values
use Rattle.front_codes.specs.declared.codes.Code.{Code}
use Rattle.front_codes.specs.declared.codes.Code.TheVariants.{L29}
use Rattle.typed_units.specs.declared.expressions.Expr.{Expr}
use Rattle.typed_units.specs.declared.expressions.ExprNode.TheVariants as node
use Rattle.typed_units.specs.declared.operators.Bounds.{Bounds}
use Rattle.typed_units.specs.declared.programs.Class.{Class}
use Rattle.typed_units.specs.declared.programs.Program.{Program}
use Rattle.type_base.specs.declared.seen.Agreed.{Agreed}
use Rattle.type_base.specs.declared.seen.Agreed.TheVariants as agreed
use Rattle.type_base.specs.declared.seen.Demand.{Demand}
use Rattle.type_base.specs.declared.seen.Demand.TheVariants as demand
use Rattle.type_base.specs.declared.seen.Seen.{Seen}
use Rattle.type_base.specs.declared.seen.Seen.TheVariants as seen
use Rattle.type_base.specs.declared.world.Discrete.{Discrete}
use Rattle.type_base.specs.declared.world.Discrete.TheVariants as discrete
use Rattle.type_base.specs.declared.world.Form.{Form}
use Rattle.type_base.specs.declared.world.Form.TheVariants as form
use Rattle.type_base.specs.declared.world.World.{World}
use Rattle.type_base.specs.Demands.{agree, broken, fitting, is_integer, is_whole, made, meets, number_as, operand, placed_number, refused, subtype_of, takes_numbers, with_left, with_right}
use Rattle.type_base.specs.Lookups.{form_at, type_at}
use Rattle.type_base.specs.Standard.{boolean}
use Rattle.program_typing.specs.Expressions as rule
use Rattle.program_typing.specs.Expressions.{Frame, Gives, HasSubtype}
use Rattle.program_typing.specs.Subtypes as subtypes
use Rattle.program_typing.specs.Subtypes.{Has, IsConstrained, class_of, fixed_bounds, passes, shape_of, type_of}
use Rattle.program_typing.proofs.Nodes.{subtype_is}
use Rattle.well_typed_programs.specs.Fits as world
use Rattle.well_typed_programs.specs.Fits.{GivesType, IsShape, IsTyped, IsWell, WorldFits}
use Rattle.well_typed_programs.proofs.Worlds.{base_in_shape, class_there, shape_there, truth_is_boolean, type_itself}

-- ---- what an operand of a subtype meets

abbrev pub ClassMeets : Program → Demand → ℕ → Type 0
ClassMeets p demand.Any k = Unit {0}
ClassMeets p demand.Integer k = Has subtypes.is_integer p k
ClassMeets p demand.Ordered k = Has subtypes.is_ordered p k
ClassMeets p demand.Comparable k = IsConstrained p k
ClassMeets p demand.Truth k = k ≡ boolean

pub whole_class : (d : Discrete) → is_whole d ≡ true → subtypes.is_integer (world.class_of_discrete d) ≡ true
whole_class discrete.Signed h = refl
whole_class discrete.Modular h = refl
whole_class discrete.Enumeration h = h

pub ordered_class : (d : Discrete) → subtypes.is_ordered (world.class_of_discrete d) ≡ true
ordered_class discrete.Signed = refl
ordered_class discrete.Modular = refl
ordered_class discrete.Enumeration = refl

some_pair : (b : Option (ℤ × ℤ)) → is_some (subtypes.pair_bounds b) ≡ is_some b
some_pair None = refl
some_pair (Some b) = refl

constrained_shape : (w : World) (g : Form) (sh : Shape) → IsShape w g sh → meets demand.Comparable g ≡ true → subtypes.is_constrained_in (Some sh) ≡ true
constrained_shape w _ _ (world.number d s) e = refl
constrained_shape w _ _ world.truth e = refl
constrained_shape w _ _ (world.array i t b a u v) e = sym (some_pair a.bounds) ∙ ap (λ (o : Option Bounds). is_some o) u ∙ e
constrained_shape w _ _ (world.record_of m n) e = refl

pub integer_class : (p : Program) (w : World) (k : ℕ) (g : Form) → WorldFits p w → form_at w k ≡ Some g → is_integer g ≡ true → Has subtypes.is_integer p k
integer_class p w k (form.Number d s) h e m = ap (λ (c : Option Class). passes subtypes.is_integer c) (class_there p w k (form.Number d s) h e) ∙ whole_class d m
integer_class p w k form.Truth h e m = absurd (true≢false (sym m))
integer_class p w k (form.Array i b t) h e m = absurd (true≢false (sym m))
integer_class p w k (form.Record a b) h e m = absurd (true≢false (sym m))

pub ordered_there : (p : Program) (w : World) (k : ℕ) (g : Form) → WorldFits p w → form_at w k ≡ Some g → meets demand.Ordered g ≡ true → Has subtypes.is_ordered p k
ordered_there p w k (form.Number d s) h e m = ap (λ (c : Option Class). passes subtypes.is_ordered c) (class_there p w k (form.Number d s) h e) ∙ ordered_class d
ordered_there p w k form.Truth h e m = absurd (true≢false (sym m))
ordered_there p w k (form.Array i b t) h e m = absurd (true≢false (sym m))
ordered_there p w k (form.Record a b) h e m = absurd (true≢false (sym m))

truth_there : (p : Program) (w : World) (k : ℕ) (g : Form) → WorldFits p w → form_at w k ≡ Some g → meets demand.Truth g ≡ true → k ≡ boolean
truth_there p w k form.Truth h e m = truth_is_boolean p w k h e
truth_there p w k (form.Number d s) h e m = absurd (true≢false (sym m))
truth_there p w k (form.Array i b t) h e m = absurd (true≢false (sym m))
truth_there p w k (form.Record a b) h e m = absurd (true≢false (sym m))

pub meets_class : (p : Program) (w : World) (d : Demand) (k : ℕ) (g : Form) → WorldFits p w → form_at w k ≡ Some g → meets d g ≡ true → ClassMeets p d k
meets_class p w demand.Any k g h e m = tt
meets_class p w demand.Integer k g h e m = integer_class p w k g h e m
meets_class p w demand.Ordered k g h e m = ordered_there p w k g h e m
meets_class p w demand.Comparable k g h e m =
    let z = shape_there p w k g h e in ap (λ (o : Option Shape). subtypes.is_constrained_in o) z.of_shape ∙ constrained_shape w g z.shape z.is m
meets_class p w demand.Truth k g h e m = truth_there p w k g h e m

-- ---- operands

pub record Operand (f : Frame) (w : World) (d : Demand) (t : ℕ) (x : Expr) : Type 0 where
  pub subtype : ℕ
  pub has : HasSubtype f x subtype
  pub of_type : type_at w subtype ≡ Some t
  pub meets : ClassMeets f.program d subtype

abbrev pub IsOperand : Frame → World → Demand → Seen → Type 0
IsOperand f w d (seen.Refused r) = Unit {0}
IsOperand f w d seen.Unknown = Unit {0}
IsOperand f w d (seen.Number n) = takes_numbers d ≡ true
IsOperand f w d (seen.Typed t x) = Operand f w d t x

operand_if : (f : Frame) (w : World) (d : Demand) (b : Bool) (u v : Seen) → (b ≡ true → IsOperand f w d u) → IsOperand f w d v → IsOperand f w d (if b then u else v)
operand_if f w d true u v h g = h refl
operand_if f w d false u v h g = g

fitting_is : (f : Frame) (w : World) (d : Demand) (r : Code) (q : Place) (t : ℕ) (x : Expr) (m : Option Form) → WorldFits f.program w → form_at w (subtype_of x) ≡ m → IsTyped f w t x → IsOperand f w d (fitting d r q t x m)
fitting_is f w d r q t x None h e z = tt
fitting_is f w d r q t x (Some g) h e z =
    operand_if f w d (meets d g) (seen.Typed t x) (refused r q)
    (λ m. record { subtype = z.subtype; has = z.has; of_type = z.of_type; meets = meets_class f.program w d z.subtype g h (ap (λ (k : ℕ). form_at w k) (sym (subtype_is f x z.subtype z.has)) ∙ e) m }) tt

pub operand_is : (f : Frame) (w : World) (d : Demand) (r : Code) (q : Place) (s : Seen) → WorldFits f.program w → IsWell f w s → IsOperand f w d (operand w d r q s)
operand_is f w d r q (seen.Refused g) h z = tt
operand_is f w d r q seen.Unknown h z = tt
operand_is f w d r q (seen.Number n) h z = operand_if f w d (takes_numbers d) (seen.Number n) (refused r q) (λ m. m) tt
operand_is f w d r q (seen.Typed t x) h z = fitting_is f w d r q t x (form_at w (subtype_of x)) h refl z

-- ---- numbers that take a type

-- an operand of type u
abbrev pub IsPlaced : Frame → World → Demand → ℕ → Seen → Type 0
IsPlaced f w d u (seen.Typed t x) = (t ≡ u) × Operand f w d u x
IsPlaced f w d u _ = Unit {0}

placed_if : (f : Frame) (w : World) (d : Demand) (u : ℕ) (b : Bool) (x y : Seen) → (b ≡ true → IsPlaced f w d u x) → IsPlaced f w d u y → IsPlaced f w d u (if b then x else y)
placed_if f w d u true x y h g = h refl
placed_if f w d u false x y h g = g

number_meets : (d : Demand) (c : Discrete) (s : Scalar) → takes_numbers d ≡ true → is_whole c ≡ true → meets d (form.Number c s) ≡ true
number_meets demand.Any c s a b = refl
number_meets demand.Integer c s a b = b
number_meets demand.Ordered c s a b = refl
number_meets demand.Comparable c s a b = refl
number_meets demand.Truth c s a b = absurd (true≢false (sym a))

pub number_is : (f : Frame) (w : World) (d : Demand) (r : Code) (q p : Place) (t : ℕ) (n : ℤ) (m : Option Form) → WorldFits f.program w → takes_numbers d ≡ true → type_at w t ≡ Some t → form_at w t ≡ m
    → IsPlaced f w d t (number_as r q p t n m)
number_is f w d r q p t n None h a e g = tt
number_is f w d r q p t n (Some form.Truth) h a e g = tt
number_is f w d r q p t n (Some (form.Array i b k)) h a e g = tt
number_is f w d r q p t n (Some (form.Record i b)) h a e g = tt
number_is f w d r q p t n (Some (form.Number c s)) h a e g =
    placed_if f w d t (is_whole c) (if in_base s n then seen.Typed t (made p t (node.Static (values.Int n))) else refused L29 p) (refused r q)
    (λ whole. placed_if f w d t (in_base s n) (seen.Typed t (made p t (node.Static (values.Int n)))) (refused L29 p)
    (λ inside. (
      refl,
      record {
        subtype = t;
        has = rule.has f p t (node.Static (values.Int n)) (rule.static f t (values.Int n) (base_in_shape f.program w t c s n h e g inside));
        of_type = e;
        meets = meets_class f.program w d t (form.Number c s) h g (number_meets d c s a whole);
      },
    )) tt) tt

-- ---- two operands of one type

abbrev pub AreOperands : Frame → World → Demand → Agreed → Type 0
AreOperands f w d (agreed.Typed t x y) = Operand f w d t x × Operand f w d t y
AreOperands f w d _ = Unit {0}

pub left_is : (f : Frame) (w : World) (d : Demand) (u : ℕ) (s : Seen) (y : Expr) → IsPlaced f w d u s → Operand f w d u y → AreOperands f w d (with_left s y)
left_is f w d u (seen.Refused g) y a b = tt
left_is f w d u seen.Unknown y a b = tt
left_is f w d u (seen.Number n) y a b = tt
left_is f w d u (seen.Typed t x) y a b = (subst (λ (v : ℕ). Operand f w d v x) (sym a.0) a.1, subst (λ (v : ℕ). Operand f w d v y) (sym a.0) b)

pub right_is : (f : Frame) (w : World) (d : Demand) (u : ℕ) (x : Expr) (s : Seen) → Operand f w d u x → IsPlaced f w d u s → AreOperands f w d (with_right u x s)
right_is f w d u x (seen.Refused g) a b = tt
right_is f w d u x seen.Unknown a b = tt
right_is f w d u x (seen.Number n) a b = tt
right_is f w d u x (seen.Typed t y) a b = (a, b.1)

agreed_if : (f : Frame) (w : World) (d : Demand) (b : Bool) (u v : Agreed) → (b ≡ true → AreOperands f w d u) → AreOperands f w d v → AreOperands f w d (if b then u else v)
agreed_if f w d true u v h g = h refl
agreed_if f w d false u v h g = g

pub agree_is : (f : Frame) (w : World) (d : Demand) (r : Code) (p q : Place) (a b : Seen) → WorldFits f.program w → IsOperand f w d a → IsOperand f w d b → AreOperands f w d (agree w r p q a b)
agree_is f w d r p q (seen.Refused g) (seen.Refused i) h x y = tt
agree_is f w d r p q (seen.Refused g) seen.Unknown h x y = tt
agree_is f w d r p q (seen.Refused g) (seen.Number n) h x y = tt
agree_is f w d r p q (seen.Refused g) (seen.Typed t z) h x y = tt
agree_is f w d r p q seen.Unknown (seen.Refused i) h x y = tt
agree_is f w d r p q seen.Unknown seen.Unknown h x y = tt
agree_is f w d r p q seen.Unknown (seen.Number n) h x y = tt
agree_is f w d r p q seen.Unknown (seen.Typed t z) h x y = tt
agree_is f w d r p q (seen.Number m) (seen.Refused i) h x y = tt
agree_is f w d r p q (seen.Number m) seen.Unknown h x y = tt
agree_is f w d r p q (seen.Number m) (seen.Number n) h x y = tt
agree_is f w d r p q (seen.Number m) (seen.Typed u z) h x y =
    left_is f w d u (placed_number w r q p u m) z (number_is f w d r q p u m (form_at w u) h x (type_itself f.program w y.subtype u h y.of_type) refl) y
agree_is f w d r p q (seen.Typed t z) (seen.Refused i) h x y = tt
agree_is f w d r p q (seen.Typed t z) seen.Unknown h x y = tt
agree_is f w d r p q (seen.Typed t z) (seen.Number n) h x y =
    right_is f w d t z (placed_number w r q q t n) x (number_is f w d r q q t n (form_at w t) h y (type_itself f.program w x.subtype t h x.of_type) refl)
agree_is f w d r p q (seen.Typed t z) (seen.Typed u v) h x y =
    agreed_if f w d (t == u) (agreed.Typed t z v) (agreed.Refused (broken r q)) (λ e. (x, subst (λ (k : ℕ). Operand f w d k v) (sym (eqb-true t u e)) y)) tt
