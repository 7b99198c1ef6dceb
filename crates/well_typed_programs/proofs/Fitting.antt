-- Values for a subtype.
use Rattle.std.proofs.Common.{◌≡◌, ap, ap₂, subst, sym, ◌∙◌, refl, true≢false, ℕ, ℤ, Bool, true, false, not, ◌&&◌, Option, Some, None, is_some, arith}
use Rattle.std.specs.Prelude.{◌==◌, if◌then◌else◌}
use Rattle.std.specs.Ordering.{int_eq}
use Rattle.std.proofs.lemmas.Bool.{eqb-true}
use Rattle.std.proofs.lemmas.Int.{ints}
use Rattle.ada_values.specs.declared.place.Place.{Place}
use Rattle.ada_values.specs.declared.shapes.Shape.{Shape}
use Rattle.ada_values.specs.declared.values.Value.TheVariants as values
use Rattle.front_codes.specs.declared.codes.Code.{Code}
use Rattle.typed_units.specs.declared.expressions.Expr.{Expr, out-Expr}
use Rattle.typed_units.specs.declared.expressions.ExprNode.{ExprNode}
use Rattle.typed_units.specs.declared.expressions.ExprNode.TheVariants as node
use Rattle.typed_units.specs.declared.expressions.Fitted.{Fitted}
use Rattle.typed_units.specs.declared.operators.Bounds.{Bounds}
use Rattle.typed_units.specs.declared.programs.Class.{Class}
use Rattle.typed_units.specs.declared.programs.Class.TheVariants as class
use Rattle.typed_units.specs.declared.programs.Program.{Program}
use Rattle.type_base.specs.declared.seen.Demand.TheVariants as demand
use Rattle.type_base.specs.declared.seen.Seen.{Seen}
use Rattle.type_base.specs.declared.seen.Seen.TheVariants as seen
use Rattle.type_base.specs.declared.world.Discrete.{Discrete}
use Rattle.type_base.specs.declared.world.Discrete.TheVariants as discrete
use Rattle.type_base.specs.declared.world.Form.{Form}
use Rattle.type_base.specs.declared.world.Form.TheVariants as form
use Rattle.type_base.specs.declared.world.World.{World}
use Rattle.type_base.specs.Demands as demands
use Rattle.type_base.specs.Demands.{array_bounds, bounds_at, broken, check_in, check_of, fitted, placed_number, subtype_of}
use Rattle.type_base.specs.Lookups.{form_at, form_in, subtype_at, type_at}
use Rattle.typing_rules.specs.declared.prefix.Found.{Found}
use Rattle.typing_rules.specs.declared.prefix.Found.TheVariants as found
use Rattle.typing_rules.specs.Fits.{agrees, fit, fit_as, fit_placed, fit_typed, same_bounds, takes}
use Rattle.program_typing.specs.Checks as checks
use Rattle.program_typing.specs.Checks.{range_check, unless_known}
use Rattle.program_typing.specs.Expressions as rule
use Rattle.program_typing.specs.Expressions.{FitsFor, Frame, HasSubtype, Takes}
use Rattle.program_typing.specs.Subtypes as subtypes
use Rattle.program_typing.specs.Subtypes.{Has, IsConstrained, IsSound, SoundSubtype, bounds_of, class_of, fixed_bounds, passes, shape_of}
use Rattle.program_typing.proofs.Nodes.{subtype_is}
use Rattle.well_typed_programs.specs.Fits as world
use Rattle.well_typed_programs.specs.Fits.{IsShape, IsTyped, IsWell, WorldFits}
use Rattle.well_typed_programs.proofs.Operators.{IsPlaced, number_is}
use Rattle.well_typed_programs.proofs.Results.{fixed_there}
use Rattle.well_typed_programs.proofs.Worlds.{both_true, class_kept, class_there, none_is, shape_there, sound_there, type_in_program, type_itself, type_there}

-- ---- checks are the same by the world and by the program

bounds_shape : (w : World) (g : Form) (sh : Shape) → IsShape w g sh → subtypes.bounds_in (Some sh) ≡ demands.bounds_in (Some g)
bounds_shape w _ _ (world.number d s) = refl
bounds_shape w _ _ world.truth = refl
bounds_shape w _ _ (world.array i t b a u v) = refl
bounds_shape w _ _ (world.record_of m n) = refl

pub bounds_there : (p : Program) (w : World) (k t : ℕ) → WorldFits p w → type_at w k ≡ Some t → bounds_of p k ≡ bounds_at w k
bounds_there p w k t h e =
    let z = type_there (subtype_at w k) t e in
    let g = ap (λ o. form_in o) z.1 in
    let s = shape_there p w k (z.0).form h g in
    ap (λ (o : Option Shape). subtypes.bounds_in o) s.of_shape ∙ bounds_shape w (z.0).form s.shape s.is ∙ ap (λ (o : Option Form). demands.bounds_in o) (sym g)

pub known_node : (p : Program) (w : World) (k : ℕ) (n : ExprNode Expr) → bounds_of p k ≡ bounds_at w k → checks.known_in p k n ≡ demands.known_in w k n
known_node p w k (node.Static (values.Int m)) e = refl
known_node p w k n e = e

pub includes_same : (b : Bounds) (k : Option Bounds) → checks.includes b k ≡ demands.includes b k
includes_same b None = refl
includes_same b (Some k) = refl

pub check_same : (b k : Option Bounds) → unless_known b k ≡ check_in b k
check_same None k = refl
check_same (Some b) k = ap (λ (x : Bool). if x then None else Some b) (includes_same b k)

pub check_is : (f : Frame) (w : World) (k j t u : ℕ) (x : Expr) → WorldFits f.program w → type_at w k ≡ Some t → type_at w j ≡ Some u → HasSubtype f x j → range_check f.program k x ≡ check_of w k x
check_is f w k j t u x h e g i =
    let p = f.program in
    let here : bounds_of p (subtype_of x) ≡ bounds_at w (subtype_of x) = subst (λ (n : ℕ). bounds_of p n ≡ bounds_at w n) (sym (subtype_is f x j i)) (bounds_there p w j u h g) in
    ap₂ (λ (a b : Option Bounds). unless_known a b) (bounds_there p w k t h e) (known_node p w (subtype_of x) (out-Expr x).node here)
    ∙ check_same (bounds_at w k) (demands.known w x)

-- ---- subtypes of no array

abbrev pub is_array : Option Class → Bool
is_array (Some (class.Array i)) = true
is_array _ = false

plain_shape : (p : Program) (k : ℕ) (c : Class) (sh : Shape) → IsSound p k c sh → is_array (Some c) ≡ false → (subtypes.is_constrained_in (Some sh) ≡ true) × (subtypes.fixed_in (Some sh) ≡ None)
plain_shape p k _ _ (subtypes.number c s b l h o) e = (refl, refl)
plain_shape p k _ _ (subtypes.truth z) e = (refl, refl)
plain_shape p k _ _ (subtypes.array i a x y z u v) e = absurd (true≢false e)
plain_shape p k _ _ (subtypes.record_of ids x) e = (refl, refl)

plain_subtype : (p : Program) (k : ℕ) → SoundSubtype p k → is_array (class_of p k) ≡ false → IsConstrained p k × (fixed_bounds p k ≡ None)
plain_subtype p k z e =
    let s = plain_shape p k z.class z.shape z.sound (ap is_array (sym z.of_class) ∙ e) in
    (ap (λ (o : Option Shape). subtypes.is_constrained_in o) z.of_shape ∙ s.0, ap (λ (o : Option Shape). subtypes.fixed_in o) z.of_shape ∙ s.1)

-- two subtypes of one type, the former of which is no array's
pub plain_takes : (p : Program) (w : World) (whole : Bool) (k j t : ℕ) → WorldFits p w → type_at w k ≡ Some t → type_at w j ≡ Some t → is_array (class_of p k) ≡ false → Takes p k j whole
plain_takes p w whole k j t h e g a =
    let one = plain_subtype p k (sound_there p w k t h e) a in
    let other = plain_subtype p j (sound_there p w j t h g) (ap is_array (sym (class_kept p w j t h g) ∙ class_kept p w k t h e) ∙ a) in
    rule.one_subtype whole one.0 (one.1 ∙ sym other.1)

no_array : (o : Option Class) → passes subtypes.is_ordered o ≡ true → is_array o ≡ false
no_array None m = refl
no_array (Some class.Signed) m = refl
no_array (Some class.Modular) m = refl
no_array (Some class.Enumeration) m = refl
no_array (Some class.Boolean) m = refl
no_array (Some (class.Array i)) m = absurd (true≢false (sym m))
no_array (Some class.Record) m = refl

pub number_plain : (d : Discrete) → is_array (Some (world.class_of_discrete d)) ≡ false
number_plain discrete.Signed = refl
number_plain discrete.Modular = refl
number_plain discrete.Enumeration = refl

-- ---- what a subtype takes

same_numbers : (a b : ℤ) → int_eq a b ≡ true → a ≡ b
same_numbers a b e = grind (arith, ints)

bounds_same : (a : Bounds) (b : Option Bounds) → same_bounds (Some a) b ≡ true → Some a ≡ b
bounds_same a None e = absurd (true≢false (sym e))
bounds_same a (Some b) e =
    let z = both_true (int_eq a.first b.first) (int_eq a.last b.last) e in
    ap₂ (λ (x y : ℤ). Some (record { first = x; last = y })) (same_numbers a.first b.first z.0) (same_numbers a.last b.last z.1)

whole_is : (whole : Bool) → not whole ≡ true → whole ≡ false
whole_is true e = sym e
whole_is false e = refl

some_pair : (b : Option (ℤ × ℤ)) → is_some (subtypes.pair_bounds b) ≡ is_some b
some_pair None = refl
some_pair (Some b) = refl

fixed_constrained : (w : World) (i t : ℕ) (a : Bounds) (g : Form) (sh : Shape) → IsShape w g sh → g ≡ form.Array i (Some a) t → subtypes.is_constrained_in (Some sh) ≡ true
fixed_constrained w i t a _ _ (world.number d s) e = refl
fixed_constrained w i t a _ _ world.truth e = refl
fixed_constrained w i t a _ _ (world.array j u b x y z) e = sym (some_pair x.bounds) ∙ ap (λ (o : Option Bounds). is_some o) (y ∙ ap (λ (m : Form). array_bounds (Some m)) e)
fixed_constrained w i t a _ _ (world.record_of m n) e = refl

pub takes_by : (p : Program) (w : World) (whole : Bool) (k j t : ℕ) (m n : Option Form) → WorldFits p w → type_at w k ≡ Some t → type_at w j ≡ Some t → form_at w k ≡ m → form_at w j ≡ n → agrees whole m n ≡ true → Takes p k j whole
takes_by p w whole k j t (Some (form.Array i None u)) n h e g x y a = subst (λ (b : Bool). Takes p k j b) (sym (whole_is whole a)) rule.any_subtype
takes_by p w whole k j t (Some (form.Array i (Some b) u)) (Some (form.Array l d v)) h e g x y a =
    let s = shape_there p w k (form.Array i (Some b) u) h x in
    rule.one_subtype whole
    (ap (λ (o : Option Shape). subtypes.is_constrained_in o) s.of_shape ∙ fixed_constrained w i u b (form.Array i (Some b) u) s.shape s.is refl)
    (fixed_there p w k t h e ∙ ap (λ (o : Option Form). array_bounds o) x ∙ bounds_same b d a ∙ sym (ap (λ (o : Option Form). array_bounds o) y) ∙ sym (fixed_there p w j t h g))
takes_by p w whole k j t (Some (form.Array i (Some b) u)) (Some form.Truth) h e g x y a = absurd (true≢false (sym a))
takes_by p w whole k j t (Some (form.Array i (Some b) u)) (Some (form.Number d s)) h e g x y a = absurd (true≢false (sym a))
takes_by p w whole k j t (Some (form.Array i (Some b) u)) (Some (form.Record d s)) h e g x y a = absurd (true≢false (sym a))
takes_by p w whole k j t (Some (form.Array i (Some b) u)) None h e g x y a = absurd (true≢false (sym a))
takes_by p w whole k j t (Some (form.Number d s)) n h e g x y a = plain_takes p w whole k j t h e g (ap is_array (class_there p w k (form.Number d s) h x) ∙ number_plain d)
takes_by p w whole k j t (Some form.Truth) n h e g x y a = plain_takes p w whole k j t h e g (ap is_array (class_there p w k form.Truth h x))
takes_by p w whole k j t (Some (form.Record d s)) n h e g x y a = plain_takes p w whole k j t h e g (ap is_array (class_there p w k (form.Record d s) h x))
takes_by p w whole k j t None n h e g x y a =
    let z = type_there (subtype_at w k) t e in absurd (none_is None (z.0).form refl (sym x ∙ ap (λ o. form_in o) z.1))

-- ---- values

abbrev pub FitIs : Frame → Bool → ℕ → Found (Fitted Expr) → Type 0
FitIs f whole k (found.Is v) = FitsFor f whole k v
FitIs f whole k _ = Unit {0}

fitted_is : (f : Frame) (w : World) (whole : Bool) (k j t : ℕ) (x : Expr) → WorldFits f.program w → type_at w k ≡ Some t → type_at w j ≡ Some t → HasSubtype f x j → Takes f.program k j whole → FitsFor f whole k (fitted w k x)
fitted_is f w whole k j t x h e g i a =
    subst (λ (b : Option Bounds). FitsFor f whole k (record { bounds = b; value = x })) (check_is f w k j t t x h e g i)
    (rule.fits f whole k j x i (record { type = t; first = type_in_program f.program w j t h g; second = type_in_program f.program w k t h e }) a)

placed_fits : (f : Frame) (w : World) (whole : Bool) (k t : ℕ) (s : Seen) → WorldFits f.program w → type_at w k ≡ Some t → IsPlaced f w demand.Ordered t s → FitIs f whole k (fit_placed w k s)
placed_fits f w whole k t (seen.Refused r) h e z = tt
placed_fits f w whole k t seen.Unknown h e z = tt
placed_fits f w whole k t (seen.Number n) h e z = tt
placed_fits f w whole k t (seen.Typed u x) h e z =
    let y = z.1 in
    let same = sym (class_kept f.program w k t h e) ∙ class_kept f.program w y.subtype t h y.of_type in
    fitted_is f w whole k y.subtype t x h e y.of_type y.has (plain_takes f.program w whole k y.subtype t h e y.of_type (ap is_array same ∙ no_array (class_of f.program y.subtype) y.meets))

fit_if : (f : Frame) (whole : Bool) (k : ℕ) (b : Bool) (u v : Found (Fitted Expr)) → (b ≡ true → FitIs f whole k u) → FitIs f whole k v → FitIs f whole k (if b then u else v)
fit_if f whole k true u v h g = h refl
fit_if f whole k false u v h g = g

typed_fits : (f : Frame) (w : World) (r : Code) (whole : Bool) (k : ℕ) (q : Place) (u : ℕ) (x : Expr) (o : Option ℕ) → WorldFits f.program w → type_at w k ≡ o → IsTyped f w u x → FitIs f whole k (fit_typed w r whole k q u x o)
typed_fits f w r whole k q u x None h e z = tt
typed_fits f w r whole k q u x (Some t) h e z =
    fit_if f whole k ((u == t) && takes w whole k (subtype_of x)) (found.Is (fitted w k x)) (found.Refused (broken r q))
    (λ b.
    let c = both_true (u == t) (takes w whole k (subtype_of x)) b in
    let at : type_at w z.subtype ≡ Some t = z.of_type ∙ ap (λ (n : ℕ). Some n) (eqb-true u t c.0) in
    let takes' : agrees whole (form_at w k) (form_at w z.subtype) ≡ true = ap (λ (j : ℕ). agrees whole (form_at w k) (form_at w j)) (sym (subtype_is f x z.subtype z.has)) ∙ c.1 in
    fitted_is f w whole k z.subtype t x h e at z.has (takes_by f.program w whole k z.subtype t (form_at w k) (form_at w z.subtype) h e at refl refl takes')) tt

fit_by : (f : Frame) (w : World) (r : Code) (whole : Bool) (k : ℕ) (q : Place) (o : Option ℕ) (s : Seen) → WorldFits f.program w → type_at w k ≡ o → IsWell f w s → FitIs f whole k (fit_as w r whole k q o s)
fit_by f w r whole k q o (seen.Refused g) h e z = tt
fit_by f w r whole k q o seen.Unknown h e z = tt
fit_by f w r whole k q None (seen.Number n) h e z = tt
fit_by f w r whole k q (Some t) (seen.Number n) h e z =
    placed_fits f w whole k t (placed_number w r q q t n) h e (number_is f w demand.Ordered r q q t n (form_at w t) h refl (type_itself f.program w k t h e) refl)
fit_by f w r whole k q o (seen.Typed u x) h e z = typed_fits f w r whole k q u x o h e z

pub value_fits : (f : Frame) (w : World) (r : Code) (whole : Bool) (k : ℕ) (q : Place) (s : Seen) (v : Fitted Expr) → WorldFits f.program w → IsWell f w s → fit w r whole k q s ≡ found.Is v → FitsFor f whole k v
value_fits f w r whole k q s v h z e = subst (λ (x : Found (Fitted Expr)). FitIs f whole k x) e (fit_by f w r whole k q (type_at w k) s h refl z)
