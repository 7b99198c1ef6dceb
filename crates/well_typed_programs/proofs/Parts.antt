-- Components of records, and indexes of arrays.
use Rattle.std.proofs.Common.{◌≡◌, ap, subst, sym, ◌∙◌, refl, true≢false, ℕ, suc, ◌+◌, Bool, true, false, not, List, [], ◌∷◌, map, take, drop, slice_get, Option, Some, None, arith}
use Rattle.std.specs.Prelude.{◌==◌, if◌then◌else◌}
use Rattle.std.proofs.lemmas.Bool.{eqb-true}
use Rattle.ada_values.specs.declared.place.Place.{Place}
use Rattle.ada_values.specs.declared.shapes.Shape.{Shape}
use Rattle.ada_values.specs.declared.shapes.Shape.TheVariants as shape
use Rattle.front_codes.specs.declared.codes.Code.{Code}
use Rattle.typed_units.specs.declared.expressions.Expr.{Expr, out-Expr}
use Rattle.typed_units.specs.declared.expressions.ExprNode.TheVariants as node
use Rattle.typed_units.specs.declared.expressions.Indexed.{Indexed}
use Rattle.typed_units.specs.declared.operators.Bounds.{Bounds}
use Rattle.typed_units.specs.declared.programs.Program.{Program}
use Rattle.type_base.specs.Scope.{Scope}
use Rattle.type_base.specs.declared.seen.Demand.TheVariants as demand
use Rattle.type_base.specs.declared.seen.Seen.{Seen}
use Rattle.type_base.specs.declared.seen.Seen.TheVariants as seen
use Rattle.type_base.specs.declared.world.Component.{Component}
use Rattle.type_base.specs.declared.world.Form.{Form}
use Rattle.type_base.specs.declared.world.Form.TheVariants as form
use Rattle.type_base.specs.declared.world.World.{World}
use Rattle.type_base.specs.Demands as demands
use Rattle.type_base.specs.Demands.{bounds_at, placed_number, refused, subtype_of}
use Rattle.type_base.specs.Lookups.{form_at, type_at}
use Rattle.typing_rules.specs.declared.prefix.Found.{Found}
use Rattle.typing_rules.specs.declared.prefix.Found.TheVariants as found
use Rattle.typing_rules.specs.Lookups.{components_at, place_among, record_in}
use Rattle.typing_rules.specs.Names.{component_of, index_placed, is_checked, of_type, of_type_by, record_component, typed_as, value_component}
use Rattle.typing_rules.specs.Values.{component_subtype}
use Rattle.program_typing.specs.Checks as checks
use Rattle.program_typing.specs.Checks.{index_check}
use Rattle.program_typing.specs.Expressions as rule
use Rattle.program_typing.specs.Expressions.{Frame, HasSubtype, Indexes}
use Rattle.program_typing.specs.Subtypes.{IsRecord, bounds_of}
use Rattle.program_typing.proofs.Nodes.{subtype_is}
use Rattle.well_typed_programs.specs.Fits as world
use Rattle.well_typed_programs.specs.Fits.{IsShape, IsTyped, IsWell, WorldFits}
use Rattle.well_typed_programs.proofs.Converting.{seen_as_is}
use Rattle.well_typed_programs.proofs.Fitting.{bounds_there, includes_same, known_node}
use Rattle.well_typed_programs.proofs.Operators.{IsPlaced, number_is}
use Rattle.well_typed_programs.proofs.Worlds.{none_is, shape_there, some_is, type_in_program, type_itself}

-- ---- components

-- a place among components, counted from i on, and the subtype there
record Placed (cs : List Component) (i n : ℕ) : Type 0 where
  pub at : ℕ
  pub is : n ≡ i + at
  pub subtype : slice_get (map (λ c. c.subtype) cs) at ≡ Some (component_subtype (Some cs) at)

by_name : (c : Component) (cs : List Component) (i n : ℕ) (b : Bool) (o : Option ℕ) → (if b then Some i else o) ≡ Some n → (o ≡ Some n → Placed cs (suc i) n) → Placed (c ∷ cs) i n
by_name c cs i n true o e f = let same = some_is i n e in record { at = 0; is = omega (arith, same); subtype = refl }
by_name c cs i n false o e f = let z = f e in let is = z.is in record { at = suc z.at; is = omega (arith, is); subtype = z.subtype }

placed_there : (cs : List Component) (m i n : ℕ) → place_among cs m i ≡ Some n → Placed cs i n
placed_there [] m i n e = absurd (none_is None n refl e)
placed_there (c ∷ cs) m i n e = by_name c cs i n (c.name == m) (place_among cs m (suc i)) e (placed_there cs m (suc i) n)

abbrev parts_of : World → Form → List Component
parts_of w (form.Record m n) = take n (drop m w.components)
parts_of w _ = []

abbrev is_record : Form → Bool
is_record (form.Record m n) = true
is_record _ = false

record_only : (w : World) (g : Form) (sh : Shape) → IsShape w g sh → is_record g ≡ true → sh ≡ shape.Record (map (λ c. c.subtype) (parts_of w g))
record_only w _ _ (world.record_of m n) e = refl
record_only w _ _ (world.number d s) e = absurd (true≢false (sym e))
record_only w _ _ world.truth e = absurd (true≢false (sym e))
record_only w _ _ (world.array i t b a u v) e = absurd (true≢false (sym e))

record_by : (p : Program) (w : World) (k : ℕ) (cs : List Component) (m : Option Form) → WorldFits p w → form_at w k ≡ m → record_in w m ≡ Some cs → IsRecord p k (map (λ c. c.subtype) cs)
record_by p w k cs None h e g = absurd (none_is None cs refl g)
record_by p w k cs (Some form.Truth) h e g = absurd (none_is None cs refl g)
record_by p w k cs (Some (form.Number d s)) h e g = absurd (none_is None cs refl g)
record_by p w k cs (Some (form.Array i b t)) h e g = absurd (none_is None cs refl g)
record_by p w k cs (Some (form.Record a b)) h e g =
    let z = shape_there p w k (form.Record a b) h e in
    z.of_shape ∙ ap (λ (x : Shape). Some x) (record_only w (form.Record a b) z.shape z.is refl)
    ∙ ap (λ (xs : List Component). Some (shape.Record (map (λ c. c.subtype) xs))) (some_is (take b (drop a w.components)) cs g)

pub record_there : (p : Program) (w : World) (k : ℕ) (cs : List Component) → WorldFits p w → components_at w k ≡ Some cs → IsRecord p k (map (λ c. c.subtype) cs)
record_there p w k cs h e = record_by p w k cs (form_at w k) h refl e

component_by : (f : Frame) (c : Scope) (p : Place) (m : ℕ) (x : Expr) (j : ℕ) (cs : List Component) (o : Option ℕ) → WorldFits f.program c.world → HasSubtype f x j → components_at c.world j ≡ Some cs → place_among cs m 0 ≡ o
    → IsWell f c.world (component_of c p x cs o)
component_by f c p m x j cs None h i e g = tt
component_by f c p m x j cs (Some n) h i e g =
    let z = placed_there cs m 0 n g in
    let is = z.is in
    let same : z.at ≡ n = omega (arith, is) in
    seen_as_is f c p (component_subtype (Some cs) n) (node.Component x n)
    (λ t y. rule.component f x n j (component_subtype (Some cs) n) (map (λ c. c.subtype) cs) i (record_there f.program c.world j cs h e)
    (subst (λ (k : ℕ). slice_get (map (λ c. c.subtype) cs) k ≡ Some (component_subtype (Some cs) k)) same z.subtype))

component_in : (f : Frame) (c : Scope) (p : Place) (m : ℕ) (x : Expr) (j : ℕ) (o : Option (List Component)) → WorldFits f.program c.world → HasSubtype f x j → components_at c.world j ≡ o → IsWell f c.world (record_component c p m x o)
component_in f c p m x j None h i e = tt
component_in f c p m x j (Some cs) h i e = component_by f c p m x j cs (place_among cs m 0) h i e refl

pub component_is : (f : Frame) (c : Scope) (p : Place) (m : ℕ) (s : Seen) → WorldFits f.program c.world → IsWell f c.world s → IsWell f c.world (value_component c p m s)
component_is f c p m (seen.Refused r) h z = tt
component_is f c p m seen.Unknown h z = tt
component_is f c p m (seen.Number n) h z = tt
component_is f c p m (seen.Typed t x) h z =
    component_in f c p m x z.subtype (components_at c.world (subtype_of x)) h z.has (ap (λ (k : ℕ). components_at c.world k) (sym (subtype_is f x z.subtype z.has)))

-- ---- indexes

-- an expression of type t
abbrev IsOf : Frame → World → ℕ → Seen → Type 0
IsOf f w t (seen.Typed u x) = IsTyped f w t x
IsOf f w t _ = Unit {0}

of_if : (f : Frame) (w : World) (t : ℕ) (b : Bool) (u v : Seen) → (b ≡ true → IsOf f w t u) → IsOf f w t v → IsOf f w t (if b then u else v)
of_if f w t true u v h g = h refl
of_if f w t false u v h g = g

of_placed : (f : Frame) (w : World) (t : ℕ) (s : Seen) → IsPlaced f w demand.Any t s → IsOf f w t s
of_placed f w t (seen.Refused r) z = tt
of_placed f w t seen.Unknown z = tt
of_placed f w t (seen.Number n) z = tt
of_placed f w t (seen.Typed u x) z = let y = z.1 in record { subtype = y.subtype; has = y.has; of_type = y.of_type }

typed_is : (f : Frame) (c : Scope) (r : Code) (t : ℕ) (q : Place) (s : Seen) → WorldFits f.program c.world → type_at c.world t ≡ Some t → IsWell f c.world s → IsOf f c.world t (typed_as c r t q s)
typed_is f c r t q (seen.Refused g) h e z = tt
typed_is f c r t q seen.Unknown h e z = tt
typed_is f c r t q (seen.Number n) h e z = of_placed f c.world t (placed_number c.world r q q t n) (number_is f c.world demand.Any r q q t n (form_at c.world t) h refl e refl)
typed_is f c r t q (seen.Typed u x) h e z =
    of_if f c.world t (t == u) (seen.Typed t x) (refused r q) (λ b. subst (λ (k : ℕ). IsTyped f c.world k x) (sym (eqb-true t u b)) z) tt

-- an index of this index subtype and these bounds
abbrev pub FoundIndex : Frame → ℕ → Option Bounds → Found (Indexed Expr) → Type 0
FoundIndex f i b (found.Is y) = Indexes f i b y
FoundIndex f i b _ = Unit {0}

index_same : (f : Frame) (w : World) (j u : ℕ) (b : Option Bounds) (x : Expr) → WorldFits f.program w → type_at w j ≡ Some u → HasSubtype f x j → index_check f.program b x ≡ is_checked w b x
index_same f w j u None x h e i = refl
index_same f w j u (Some b) x h e i =
    let p = f.program in
    let here : bounds_of p (subtype_of x) ≡ bounds_at w (subtype_of x) = subst (λ (n : ℕ). bounds_of p n ≡ bounds_at w n) (sym (subtype_is f x j i)) (bounds_there p w j u h e) in
    ap (λ (o : Option Bounds). not (checks.includes b o)) (known_node p w (subtype_of x) (out-Expr x).node here) ∙ ap (λ (y : Bool). not y) (includes_same b (demands.known w x))

placed_index : (f : Frame) (c : Scope) (i t : ℕ) (b : Option Bounds) (s : Seen) → WorldFits f.program c.world → type_at c.world i ≡ Some t → IsOf f c.world t s → FoundIndex f i b (index_placed c b s)
placed_index f c i t b (seen.Refused r) h e z = tt
placed_index f c i t b seen.Unknown h e z = tt
placed_index f c i t b (seen.Number n) h e z = tt
placed_index f c i t b (seen.Typed u x) h e z =
    subst (λ (y : Bool). Indexes f i b (record { checked = y; value = x })) (index_same f c.world z.subtype t b x h z.of_type z.has)
    (rule.indexes f i z.subtype b x z.has (record { type = t; first = type_in_program f.program c.world z.subtype t h z.of_type; second = type_in_program f.program c.world i t h e }))

index_by : (f : Frame) (c : Scope) (r : Code) (i : ℕ) (q : Place) (b : Option Bounds) (s : Seen) (o : Option ℕ) → WorldFits f.program c.world → type_at c.world i ≡ o → IsWell f c.world s → FoundIndex f i b (index_placed c b (of_type_by c r o q s))
index_by f c r i q b s (Some t) h e z = placed_index f c i t b (typed_as c r t q s) h e (typed_is f c r t q s h (type_itself f.program c.world i t h e) z)
index_by f c r i q b (seen.Refused g) None h e z = tt
index_by f c r i q b seen.Unknown None h e z = tt
index_by f c r i q b (seen.Number n) None h e z = tt
index_by f c r i q b (seen.Typed u x) None h e z = tt

pub index_is : (f : Frame) (c : Scope) (r : Code) (i : ℕ) (q : Place) (b : Option Bounds) (s : Seen) (y : Indexed Expr) → WorldFits f.program c.world → IsWell f c.world s
    → index_placed c b (of_type c r i q s) ≡ found.Is y → Indexes f i b y
index_is f c r i q b s y h z e = subst (λ (x : Found (Indexed Expr)). FoundIndex f i b x) e (index_by f c r i q b s (type_at c.world i) h refl z)
