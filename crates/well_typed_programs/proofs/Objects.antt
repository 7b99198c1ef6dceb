-- Parts of objects.
use Rattle.std.proofs.Common.{◌≡◌, ap, subst, sym, ◌∙◌, refl, true≢false, ℕ, zero, suc, Bool, true, false, List, [], ◌∷◌, length, map, slice_get, Option, Some, None}
use Rattle.ada_values.specs.declared.place.Place.{Place}
use Rattle.ada_values.specs.declared.shapes.ArrayShape.{ArrayShape}
use Rattle.ada_values.specs.declared.shapes.Shape.{Shape}
use Rattle.ada_values.specs.declared.shapes.Shape.TheVariants as shape
use Rattle.typed_units.specs.declared.expressions.Expr.{Expr}
use Rattle.typed_units.specs.declared.expressions.ExprNode.TheVariants as node
use Rattle.typed_units.specs.declared.expressions.Indexed.{Indexed}
use Rattle.typed_units.specs.declared.expressions.Step.{Step}
use Rattle.typed_units.specs.declared.expressions.Step.TheVariants as step
use Rattle.typed_units.specs.declared.operators.Bounds.{Bounds}
use Rattle.typed_units.specs.declared.programs.Program.{Program}
use Rattle.type_base.specs.declared.world.Component.{Component}
use Rattle.type_base.specs.declared.world.Form.{Form}
use Rattle.type_base.specs.declared.world.Form.TheVariants as form
use Rattle.type_base.specs.declared.world.World.{World}
use Rattle.type_base.specs.Demands.{made}
use Rattle.type_base.specs.Lookups.{form_at}
use Rattle.typing_rules.specs.declared.prefix.Part.{Part}
use Rattle.typing_rules.specs.Lookups.{Array, array_at, array_in, components_at, number_or, type_of}
use Rattle.typing_rules.specs.Values.{component_subtype, item_subtype, part_of, part_value, step_subtype, stepped}
use Rattle.program_typing.specs.Expressions as rule
use Rattle.program_typing.specs.Expressions.{Frame, Gives, HasSubtype, Indexes, Steps}
use Rattle.program_typing.specs.Subtypes.{IsArray, pair_bounds}
use Rattle.well_typed_programs.specs.Fits as world
use Rattle.well_typed_programs.specs.Fits.{IsShape, IsTyped, PartFits, PathFits, WorldFits}
use Rattle.well_typed_programs.proofs.Parts.{record_there}
use Rattle.well_typed_programs.proofs.Worlds.{class_there, none_is, shape_there, some_is}

-- ---- arrays

-- the program's array that the world's is
pub record ArrayThere (p : Program) (k : ℕ) (a : Array) : Type 0 where
  pub shape : ArrayShape
  pub is : IsArray p k a.index shape
  pub bounds : pair_bounds shape.bounds ≡ a.bounds
  pub item : shape.item ≡ a.item

abbrev array_or : Array → Form → Array
array_or a (form.Array i b t) = record { index = i; bounds = b; item = t }
array_or a _ = a

abbrev is_array_form : Form → Bool
is_array_form (form.Array i b t) = true
is_array_form _ = false

record ShapeOf (sh : Shape) (a : Array) : Type 0 where
  pub array : ArrayShape
  pub is : sh ≡ shape.Array array
  pub bounds : pair_bounds array.bounds ≡ a.bounds
  pub item : array.item ≡ a.item

array_only : (w : World) (a : Array) (g : Form) (sh : Shape) → IsShape w g sh → is_array_form g ≡ true → ShapeOf sh (array_or a g)
array_only w a _ _ (world.array i t b s u v) e = record { array = s; is = refl; bounds = u; item = v }
array_only w a _ _ (world.number d s) e = absurd (true≢false (sym e))
array_only w a _ _ world.truth e = absurd (true≢false (sym e))
array_only w a _ _ (world.record_of m n) e = absurd (true≢false (sym e))

array_by : (p : Program) (w : World) (k : ℕ) (a : Array) (m : Option Form) → WorldFits p w → form_at w k ≡ m → array_in m ≡ Some a → ArrayThere p k a
array_by p w k a None h e g = absurd (none_is None a refl g)
array_by p w k a (Some form.Truth) h e g = absurd (none_is None a refl g)
array_by p w k a (Some (form.Number d s)) h e g = absurd (none_is None a refl g)
array_by p w k a (Some (form.Record m n)) h e g = absurd (none_is None a refl g)
array_by p w k a (Some (form.Array i b t)) h e g =
    let z = shape_there p w k (form.Array i b t) h e in
    let s = array_only w a (form.Array i b t) z.shape z.is refl in
    let there : ArrayThere p k (record { index = i; bounds = b; item = t }) = record {
      shape = s.array;
      is = record { of_class = class_there p w k (form.Array i b t) h e; of_shape = z.of_shape ∙ ap (λ (x : Shape). Some x) s.is };
      bounds = s.bounds;
      item = s.item;
    } in
    subst (λ (x : Array). ArrayThere p k x) (some_is (record { index = i; bounds = b; item = t }) a g) there

pub array_there : (p : Program) (w : World) (k : ℕ) (a : Array) → WorldFits p w → array_at w k ≡ Some a → ArrayThere p k a
array_there p w k a h e = array_by p w k a (form_at w k) h refl e

-- ---- the value of a part

subtype_at_place : (cs : List Component) (n i : ℕ) → slice_get (map (λ c. c.subtype) cs) n ≡ Some i → component_subtype (Some cs) n ≡ i
subtype_at_place [] n i e = absurd (none_is None i refl e)
subtype_at_place (c ∷ cs) zero i e = some_is c.subtype i e
subtype_at_place (c ∷ cs) (suc n) i e = subtype_at_place cs n i e

component_value : (f : Frame) (w : World) (q : Place) (x : Expr) (k n i m : ℕ) (cs : List Component) → WorldFits f.program w → HasSubtype f x k → components_at w k ≡ Some cs → slice_get (map (λ c. c.subtype) cs) n ≡ Some i
    → HasSubtype f (stepped q i x (step.Component n m)) i
component_value f w q x k n i m cs h z e g = rule.has f q i (node.Component x n) (rule.component f x n k i (map (λ c. c.subtype) cs) z (record_there f.program w k cs h e) g)

item_value : (f : Frame) (w : World) (q : Place) (x : Expr) (k : ℕ) (a : Array) (y : Indexed Expr) → WorldFits f.program w → HasSubtype f x k → array_at w k ≡ Some a → Indexes f a.index a.bounds y
    → HasSubtype f (stepped q a.item x (step.Item a.bounds y)) a.item
item_value f w q x k a y h z e g =
    let s = array_there f.program w k a h e in
    rule.has f q a.item (node.Item x y)
    (subst (λ (t : ℕ). Gives f (node.Item x y) t) s.item (rule.item f x y k a.index s.shape z s.is (subst (λ (b : Option Bounds). Indexes f a.index b y) (sym s.bounds) g)))

path_value : (f : Frame) (w : World) (q : Place) (k j : ℕ) (x : Expr) (ss : List (Step Expr)) → WorldFits f.program w → PathFits f w k ss j → HasSubtype f x k → HasSubtype f (part_of w q k x ss) j
path_value f w q _ _ x _ h (world.here k) z = z
path_value f w q _ _ x _ h (world.to_component k n i j cs ss e g rest) z =
    let m = length cs in
    let same : i ≡ step_subtype w k (step.Component n m) = sym (ap (λ (o : Option (List Component)). component_subtype o n) e ∙ subtype_at_place cs n i g) in
    subst (λ (t : ℕ). HasSubtype f (part_of w q t (stepped q t x (step.Component n m)) ss) j) same
    (path_value f w q i j (stepped q i x (step.Component n m)) ss h rest (component_value f w q x k n i m cs h z e g))
path_value f w q _ _ x _ h (world.to_item k j a y ss e g rest) z =
    let same : a.item ≡ step_subtype w k (step.Item a.bounds y) = sym (ap (λ (o : Option Array). item_subtype o) e) in
    subst (λ (t : ℕ). HasSubtype f (part_of w q t (stepped q t x (step.Item a.bounds y)) ss) j) same
    (path_value f w q a.item j (stepped q a.item x (step.Item a.bounds y)) ss h rest (item_value f w q x k a y h z e g))

-- ---- where a part lies

length_same : (cs : List Component) → length (map (λ c. c.subtype) cs) ≡ length cs
length_same [] = refl
length_same (c ∷ cs) = ap suc (length_same cs)

pub path_steps : (f : Frame) (w : World) (k j : ℕ) (ss : List (Step Expr)) → WorldFits f.program w → PathFits f w k ss j → Steps f k ss j
path_steps f w _ _ _ h (world.here k) = rule.here f k
path_steps f w _ _ _ h (world.to_component k n i j cs ss e g rest) =
    subst (λ (m : ℕ). Steps f k (step.Component n m ∷ ss) j) (length_same cs)
    (rule.to_component f k n i j (map (λ c. c.subtype) cs) ss (record_there f.program w k cs h e) g (path_steps f w i j ss h rest))
path_steps f w _ _ _ h (world.to_item k j a y ss e g rest) =
    let s = array_there f.program w k a h e in
    subst (λ (b : Option Bounds). Steps f k (step.Item b y ∷ ss) j) s.bounds
    (rule.to_item f k a.index j s.shape y ss s.is (subst (λ (b : Option Bounds). Indexes f a.index b y) (sym s.bounds) g) (subst (λ (t : ℕ). Steps f t ss j) (sym s.item) (path_steps f w a.item j ss h rest)))

-- ---- a part

pub part_is : (f : Frame) (w : World) (g : Part) → WorldFits f.program w → PartFits f w g → IsTyped f w (type_of w g.subtype) (part_value w g)
part_is f w g h z = record {
  subtype = g.subtype;
  has = path_value f w g.target.place g.whole g.subtype (made g.target.place g.whole (node.Read g.target.place g.target.object)) g.target.path h z.path
      (rule.has f g.target.place g.whole (node.Read g.target.place g.target.object) (rule.read f g.target.place g.target.object g.whole z.object));
  of_type = z.of_type ∙ ap (λ (n : ℕ). Some n) (sym (ap number_or z.of_type));
}
