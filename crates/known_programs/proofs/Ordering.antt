-- The range that is found of bounds or of a name is of a subtype of numbers, where the index of each array is.
use Rattle.std.proofs.Common.{◌≡◌, refl, sym, ◌∙◌, ap, subst, ℕ, ℤ, Bool, true, false, true≢false, ◌==◌, List, [], ◌∷◌, Option, Some, None}
use Rattle.std.specs.Prelude.{if◌then◌else◌}
use Rattle.ada_values.specs.Scalars.{in_base}
use Rattle.ada_values.specs.declared.place.Place.{Place}
use Rattle.ada_values.specs.declared.values.Value.{Value}
use Rattle.ada_values.specs.declared.values.Value.TheVariants as value
use Rattle.front_codes.specs.declared.codes.Code.{Code}
use Rattle.front_codes.specs.declared.codes.Code.TheVariants as code
use Rattle.front_codes.specs.declared.codes.Refusal.{Refusal}
use Rattle.name_library.specs.declared.links.Link.{Link}
use Rattle.name_numbers.specs.Numbers.{word_of}
use Rattle.name_numbers.specs.declared.words.Word.{Word}
use Rattle.name_numbers.specs.declared.words.Word.TheVariants as word
use Rattle.syntax_view.specs.Trees as tree
use Rattle.typed_units.specs.declared.expressions.Expr.{Expr}
use Rattle.typed_units.specs.declared.expressions.ExprNode.TheVariants as node
use Rattle.typed_units.specs.declared.expressions.Indexed.{Indexed}
use Rattle.typed_units.specs.declared.expressions.Step.{Step}
use Rattle.typed_units.specs.declared.operators.Bounds.{Bounds}
use Rattle.typed_units.specs.declared.operators.Object.{Object}
use Rattle.type_base.specs.Demands.{agree, fitting, is_ordered, is_whole, number_as, operand, placed_number, refused, subtype_of, with_left, with_right}
use Rattle.type_base.specs.Demands as demands
use Rattle.type_base.specs.Lookups.{constant_at, form_at, form_in, routine_at, subtype_at, type_at, type_in}
use Rattle.type_base.specs.Scope.{Scope}
use Rattle.type_base.specs.declared.entities.Access.{Access}
use Rattle.type_base.specs.declared.entities.Entity.{Entity}
use Rattle.type_base.specs.declared.entities.Entity.TheVariants as entity
use Rattle.type_base.specs.declared.seen.Agreed.TheVariants as agreed
use Rattle.type_base.specs.declared.seen.Demand.TheVariants as demand
use Rattle.typing_rules.specs.declared.prefix.Mapping.{Mapping}
use Rattle.typing_rules.specs.declared.prefix.Mapping.TheVariants as mapping
use Rattle.type_base.specs.declared.seen.Seen.{Seen}
use Rattle.type_base.specs.declared.seen.Seen.TheVariants as seen'
use Rattle.type_base.specs.declared.seen.Want.{Want}
use Rattle.type_base.specs.declared.seen.Want.TheVariants as want
use Rattle.type_base.specs.declared.world.Component.{Component}
use Rattle.type_base.specs.declared.world.Discrete.TheVariants as discrete
use Rattle.type_base.specs.declared.world.Form.{Form}
use Rattle.type_base.specs.declared.world.Form.TheVariants as form
use Rattle.type_base.specs.declared.world.Formal.{Formal}
use Rattle.type_base.specs.declared.world.Routine.{Routine}
use Rattle.type_base.specs.declared.world.Subtype.{Subtype}
use Rattle.type_base.specs.declared.world.World.{World}
use Rattle.type_base.specs.Standard.{integer_base}
use Rattle.expression_rules.specs.Known.{IsKnown, SameSort}
use Rattle.typing_rules.specs.Attributes.{Bounded, attribute_by, bound_at, bounded, bounded_by, bounds_static, constant_bounded, is_mapped, known_bounds, left_out, mapping_by, mapping_of, no_array, of_value, only_components, part_bounded, range_at, range_by, static, subtype_bounded, unclear, value_bounded, value_bounded_by}
use Rattle.typing_rules.specs.Fits.{both, found_then}
use Rattle.typing_rules.specs.Forms.{application, suffix_prefix, suffixes_prefix}
use Rattle.typing_rules.specs.Lookups.{Array, array_at, array_in, components_at, entity_by, entity_of, number_or, place_among, scalar_value, type_of}
use Rattle.typing_rules.specs.Names.{call_by, component, component_part, function_call, item_of, index_of, part_component, part_item, routine_call, selected_by, unless_refused}
use Rattle.typing_rules.specs.Parts as parts
use Rattle.typing_rules.specs.Parts.{Arg, Suffix}
use Rattle.typing_rules.specs.Ranges.{bounds_reach, found_expr, high_place, lone_reach, no_range, reach_in, reach_of, subtype_reach, want_or}
use Rattle.typing_rules.specs.Reading.{read, range, suffixes}
use Rattle.typing_rules.specs.Values.{constant_by, entity_prefix, formals_of, object_by, part_value, place_of, prefix_fault, seen_of, value_of}
use Rattle.typing_rules.specs.declared.prefix.Between.{Between}
use Rattle.typing_rules.specs.declared.prefix.Found.{Found}
use Rattle.typing_rules.specs.declared.prefix.Found.TheVariants.{Refused, Unknown, Is}
use Rattle.typing_rules.specs.declared.prefix.Part.{Part}
use Rattle.typing_rules.specs.declared.prefix.Prefix.{Prefix}
use Rattle.typing_rules.specs.declared.prefix.Prefix.TheVariants as prefix
use Rattle.typing_rules.specs.declared.prefix.Reach.{Reach}
use Rattle.typing_rules.specs.declared.prefix.Reach.TheVariants as reach
use Rattle.typing_laws.specs.Declared.{IsGiven, IsSound, RangeDeclared}
use Rattle.typing_laws.proofs.KnownParts.{operand_known}
use Rattle.typing_laws.proofs.KnownRanges.{want_given}
use Rattle.typing_laws.proofs.KnownTrees.{read_known}
use Rattle.typing_laws.proofs.Standing.{form_there}
use Rattle.statement_typing.specs.Asked.{is_wanted, low_place, of_wanted, range_between, range_seen}
use Rattle.statement_typing.specs.Checks.{unless}
use Rattle.known_declarations.specs.Declared.{HasIndexes, IndexOrdered, IsOrdered, IsReady}

-- whether a form is there, and is of numbers
abbrev ordered_in : Option Form → Bool
ordered_in (Some f) = is_ordered f
ordered_in None = false

-- ---- operands

abbrev TypeOrdered : World → Seen → Type 0
TypeOrdered w (seen'.Typed t x) = IsOrdered w t
TypeOrdered w (seen'.Refused f) = Unit {0}
TypeOrdered w seen'.Unknown = Unit {0}
TypeOrdered w (seen'.Number n) = Unit {0}

-- the type of numbers is one of numbers
same_type : (w : World) (t : ℕ) (f g : Form) → is_ordered f ≡ true → SameSort f g → form_at w t ≡ Some g → IsOrdered w t
same_type w t (form.Number d s) (form.Number e u) h i k = record { discrete = e; scalar = u; is = k }
same_type w t (form.Number d s) form.Truth h i k = absurd i
same_type w t (form.Number d s) (form.Array a b j) h i k = absurd i
same_type w t (form.Number d s) (form.Record a b) h i k = absurd i
same_type w t form.Truth g h i k = absurd (true≢false (sym h))
same_type w t (form.Array a b j) g h i k = absurd (true≢false (sym h))
same_type w t (form.Record a b) g h i k = absurd (true≢false (sym h))

typed_if : (w : World) (r : Code) (p : Place) (t : ℕ) (x : Expr) (b : Bool) → (b ≡ true → IsOrdered w t) → TypeOrdered w (if b then seen'.Typed t x else refused r p)
typed_if w r p t x true h = h refl
typed_if w r p t x false h = tt

operand_ordered : (w : World) (r : Code) (p : Place) (s : Seen) → IsKnown w s → TypeOrdered w (operand w demand.Ordered r p s)
operand_ordered w r p (seen'.Refused f) h = tt
operand_ordered w r p seen'.Unknown h = absurd h
operand_ordered w r p (seen'.Number n) h = tt
operand_ordered w r p (seen'.Typed t x) h =
    subst (λ (m : Option Form). TypeOrdered w (fitting demand.Ordered r p t x m)) (sym h.is)
    (typed_if w r p t x (is_ordered h.form) (λ e. same_type w t h.form h.type e h.sort h.type_is))

-- ---- bounds

abbrev ReachOrdered : World → Reach → Type 0
ReachOrdered w (reach.Between b) = IsOrdered w b.subtype
ReachOrdered w (reach.Refused f) = Unit {0}
ReachOrdered w reach.Unknown = Unit {0}
ReachOrdered w (reach.Numbers a b) = Unit {0}

number_if : (w : World) (t : ℕ) (x : Expr) (p q : Place) (r s : Code) (a b : Bool) → IsOrdered w t → TypeOrdered w (if a then (if b then seen'.Typed t x else refused s p) else refused r q)
number_if w t x p q r s true true h = h
number_if w t x p q r s true false h = tt
number_if w t x p q r s false b h = tt

placed_ordered : (w : World) (r : Code) (q p : Place) (t : ℕ) (n : ℤ) → IsOrdered w t → TypeOrdered w (placed_number w r q p t n)
placed_ordered w r q p t n h =
    subst (λ (m : Option Form). TypeOrdered w (number_as r q p t n m)) (sym h.is)
    (number_if w t (demands.made p t (node.Static (value.Int n))) p q r code.L29 (is_whole h.discrete) (in_base h.scalar n) h)

left_ordered : (w : World) (s : Seen) (y : Expr) → TypeOrdered w s → ReachOrdered w (bounds_reach (with_left s y))
left_ordered w (seen'.Refused f) y h = tt
left_ordered w seen'.Unknown y h = tt
left_ordered w (seen'.Number n) y h = tt
left_ordered w (seen'.Typed t x) y h = h

right_ordered : (w : World) (t : ℕ) (x : Expr) (s : Seen) → IsOrdered w t → ReachOrdered w (bounds_reach (with_right t x s))
right_ordered w t x (seen'.Refused f) h = tt
right_ordered w t x seen'.Unknown h = tt
right_ordered w t x (seen'.Number n) h = tt
right_ordered w t x (seen'.Typed u y) h = h

one_ordered : (w : World) (r : Code) (q : Place) (t : ℕ) (x y : Expr) (b : Bool) → IsOrdered w t → ReachOrdered w (bounds_reach (if b then agreed.Typed t x y else agreed.Refused (demands.broken r q)))
one_ordered w r q t x y true h = h
one_ordered w r q t x y false h = tt

agree_ordered : (w : World) (r : Code) (p q : Place) (x y : Seen) → TypeOrdered w x → TypeOrdered w y → ReachOrdered w (bounds_reach (agree w r p q x y))
agree_ordered w r p q (seen'.Refused f) (seen'.Refused g) h i = tt
agree_ordered w r p q (seen'.Refused f) seen'.Unknown h i = tt
agree_ordered w r p q (seen'.Refused f) (seen'.Number k) h i = tt
agree_ordered w r p q (seen'.Refused f) (seen'.Typed u y) h i = tt
agree_ordered w r p q seen'.Unknown (seen'.Refused g) h i = tt
agree_ordered w r p q seen'.Unknown seen'.Unknown h i = tt
agree_ordered w r p q seen'.Unknown (seen'.Number k) h i = tt
agree_ordered w r p q seen'.Unknown (seen'.Typed u y) h i = tt
agree_ordered w r p q (seen'.Number n) (seen'.Refused g) h i = tt
agree_ordered w r p q (seen'.Number n) seen'.Unknown h i = tt
agree_ordered w r p q (seen'.Number n) (seen'.Number k) h i = tt
agree_ordered w r p q (seen'.Number n) (seen'.Typed u y) h i = left_ordered w (placed_number w r q p u n) y (placed_ordered w r q p u n i)
agree_ordered w r p q (seen'.Typed t x) (seen'.Refused g) h i = tt
agree_ordered w r p q (seen'.Typed t x) seen'.Unknown h i = tt
agree_ordered w r p q (seen'.Typed t x) (seen'.Number k) h i = right_ordered w t x (placed_number w r q q t k) h
agree_ordered w r p q (seen'.Typed t x) (seen'.Typed u y) h i = one_ordered w r q t x y (t == u) h

-- ---- names

abbrev PrefixOrdered : World → Prefix → Type 0
PrefixOrdered w (prefix.Range b) = IsOrdered w b.subtype
PrefixOrdered w prefix.Package = Unit {0}
PrefixOrdered w (prefix.Subtype k) = Unit {0}
PrefixOrdered w (prefix.Routine q) = Unit {0}
PrefixOrdered w (prefix.Called q xs) = Unit {0}
PrefixOrdered w (prefix.Mapping m t k) = Unit {0}
PrefixOrdered w (prefix.Constant t x) = Unit {0}
PrefixOrdered w (prefix.Part g) = Unit {0}
PrefixOrdered w (prefix.Value s) = Unit {0}

subtype_ordered : (w : World) (r : Code) (p : Place) (k : ℕ) (m : Option Form) → form_at w k ≡ m → ReachOrdered w (subtype_reach r p k m)
subtype_ordered w r p k (Some (form.Number d s)) e = record { discrete = d; scalar = s; is = e }
subtype_ordered w r p k (Some form.Truth) e = tt
subtype_ordered w r p k (Some (form.Array i b t)) e = tt
subtype_ordered w r p k (Some (form.Record i n)) e = tt
subtype_ordered w r p k None e = tt

no_range_ordered : (w : World) (r : Code) (p : Place) (s : Seen) → ReachOrdered w (no_range r p s)
no_range_ordered w r p (seen'.Refused f) = tt
no_range_ordered w r p seen'.Unknown = tt
no_range_ordered w r p (seen'.Number n) = tt
no_range_ordered w r p (seen'.Typed t x) = tt

lone_ordered : (c : Scope) (r : Code) (p : Place) (f : Prefix) → PrefixOrdered c.world f → ReachOrdered c.world (lone_reach c r p f)
lone_ordered c r p prefix.Package h = no_range_ordered c.world r p (value_of c p prefix.Package)
lone_ordered c r p (prefix.Subtype k) h = subtype_ordered c.world r p k (form_at c.world k) refl
lone_ordered c r p (prefix.Routine q) h = no_range_ordered c.world r p (value_of c p (prefix.Routine q))
lone_ordered c r p (prefix.Called q xs) h = no_range_ordered c.world r p (value_of c p (prefix.Called q xs))
lone_ordered c r p (prefix.Mapping m' t k) h = no_range_ordered c.world r p (value_of c p (prefix.Mapping m' t k))
lone_ordered c r p (prefix.Range b) h = h
lone_ordered c r p (prefix.Constant t x) h = no_range_ordered c.world r p (value_of c p (prefix.Constant t x))
lone_ordered c r p (prefix.Part g) h = no_range_ordered c.world r p (value_of c p (prefix.Part g))
lone_ordered c r p (prefix.Value s) h = no_range_ordered c.world r p (value_of c p (prefix.Value s))

abbrev ArrayOrdered : World → Option Array → Type 0
ArrayOrdered w None = Unit {0}
ArrayOrdered w (Some a) = IsOrdered w a.index

array_form : (w : World) (f : Form) → IndexOrdered w f → ArrayOrdered w (array_in (Some f))
array_form w (form.Array i b t) h = h
array_form w (form.Number d s) h = tt
array_form w form.Truth h = tt
array_form w (form.Record i n) h = tt

array_by : (w : World) (k : ℕ) → HasIndexes w → (m : Option Subtype) → subtype_at w k ≡ m → ArrayOrdered w (array_in (form_in m))
array_by w k h None e = tt
array_by w k h (Some s) e = array_form w s.form (h k s e)

array_ordered : (w : World) (k : ℕ) → HasIndexes w → ArrayOrdered w (array_at w k)
array_ordered w k h = array_by w k h (subtype_at w k) refl

abbrev BoundedOrdered : World → Bounded → Type 0
BoundedOrdered w (static i b) = IsOrdered w i
BoundedOrdered w (known_bounds i b x) = IsOrdered w i
BoundedOrdered w (of_value i x) = IsOrdered w i
BoundedOrdered w no_array = Unit {0}
BoundedOrdered w (unclear s) = Unit {0}

form_bounded : (w : World) (f : Form) → IndexOrdered w f → BoundedOrdered w (subtype_bounded (Some f))
form_bounded w (form.Array i (Some b) t) h = h
form_bounded w (form.Array i None t) h = tt
form_bounded w (form.Number d s) h = tt
form_bounded w form.Truth h = tt
form_bounded w (form.Record i n) h = tt

subtype_bounds : (w : World) (k : ℕ) → HasIndexes w → (m : Option Subtype) → subtype_at w k ≡ m → BoundedOrdered w (subtype_bounded (form_in m))
subtype_bounds w k h None e = tt
subtype_bounds w k h (Some s) e = form_bounded w s.form (h k s e)

static_bounds : (w : World) (i : ℕ) (x : Expr) (b : Option Bounds) → IsOrdered w i → BoundedOrdered w (bounds_static i x b)
static_bounds w i x (Some b) h = h
static_bounds w i x None h = h

constant_bounds : (w : World) (x : Expr) (m : Option Array) → ArrayOrdered w m → BoundedOrdered w (constant_bounded x m)
constant_bounds w x None h = tt
constant_bounds w x (Some a) h = static_bounds w a.index x a.bounds h

bounded_if : (w : World) (x : Expr) (i : ℕ) (b : Bounds) (z : Bool) → IsOrdered w i → BoundedOrdered w (if z then known_bounds i b x else of_value i x)
bounded_if w x i b true h = h
bounded_if w x i b false h = h

path_bounds : (w : World) (x : Expr) (i : ℕ) (b : Option Bounds) (ss : List (Step Expr)) → IsOrdered w i → BoundedOrdered w (bounded_by x i b ss)
path_bounds w x i None ss h = h
path_bounds w x i (Some b) [] h = h
path_bounds w x i (Some b) (s ∷ ss) h = bounded_if w x i b (only_components (s ∷ ss)) h

part_bounds : (w : World) (g : Part) (m : Option Array) → ArrayOrdered w m → BoundedOrdered w (part_bounded w g m)
part_bounds w g None h = tt
part_bounds w g (Some a) h = path_bounds w (part_value w g) a.index a.bounds g.target.path h

value_by : (w : World) (x : Expr) (m : Option Array) → ArrayOrdered w m → BoundedOrdered w (value_bounded_by x m)
value_by w x None h = tt
value_by w x (Some a) h = h

value_bounds : (w : World) (s : Seen) → HasIndexes w → BoundedOrdered w (value_bounded w s)
value_bounds w (seen'.Refused f) h = tt
value_bounds w seen'.Unknown h = tt
value_bounds w (seen'.Number n) h = tt
value_bounds w (seen'.Typed t x) h = value_by w x (array_at w (subtype_of x)) (array_ordered w (subtype_of x) h)

bounded_ordered : (c : Scope) (p : Place) (f : Prefix) → HasIndexes c.world → BoundedOrdered c.world (bounded c p f)
bounded_ordered c p (prefix.Subtype k) h = subtype_bounds c.world k h (subtype_at c.world k) refl
bounded_ordered c p (prefix.Constant t x) h = constant_bounds c.world x (array_at c.world (subtype_of x)) (array_ordered c.world (subtype_of x) h)
bounded_ordered c p (prefix.Part g) h = part_bounds c.world g (array_at c.world g.subtype) (array_ordered c.world g.subtype h)
bounded_ordered c p prefix.Package h = value_bounds c.world (value_of c p prefix.Package) h
bounded_ordered c p (prefix.Routine q) h = value_bounds c.world (value_of c p (prefix.Routine q)) h
bounded_ordered c p (prefix.Called q xs) h = value_bounds c.world (value_of c p (prefix.Called q xs)) h
bounded_ordered c p (prefix.Mapping m t k) h = value_bounds c.world (value_of c p (prefix.Mapping m t k)) h
bounded_ordered c p (prefix.Range b) h = value_bounds c.world (value_of c p (prefix.Range b)) h
bounded_ordered c p (prefix.Value s) h = value_bounds c.world (value_of c p (prefix.Value s)) h

-- the type of a subtype of numbers
pub type_ordered : (w : World) (i : ℕ) → IsSound w → IsOrdered w i → IsOrdered w (type_of w i)
type_ordered w i sound h =
    let z = form_there w i (form.Number h.discrete h.scalar) h.is in
    let k = sound.subtypes i z.subtype z.is in
    let e : Some z.subtype.form ≡ Some (form.Number h.discrete h.scalar) = sym (ap form_in z.is) ∙ h.is in
    subst (λ (j : ℕ). IsOrdered w j) (sym (ap (λ (m : Option Subtype). number_or (type_in m)) z.is))
    (same_type w z.subtype.of z.subtype.form k.type.subtype.form (ap ordered_in e) k.sort (ap form_in k.type.is))

range_ordered : (w : World) (i : ℕ) (s u : Seen) → IsOrdered w i → PrefixOrdered w (range_by i s u)
range_ordered w i (seen'.Refused f) u h = tt
range_ordered w i seen'.Unknown u h = tt
range_ordered w i (seen'.Number n) u h = tt
range_ordered w i (seen'.Typed t x) (seen'.Refused f) h = tt
range_ordered w i (seen'.Typed t x) seen'.Unknown h = tt
range_ordered w i (seen'.Typed t x) (seen'.Number n) h = tt
range_ordered w i (seen'.Typed t x) (seen'.Typed u y) h = h

at_ordered : (c : Scope) (p : Place) (b : Bounded) → IsSound c.world → BoundedOrdered c.world b → PrefixOrdered c.world (range_at c p b)
at_ordered c p (static i b) sound h = range_ordered c.world (type_of c.world i) (bound_at c p true (static i b)) (bound_at c p false (static i b)) (type_ordered c.world i sound h)
at_ordered c p (known_bounds i b x) sound h =
    range_ordered c.world (type_of c.world i) (bound_at c p true (known_bounds i b x)) (bound_at c p false (known_bounds i b x)) (type_ordered c.world i sound h)
at_ordered c p (of_value i x) sound h = range_ordered c.world (type_of c.world i) (bound_at c p true (of_value i x)) (bound_at c p false (of_value i x)) (type_ordered c.world i sound h)
at_ordered c p no_array sound h = tt
at_ordered c p (unclear s) sound h = tt

constant_no : (w : World) (p : Place) (k : ℕ) (v : Option Value) (t : Option ℕ) → PrefixOrdered w (constant_by p k v t)
constant_no w p k (Some v) (Some t) = tt
constant_no w p k (Some v) None = tt
constant_no w p k None (Some t) = tt
constant_no w p k None None = tt

object_no : (w : World) (p : Place) (k : ℕ) (o : Object) (a : Access) (t : Option ℕ) → PrefixOrdered w (object_by p k o a t)
object_no w p k o a (Some t) = tt
object_no w p k o a None = tt

entity_no : (c : Scope) (p : Place) (e : Entity) → PrefixOrdered c.world (entity_prefix c p e)
entity_no c p entity.Unknown = tt
entity_no c p entity.Package = tt
entity_no c p (entity.Subtype k) = tt
entity_no c p (entity.Routine q) = tt
entity_no c p (entity.Number n) = tt
entity_no c p (entity.Literal k n) = tt
entity_no c p (entity.Static k n) = constant_no c.world p k (Some (scalar_value (type_of c.world k) n)) (type_at c.world k)
entity_no c p (entity.Constant k n) = constant_no c.world p k (constant_at c.world n) (type_at c.world k)
entity_no c p (entity.Object k o a) = object_no c.world p k o a (type_at c.world k)

component_no : (w : World) (p : Place) (g : Part) (cs : List Component) (n : Option ℕ) → PrefixOrdered w (component_part p g cs n)
component_no w p g cs None = tt
component_no w p g cs (Some n) = tt

part_no : (w : World) (p : Place) (m : ℕ) (g : Part) (cs : Option (List Component)) → PrefixOrdered w (part_component p m g cs)
part_no w p m g None = tt
part_no w p m g (Some cs) = component_no w p g cs (place_among cs m 0)

selected_no : (c : Scope) (p : Place) (m : ℕ) (f : Prefix) → PrefixOrdered c.world (component c p m f)
selected_no c p m prefix.Package = tt
selected_no c p m (prefix.Subtype k) = tt
selected_no c p m (prefix.Routine q) = tt
selected_no c p m (prefix.Called q xs) = tt
selected_no c p m (prefix.Mapping n t k) = tt
selected_no c p m (prefix.Range b) = tt
selected_no c p m (prefix.Constant t x) = tt
selected_no c p m (prefix.Part g) = part_no c.world p m g (components_at c.world g.subtype)
selected_no c p m (prefix.Value s) = tt

unless_no : (w : World) (o : Option Refusal) (f : Prefix) → PrefixOrdered w f → PrefixOrdered w (unless_refused o f)
unless_no w (Some g) f h = tt
unless_no w None f h = h

link_no : (c : Scope) (p : Place) (f : Prefix) (at : ℕ) (l : Option Link) → PrefixOrdered c.world (selected_by c p f at l)
link_no c p f at (Some l) = unless_no c.world (prefix_fault f) (entity_prefix c p (entity_by c (Some l))) (entity_no c p (entity_by c (Some l)))
link_no c p f at None = selected_no c p (c.name at) f

mapping_if : (w : World) (p : Place) (m : Mapping) (t : Place) (k : ℕ) (b : Bool) → PrefixOrdered w (if b then prefix.Mapping m t k else prefix.Value (refused code.L19 p))
mapping_if w p m t k true = tt
mapping_if w p m t k false = tt

mapping_form : (w : World) (p : Place) (m : Mapping) (t : Place) (k : ℕ) (f : Option Form) → PrefixOrdered w (mapping_by p m t k f)
mapping_form w p m t k (Some (form.Number d s)) = mapping_if w p m t k (is_mapped m d)
mapping_form w p m t k (Some form.Truth) = tt
mapping_form w p m t k (Some (form.Array i b j)) = tt
mapping_form w p m t k (Some (form.Record i n)) = tt
mapping_form w p m t k None = tt

mapping_no : (c : Scope) (p : Place) (m : Mapping) (t : Place) (f : Prefix) → PrefixOrdered c.world (mapping_of c p m t f)
mapping_no c p m t prefix.Package = tt
mapping_no c p m t (prefix.Subtype k) = mapping_form c.world p m t k (form_at c.world k)
mapping_no c p m t (prefix.Routine q) = tt
mapping_no c p m t (prefix.Called q xs) = tt
mapping_no c p m t (prefix.Mapping n u k) = tt
mapping_no c p m t (prefix.Range b) = tt
mapping_no c p m t (prefix.Constant u x) = tt
mapping_no c p m t (prefix.Part g) = tt
mapping_no c p m t (prefix.Value s) = tt

left_no : (w : World) (p : Place) (o : Option Refusal) → PrefixOrdered w (left_out p o)
left_no w p (Some f) = tt
left_no w p None = tt

attribute_no : (c : Scope) (v : Want) (p : Place) (f : Prefix) (t : Place) (a : Option Word) → PrefixOrdered c.world (attribute_by c v p f t a)
attribute_no c v p f t None = left_no c.world p (prefix_fault f)
attribute_no c v p f t (Some word.SparkMode) = left_no c.world p (prefix_fault f)
attribute_no c v p f t (Some word.Pure) = left_no c.world p (prefix_fault f)
attribute_no c v p f t (Some word.Preelaborate) = left_no c.world p (prefix_fault f)
attribute_no c v p f t (Some word.Assert) = left_no c.world p (prefix_fault f)
attribute_no c v p f t (Some word.Assume) = left_no c.world p (prefix_fault f)
attribute_no c v p f t (Some word.LoopInvariant) = left_no c.world p (prefix_fault f)
attribute_no c v p f t (Some word.LoopVariant) = left_no c.world p (prefix_fault f)
attribute_no c v p f t (Some word.Pre) = left_no c.world p (prefix_fault f)
attribute_no c v p f t (Some word.Post) = left_no c.world p (prefix_fault f)
attribute_no c v p f t (Some word.Global) = left_no c.world p (prefix_fault f)
attribute_no c v p f t (Some word.First) = tt
attribute_no c v p f t (Some word.Last) = tt
attribute_no c v p f t (Some word.Length) = tt
attribute_no c v p f t (Some word.Succ) = mapping_no c p mapping.Succ t f
attribute_no c v p f t (Some word.Pred) = mapping_no c p mapping.Pred t f
attribute_no c v p f t (Some word.Pos) = mapping_no c p mapping.Pos t f
attribute_no c v p f t (Some word.Val) = mapping_no c p mapping.Val t f
attribute_no c v p f t (Some word.Old) = tt
attribute_no c v p f t (Some word.Result) = tt
attribute_no c v p f t (Some word.LoopEntry) = tt
attribute_no c v p f t (Some word.On) = left_no c.world p (prefix_fault f)
attribute_no c v p f t (Some word.Check) = left_no c.world p (prefix_fault f)
attribute_no c v p f t (Some word.Increases) = left_no c.world p (prefix_fault f)
attribute_no c v p f t (Some word.Decreases) = left_no c.world p (prefix_fault f)
attribute_no c v p f t (Some word.Input) = left_no c.world p (prefix_fault f)
attribute_no c v p f t (Some word.Output) = left_no c.world p (prefix_fault f)
attribute_no c v p f t (Some word.InOut) = left_no c.world p (prefix_fault f)

function_no : (c : Scope) (p : Place) (q k : ℕ) (as' : List Arg) (fs : List Formal) (m : Option Array) → PrefixOrdered c.world (function_call c p q k as' fs m)
function_no c p q k as' [] (Some a) = tt
function_no c p q k as' [] None = tt
function_no c p q k as' (f ∷ fs) m = tt

call_no : (c : Scope) (p : Place) (q : ℕ) (as' : List Arg) (k : Option ℕ) (fs : List Formal) → PrefixOrdered c.world (call_by c p q as' k fs)
call_no c p q as' (Some k) fs = function_no c p q k as' fs (array_at c.world k)
call_no c p q as' None fs = tt

routine_no : (c : Scope) (p : Place) (q : ℕ) (as' : List Arg) (m : Option Routine) → PrefixOrdered c.world (routine_call c p q as' m)
routine_no c p q as' (Some r) = call_no c p q as' r.result (formals_of c.world r)
routine_no c p q as' None = tt

item_no : (w : World) (g : Part) (a : Array) (x : Found (Indexed Expr)) → PrefixOrdered w (item_of g a x)
item_no w g a (Refused f) = tt
item_no w g a Unknown = tt
item_no w g a (Is i) = tt

part_item_no : (c : Scope) (p : Place) (g : Part) (as' : List Arg) (m : Option Array) → PrefixOrdered c.world (part_item c p g as' m)
part_item_no c p g as' (Some a) = item_no c.world g a (index_of c p a as')
part_item_no c p g as' None = tt

application_no : (c : Scope) (p : Place) (f : Prefix) (as' : List Arg) → PrefixOrdered c.world (application c p f as')
application_no c p prefix.Package as' = tt
application_no c p (prefix.Subtype k) as' = tt
application_no c p (prefix.Routine q) as' = routine_no c p q as' (routine_at c.world q)
application_no c p (prefix.Called q xs) as' = tt
application_no c p (prefix.Mapping m t k) as' = tt
application_no c p (prefix.Range b) as' = tt
application_no c p (prefix.Constant t x) as' = tt
application_no c p (prefix.Part g) as' = part_item_no c p g as' (array_at c.world g.subtype)
application_no c p (prefix.Value s) as' = tt

suffix_ordered : (c : Scope) (v : Want) (p : Place) (f : Prefix) (s : Suffix) → IsReady c.world → PrefixOrdered c.world (suffix_prefix c v p f s)
suffix_ordered c v p f (parts.selected at) ready = link_no c p f at (c.link at)
suffix_ordered c v p f (parts.attribute t at) ready = attribute_no c v p f (c.place t) (word_of (c.name at))
suffix_ordered c v p f (parts.range_attribute t) ready = at_ordered c p (bounded c p f) ready.sound (bounded_ordered c p f ready.indexes)
suffix_ordered c v p f (parts.qualified t as') ready = tt
suffix_ordered c v p f (parts.applied as') ready = application_no c p f as'

suffixes_ordered : (c : Scope) (v : Want) (p : Place) (f : Prefix) (ss : List Suffix) → IsReady c.world → PrefixOrdered c.world f → PrefixOrdered c.world (suffixes_prefix c v p f ss)
suffixes_ordered c v p f [] ready h = h
suffixes_ordered c v p f (s ∷ ss) ready h = suffixes_ordered c v p (suffix_prefix c v p f s) ss ready (suffix_ordered c v p f s ready)

-- ---- expressions and ranges

prefix_ordered : (c : Scope) (v : Want) (e : tree.Expr) → IsReady c.world → PrefixOrdered c.world ((read c e).prefix v)
prefix_ordered c v (tree.at s (tree.name (tree.named u i ss))) ready =
    suffixes_ordered c v (c.place s.from) (entity_prefix c (c.place s.from) (entity_of c i.from)) (suffixes c ss) ready (entity_no c (c.place s.from) (entity_of c i.from))
prefix_ordered c v (tree.at s (tree.number n)) ready = tt
prefix_ordered c v (tree.at s tree.null) ready = tt
prefix_ordered c v (tree.at s (tree.group as')) ready = tt
prefix_ordered c v (tree.at s (tree.unary p o a)) ready = tt
prefix_ordered c v (tree.at s (tree.binary p o a b)) ready = tt
prefix_ordered c v (tree.at s (tree.member p b a g)) ready = tt

reach_ordered : (c : Scope) (r : Code) (v : Want) (g : tree.Range) → IsReady c.world → IsGiven c.world v → RangeDeclared c g → ReachOrdered c.world (reach_of c r v (range c g))
reach_ordered c r v (tree.range l tree.no_expr) ready given h = lone_ordered c r (place_of c (read c l)) ((read c l).prefix v) (prefix_ordered c v l ready)
reach_ordered c r v (tree.range l (tree.an_expr k)) ready given h =
    let x = read c l in
    let y = read c k in
    let i = read_known c l ready.sound h.0 in
    let j = read_known c k ready.sound h.1 in
    let p = place_of c x in
    let q = place_of c y in
    let s = seen_of c x (want_or v y.kind) in
    let u = seen_of c y (want_or v x.kind) in
    agree_ordered c.world r p q (operand c.world demand.Ordered r p s) (operand c.world demand.Ordered r q u)
    (operand_ordered c.world r p s (operand_known c x (want_or v y.kind) ready.sound i (want_given c.world v y.kind given j.kind)))
    (operand_ordered c.world r q u (operand_known c y (want_or v x.kind) ready.sound j (want_given c.world v x.kind given i.kind)))

abbrev pub BetweenOrdered : World → Found Between → Type 0
BetweenOrdered w (Is b) = IsOrdered w b.subtype
BetweenOrdered w Unknown = Unit {0}
BetweenOrdered w (Refused f) = Unit {0}

both_ordered : (w : World) (t : ℕ) (x y : Found Expr) → IsOrdered w t → BetweenOrdered w (both (λ a b. record { subtype = t; low = a; high = b }) x y)
both_ordered w t (Refused f) (Refused g) h = tt
both_ordered w t (Refused f) Unknown h = tt
both_ordered w t (Refused f) (Is y) h = tt
both_ordered w t Unknown (Refused g) h = tt
both_ordered w t Unknown Unknown h = tt
both_ordered w t Unknown (Is y) h = tt
both_ordered w t (Is x) (Refused g) h = tt
both_ordered w t (Is x) Unknown h = tt
both_ordered w t (Is x) (Is y) h = h

in_ordered : (c : Scope) (r : Code) (t : ℕ) (g : parts.Range) (u : Reach) → IsOrdered c.world t → ReachOrdered c.world u → BetweenOrdered c.world (reach_in c r t g u)
in_ordered c r t g (reach.Refused f) h i = tt
in_ordered c r t g reach.Unknown h i = tt
in_ordered c r t g (reach.Between b) h i = i
in_ordered c r t g (reach.Numbers a b) h i =
    both_ordered c.world t (found_expr (placed_number c.world r (place_of c g.low) (place_of c g.low) t a))
    (found_expr (placed_number c.world r (high_place c g g.high) (high_place c g g.high) t b)) h

wanted_if : (w : World) (b : Bool) (r : Code) (p : Place) (x : Between) → IsOrdered w x.subtype → BetweenOrdered w (unless b r p x)
wanted_if w true r p x h = h
wanted_if w false r p x h = tt

wanted_ordered : (c : Scope) (r : Code) (v : Want) (g : tree.Range) (x : Found Between) → BetweenOrdered c.world x → BetweenOrdered c.world (found_then x (of_wanted c r v g))
wanted_ordered c r v g (Refused f) h = tt
wanted_ordered c r v g Unknown h = tt
wanted_ordered c r v g (Is b) h = wanted_if c.world (is_wanted v (type_of c.world b.subtype)) r (low_place c g) b h

integer_ordered : (w : World) → IsSound w → IsOrdered w integer_base
integer_ordered w sound = record { discrete = discrete.Signed; scalar = sound.standard.integer; is = sound.standard.integer_is }

-- the range of an index, whose context is free
pub free_range_ordered : (c : Scope) (r : Code) (g : tree.Range) → IsReady c.world → RangeDeclared c g → BetweenOrdered c.world (range_seen c r want.Free g)
free_range_ordered c r g ready h =
    wanted_ordered c r want.Free g (range_between c r want.Free g)
    (in_ordered c r integer_base (range c g) (reach_of c r want.Free (range c g)) (integer_ordered c.world ready.sound) (reach_ordered c r want.Free g ready tt h))
