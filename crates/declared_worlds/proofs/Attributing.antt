-- The type of an attribute stands in a sound world, whatever is refused in it, and so does the subtype of `'Range`.
use Rattle.std.proofs.Common.{ℕ, ℤ, Bool, true, false, ◌==◌, List, [], ◌∷◌, Option, Some, None}
use Rattle.std.specs.Prelude.{if◌then◌else◌}
use Rattle.ada_values.specs.Scalars.{in_base}
use Rattle.ada_values.specs.declared.place.Place.{Place}
use Rattle.ada_values.specs.declared.values.Value.TheVariants as value
use Rattle.front_codes.specs.declared.codes.Code.TheVariants as code
use Rattle.front_codes.specs.declared.codes.Refusal.{Refusal}
use Rattle.name_numbers.specs.declared.words.Word.{Word}
use Rattle.name_numbers.specs.declared.words.Word.TheVariants as word
use Rattle.typed_units.specs.declared.expressions.Expr.{Expr}
use Rattle.typed_units.specs.declared.expressions.ExprNode.{ExprNode}
use Rattle.typed_units.specs.declared.expressions.ExprNode.TheVariants as node
use Rattle.typed_units.specs.declared.expressions.Step.{Step}
use Rattle.typed_units.specs.declared.operators.Bounds.{Bounds}
use Rattle.typed_units.specs.declared.operators.Object.{Object}
use Rattle.type_base.specs.Scope.{Scope}
use Rattle.type_base.specs.declared.seen.Moment.{Moment}
use Rattle.type_base.specs.declared.seen.Moment.TheVariants as moment
use Rattle.type_base.specs.declared.seen.Seen.{Seen}
use Rattle.type_base.specs.declared.seen.Seen.TheVariants as seen
use Rattle.type_base.specs.declared.seen.Want.{Want}
use Rattle.type_base.specs.declared.seen.Want.TheVariants as want
use Rattle.type_base.specs.declared.world.Form.{Form}
use Rattle.type_base.specs.declared.world.Form.TheVariants as form
use Rattle.type_base.specs.declared.world.Routine.{Routine}
use Rattle.type_base.specs.declared.world.World.{World}
use Rattle.type_base.specs.Demands.{bounds_at, check_in, is_integer, known, made, refused, subtype_of, wanted_integer}
use Rattle.type_base.specs.Lookups.{form_at, routine_at}
use Rattle.type_base.specs.Results.{number_in, universal}
use Rattle.type_base.specs.Standard.{integer_base}
use Rattle.typing_rules.specs.declared.prefix.Mapping.{Mapping}
use Rattle.typing_rules.specs.declared.prefix.Mapping.TheVariants as mapping
use Rattle.typing_rules.specs.declared.prefix.Part.{Part}
use Rattle.typing_rules.specs.declared.prefix.Prefix.{Prefix}
use Rattle.typing_rules.specs.declared.prefix.Prefix.TheVariants as prefix
use Rattle.typing_rules.specs.Attributes.{Bounded, static, known_bounds, of_value, no_array, unclear, attribute_by, bound, bound_at, bound_node, bound_of, bounded, bounded_by, bounds_static, constant_bounded, entry_at, entry_node, is_mapped, left_out, length_at, literal, literal_by, literal_of, mapped, mapped_by, mapping_by, mapping_of, next, next_node, next_of, next_value, old_at, old_node, only_components, part_bounded, position, position_of, range_at, range_by, range_from, result, result_by, result_in, scalar_bound, static_in, subtype_bounded, unfit, value_bounded, value_bounded_by, value_by, value_then, whole_then}
use Rattle.typing_rules.specs.Lookups.{Array, array_at, seen_as, size_of, type_of}
use Rattle.typing_rules.specs.Names.{of_type}
use Rattle.typing_rules.specs.Parts.{Operand}
use Rattle.typing_rules.specs.Values.{part_value, place_of, prefix_fault, seen_of, value_of}
use Rattle.typing_laws.specs.Declared.{IsSound, IsThere}
use Rattle.declared_worlds.proofs.Seen.{TypeThere, either_there, seen_as_there, type_of_there}
use Rattle.declared_worlds.proofs.Naming.{PrefixThere}

-- ---- arrays

abbrev BoundedThere : World → Bounded → Type 0
BoundedThere w (static i b) = Unit {0}
BoundedThere w (known_bounds i b x) = Unit {0}
BoundedThere w (of_value i x) = Unit {0}
BoundedThere w no_array = Unit {0}
BoundedThere w (unclear s) = TypeThere w s

subtype_bounded_there : (w : World) (m : Option Form) → BoundedThere w (subtype_bounded m)
subtype_bounded_there w None = tt
subtype_bounded_there w (Some (form.Array i (Some b) t)) = tt
subtype_bounded_there w (Some (form.Array i None t)) = tt
subtype_bounded_there w (Some (form.Number d s)) = tt
subtype_bounded_there w (Some form.Truth) = tt
subtype_bounded_there w (Some (form.Record i n)) = tt

bounds_static_there : (w : World) (i : ℕ) (x : Expr) (b : Option Bounds) → BoundedThere w (bounds_static i x b)
bounds_static_there w i x (Some b) = tt
bounds_static_there w i x None = tt

constant_bounded_there : (w : World) (x : Expr) (m : Option Array) → BoundedThere w (constant_bounded x m)
constant_bounded_there w x None = tt
constant_bounded_there w x (Some a) = bounds_static_there w a.index x a.bounds

either_bounded : (w : World) (b : Bool) (x y : Bounded) → BoundedThere w x → BoundedThere w y → BoundedThere w (if b then x else y)
either_bounded w true x y h i = h
either_bounded w false x y h i = i

bounded_by_there : (w : World) (x : Expr) (i : ℕ) (b : Option Bounds) (ss : List (Step Expr)) → BoundedThere w (bounded_by x i b ss)
bounded_by_there w x i None [] = tt
bounded_by_there w x i None (s ∷ ss) = tt
bounded_by_there w x i (Some b) [] = tt
bounded_by_there w x i (Some b) (s ∷ ss) = either_bounded w (only_components (s ∷ ss)) (known_bounds i b x) (of_value i x) tt tt

part_bounded_there : (w : World) (g : Part) (m : Option Array) → BoundedThere w (part_bounded w g m)
part_bounded_there w g None = tt
part_bounded_there w g (Some a) = bounded_by_there w (part_value w g) a.index a.bounds g.target.path

bounded_value_there : (w : World) (x : Expr) (m : Option Array) → BoundedThere w (value_bounded_by x m)
bounded_value_there w x None = tt
bounded_value_there w x (Some a) = tt

value_bounded_there : (w : World) (s : Seen) → BoundedThere w (value_bounded w s)
value_bounded_there w (seen.Number n) = tt
value_bounded_there w (seen.Typed t x) = bounded_value_there w x (array_at w (subtype_of x))
value_bounded_there w (seen.Refused f) = tt
value_bounded_there w seen.Unknown = tt

bounded_there : (c : Scope) (p : Place) (f : Prefix) → BoundedThere c.world (bounded c p f)
bounded_there c p (prefix.Subtype k) = subtype_bounded_there c.world (form_at c.world k)
bounded_there c p (prefix.Constant t x) = constant_bounded_there c.world x (array_at c.world (subtype_of x))
bounded_there c p (prefix.Part g) = part_bounded_there c.world g (array_at c.world g.subtype)
bounded_there c p f = value_bounded_there c.world (value_of c p f)

-- ---- `'First`, `'Last`, `'Range`, `'Length`

bound_at_there : (c : Scope) (p : Place) (first : Bool) (b : Bounded) → IsSound c.world → BoundedThere c.world b → TypeThere c.world (bound_at c p first b)
bound_at_there c p first (static i b) sound h = seen_as_there c p (type_of c.world i) (node.Static (value.Int (bound_of first b))) sound
bound_at_there c p first (known_bounds i b x) sound h =
    seen_as_there c p (type_of c.world i) (node.Same (made p (type_of c.world i) (node.Static (value.Int (bound_of first b))))) sound
bound_at_there c p first (of_value i x) sound h = seen_as_there c p (type_of c.world i) (bound_node first x) sound
bound_at_there c p first no_array sound h = tt
bound_at_there c p first (unclear s) sound h = h

scalar_bound_there : (c : Scope) (p : Place) (first : Bool) (k : ℕ) (m : Option Form) → IsSound c.world → TypeThere c.world (scalar_bound c p first k m)
scalar_bound_there c p first k (Some (form.Number d s)) sound = seen_as_there c p k (node.Static (value.Int (bound_of first (record { first = s.lo; last = s.hi })))) sound
scalar_bound_there c p first k (Some form.Truth) sound = bound_at_there c p first (subtype_bounded (Some form.Truth)) sound (subtype_bounded_there c.world (Some form.Truth))
scalar_bound_there c p first k (Some (form.Array i b t)) sound = bound_at_there c p first (subtype_bounded (Some (form.Array i b t))) sound (subtype_bounded_there c.world (Some (form.Array i b t)))
scalar_bound_there c p first k (Some (form.Record i n)) sound = bound_at_there c p first (subtype_bounded (Some (form.Record i n))) sound (subtype_bounded_there c.world (Some (form.Record i n)))
scalar_bound_there c p first k None sound = bound_at_there c p first (subtype_bounded None) sound (subtype_bounded_there c.world None)

bound_there : (c : Scope) (p : Place) (first : Bool) (f : Prefix) → IsSound c.world → TypeThere c.world (bound c p first f)
bound_there c p first (prefix.Subtype k) sound = scalar_bound_there c p first k (form_at c.world k) sound
bound_there c p first f sound = bound_at_there c p first (bounded c p f) sound (bounded_there c p f)

length_at_there : (c : Scope) (v : Want) (p t : Place) (b : Bounded) → IsSound c.world → BoundedThere c.world b → TypeThere c.world (length_at c v p t b)
length_at_there c v p t (static i b) sound h = either_there c.world (in_base universal (size_of b)) (seen.Number (size_of b)) (refused code.TooWide p) tt tt
length_at_there c v p t (known_bounds i b x) sound h = seen_as_there c p (wanted_integer c.world v) (node.Length t x) sound
length_at_there c v p t (of_value i x) sound h = seen_as_there c p (wanted_integer c.world v) (node.Length t x) sound
length_at_there c v p t no_array sound h = tt
length_at_there c v p t (unclear s) sound h = h

range_by_there : (w : World) (i : ℕ) (s u : Seen) → IsThere w i → TypeThere w s → PrefixThere w (range_by i s u)
range_by_there w i (seen.Typed t x) (seen.Typed u y) h j = h
range_by_there w i (seen.Typed t x) (seen.Refused f) h j = j
range_by_there w i (seen.Typed t x) seen.Unknown h j = j
range_by_there w i (seen.Typed t x) (seen.Number n) h j = j
range_by_there w i (seen.Refused f) u h j = tt
range_by_there w i seen.Unknown u h j = tt
range_by_there w i (seen.Number n) u h j = tt

range_from_there : (c : Scope) (p : Place) (i : ℕ) (b : Bounded) → IsSound c.world → BoundedThere c.world b → PrefixThere c.world (range_from c p i b)
range_from_there c p i b sound h =
    range_by_there c.world (type_of c.world i) (bound_at c p true b) (bound_at c p false b) (type_of_there c.world i sound) (bound_at_there c p true b sound h)

range_at_there : (c : Scope) (p : Place) (b : Bounded) → IsSound c.world → BoundedThere c.world b → PrefixThere c.world (range_at c p b)
range_at_there c p (static i b) sound h = range_from_there c p i (static i b) sound tt
range_at_there c p (known_bounds i b x) sound h = range_from_there c p i (known_bounds i b x) sound tt
range_at_there c p (of_value i x) sound h = range_from_there c p i (of_value i x) sound tt
range_at_there c p no_array sound h = tt
range_at_there c p (unclear s) sound h = h

pub range_there : (c : Scope) (p : Place) (f : Prefix) → IsSound c.world → PrefixThere c.world (range_at c p (bounded c p f))
range_there c p f sound = range_at_there c p (bounded c p f) sound (bounded_there c p f)

-- ---- `'Succ`, `'Pred`, `'Pos`, `'Val`

either_prefix : (w : World) (b : Bool) (x y : Prefix) → PrefixThere w x → PrefixThere w y → PrefixThere w (if b then x else y)
either_prefix w true x y h i = h
either_prefix w false x y h i = i

mapping_by_there : (w : World) (p : Place) (m : Mapping) (t : Place) (k : ℕ) (f : Option Form) → PrefixThere w (mapping_by p m t k f)
mapping_by_there w p m t k (Some (form.Number d s)) = either_prefix w (is_mapped m d) (prefix.Mapping m t k) (prefix.Value (refused code.L19 p)) tt tt
mapping_by_there w p m t k (Some form.Truth) = tt
mapping_by_there w p m t k (Some (form.Array i b j)) = tt
mapping_by_there w p m t k (Some (form.Record i n)) = tt
mapping_by_there w p m t k None = tt

unfit_there : (w : World) (p : Place) (s : Seen) → TypeThere w (unfit p s)
unfit_there w p (seen.Refused f) = tt
unfit_there w p seen.Unknown = tt
unfit_there w p (seen.Number n) = tt
unfit_there w p (seen.Typed t x) = tt

mapping_there : (c : Scope) (p : Place) (m : Mapping) (t : Place) (f : Prefix) → PrefixThere c.world (mapping_of c p m t f)
mapping_there c p m t (prefix.Subtype k) = mapping_by_there c.world p m t k (form_at c.world k)
mapping_there c p m t f = unfit_there c.world p (value_of c p f)

static_in_there : (c : Scope) (p : Place) (k : ℕ) (n : ℤ) (m : Option Form) → IsSound c.world → TypeThere c.world (static_in c p k n m)
static_in_there c p k n (Some (form.Number d s)) sound =
    either_there c.world (in_base s n) (seen_as c p k (node.Static (value.Int n))) (refused code.L29 p) (seen_as_there c p k (node.Static (value.Int n)) sound) tt
static_in_there c p k n (Some form.Truth) sound = tt
static_in_there c p k n (Some (form.Array i b t)) sound = tt
static_in_there c p k n (Some (form.Record i l)) sound = tt
static_in_there c p k n None sound = tt

next_of_there : (c : Scope) (p : Place) (up : Bool) (t : Place) (k : ℕ) (x : Expr) (m : Option ℤ) → IsSound c.world → TypeThere c.world (next_of c p up t k x m)
next_of_there c p up t k x (Some n) sound = static_in_there c p k (next up n) (form_at c.world k) sound
next_of_there c p up t k x None sound = seen_as_there c p k (next_node up t x) sound

next_there : (c : Scope) (p : Place) (up : Bool) (t : Place) (k : ℕ) (s : Seen) → IsSound c.world → TypeThere c.world (next_value c p up t k s)
next_there c p up t k (seen.Typed u x) sound = next_of_there c p up t u x (number_in x) sound
next_there c p up t k (seen.Refused f) sound = tt
next_there c p up t k seen.Unknown sound = tt
next_there c p up t k (seen.Number n) sound = tt

position_of_there : (c : Scope) (p : Place) (x : Expr) (m : Option ℤ) → IsSound c.world → TypeThere c.world (position_of c p x m)
position_of_there c p x (Some n) sound = tt
position_of_there c p x None sound = seen_as_there c p integer_base (node.Same x) sound

position_there : (c : Scope) (p : Place) (s : Seen) → IsSound c.world → TypeThere c.world (position c p s)
position_there c p (seen.Typed u x) sound = position_of_there c p x (number_in x) sound
position_there c p (seen.Refused f) sound = tt
position_there c p seen.Unknown sound = tt
position_there c p (seen.Number n) sound = tt

literal_of_there : (c : Scope) (p : Place) (k : ℕ) (x : Expr) (m : Option ℤ) → IsSound c.world → TypeThere c.world (literal_of c p k x m)
literal_of_there c p k x (Some n) sound = static_in_there c p k n (form_at c.world k) sound
literal_of_there c p k x None sound = seen_as_there c p k (node.Convert (check_in (bounds_at c.world k) (known c.world x)) x) sound

literal_by_there : (c : Scope) (p : Place) (k : ℕ) (q : Place) (x : Expr) (m : Option Form) → IsSound c.world → TypeThere c.world (literal_by c p k q x m)
literal_by_there c p k q x None sound = tt
literal_by_there c p k q x (Some f) sound = either_there c.world (is_integer f) (literal_of c p k x (number_in x)) (refused code.L11 q) (literal_of_there c p k x (number_in x) sound) tt

literal_there : (c : Scope) (p : Place) (k : ℕ) (q : Place) (s : Seen) → IsSound c.world → TypeThere c.world (literal c p k q s)
literal_there c p k q (seen.Refused f) sound = tt
literal_there c p k q seen.Unknown sound = tt
literal_there c p k q (seen.Number n) sound = static_in_there c p k n (form_at c.world k) sound
literal_there c p k q (seen.Typed u x) sound = literal_by_there c p k q x (form_at c.world u) sound

mapped_by_there : (c : Scope) (p : Place) (m : Mapping) (t : Place) (k : ℕ) (o : Operand) → IsSound c.world → TypeThere c.world (mapped_by c p m t k o)
mapped_by_there c p mapping.Succ t k o sound = next_there c p true t k (of_type c code.L11 k (place_of c o) (seen_of c o (want.Subtype (type_of c.world k)))) sound
mapped_by_there c p mapping.Pred t k o sound = next_there c p false t k (of_type c code.L11 k (place_of c o) (seen_of c o (want.Subtype (type_of c.world k)))) sound
mapped_by_there c p mapping.Pos t k o sound = position_there c p (of_type c code.L11 k (place_of c o) (seen_of c o (want.Subtype (type_of c.world k)))) sound
mapped_by_there c p mapping.Val t k o sound = literal_there c p (type_of c.world k) (place_of c o) (seen_of c o want.Free) sound

pub mapped_there : (c : Scope) (p : Place) (m : Mapping) (t : Place) (k : ℕ) (o : Option Operand) → IsSound c.world → TypeThere c.world (mapped c p m t k o)
mapped_there c p m t k (Some o) sound = mapped_by_there c p m t k o sound
mapped_there c p m t k None sound = tt

-- ---- `'Old`, `'Loop_Entry`, `'Result`

value_by_there : (c : Scope) (p : Place) (k : ℕ) (m : Option (ExprNode Expr)) → IsSound c.world → TypeThere c.world (value_by c p k m)
value_by_there c p k (Some n) sound = seen_as_there c p k n sound
value_by_there c p k None sound = tt

whole_there : (c : Scope) (p : Place) (g : Part) (f : Object → Option (ExprNode Expr)) (ss : List (Step Expr)) → IsSound c.world → TypeThere c.world (whole_then c p g f ss)
whole_there c p g f [] sound = value_by_there c p g.subtype (f g.target.object) sound
whole_there c p g f (s ∷ ss) sound = tt

then_value_there : (c : Scope) (p : Place) (f : Object → Option (ExprNode Expr)) (g : Prefix) → IsSound c.world → PrefixThere c.world g → TypeThere c.world (value_then c p f g)
then_value_there c p f (prefix.Part g) sound h = whole_there c p g f g.target.path sound
then_value_there c p f (prefix.Constant t x) sound h = h
then_value_there c p f g sound h = unfit_there c.world p (value_of c p g)

old_there : (c : Scope) (p : Place) (f : Prefix) (m : Moment) → IsSound c.world → PrefixThere c.world f → TypeThere c.world (old_at c p f m)
old_there c p f moment.InPost sound h = then_value_there c p (old_node p) f sound h
old_there c p f (moment.InLoop l n) sound h = unfit_there c.world p (value_of c p f)
old_there c p f moment.Elsewhere sound h = unfit_there c.world p (value_of c p f)

entry_there : (c : Scope) (p : Place) (f : Prefix) (m : Moment) → IsSound c.world → PrefixThere c.world f → TypeThere c.world (entry_at c p f m)
entry_there c p f moment.InPost sound h = unfit_there c.world p (value_of c p f)
entry_there c p f (moment.InLoop l n) sound h = then_value_there c p (entry_node p l n) f sound h
entry_there c p f moment.Elsewhere sound h = unfit_there c.world p (value_of c p f)

result_in_there : (c : Scope) (p : Place) (m : Option ℕ) → IsSound c.world → TypeThere c.world (result_in c p m)
result_in_there c p (Some k) sound = seen_as_there c p k (node.Result p) sound
result_in_there c p None sound = tt

result_by_there : (c : Scope) (p : Place) (q : ℕ) (own : Option ℕ) (m : Moment) (r : Option Routine) → IsSound c.world → TypeThere c.world (result_by c p q own m r)
result_by_there c p q own m None sound = tt
result_by_there c p q (Some s) moment.InPost (Some r) sound = either_there c.world (s == q) (result_in c p r.result) (refused code.L19 p) (result_in_there c p r.result sound) tt
result_by_there c p q (Some s) (moment.InLoop l n) (Some r) sound = tt
result_by_there c p q (Some s) moment.Elsewhere (Some r) sound = tt
result_by_there c p q None m (Some r) sound = tt

result_value_there : (c : Scope) (p : Place) (f : Prefix) → IsSound c.world → TypeThere c.world (result c p f)
result_value_there c p (prefix.Routine q) sound = result_by_there c p q c.own c.moment (routine_at c.world q) sound
result_value_there c p f sound = unfit_there c.world p (value_of c p f)

-- ---- all of them

left_out_there : (w : World) (p : Place) (m : Option Refusal) → PrefixThere w (left_out p m)
left_out_there w p (Some f) = tt
left_out_there w p None = tt

pub attribute_there : (c : Scope) (v : Want) (p : Place) (f : Prefix) (t : Place) (m : Option Word) → IsSound c.world → PrefixThere c.world f → PrefixThere c.world (attribute_by c v p f t m)
attribute_there c v p f t (Some word.First) sound h = bound_there c p true f sound
attribute_there c v p f t (Some word.Last) sound h = bound_there c p false f sound
attribute_there c v p f t (Some word.Length) sound h = length_at_there c v p t (bounded c p f) sound (bounded_there c p f)
attribute_there c v p f t (Some word.Succ) sound h = mapping_there c p mapping.Succ t f
attribute_there c v p f t (Some word.Pred) sound h = mapping_there c p mapping.Pred t f
attribute_there c v p f t (Some word.Pos) sound h = mapping_there c p mapping.Pos t f
attribute_there c v p f t (Some word.Val) sound h = mapping_there c p mapping.Val t f
attribute_there c v p f t (Some word.Old) sound h = old_there c p f c.moment sound h
attribute_there c v p f t (Some word.LoopEntry) sound h = entry_there c p f c.moment sound h
attribute_there c v p f t (Some word.Result) sound h = result_value_there c p f sound
attribute_there c v p f t m sound h = left_out_there c.world p (prefix_fault f)
