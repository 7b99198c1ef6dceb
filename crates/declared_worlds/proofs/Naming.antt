-- The type of what a name is stands in a sound world, whatever is refused in it: of entities, components, items, conversions and calls.
use Rattle.std.proofs.Common.{ℕ, ℤ, false, List, [], ◌∷◌, Option, Some, None}
use Rattle.ada_values.specs.Scalars.{in_base}
use Rattle.ada_values.specs.declared.place.Place.{Place}
use Rattle.ada_values.specs.declared.values.Value.{Value}
use Rattle.ada_values.specs.declared.values.Value.TheVariants as value
use Rattle.front_codes.specs.declared.codes.Code.TheVariants as code
use Rattle.front_codes.specs.declared.codes.Refusal.{Refusal}
use Rattle.name_library.specs.declared.links.Link.{Link}
use Rattle.typed_units.specs.declared.expressions.Argument.{Argument}
use Rattle.typed_units.specs.declared.expressions.Expr.{Expr, out-Expr}
use Rattle.typed_units.specs.declared.expressions.ExprNode.{ExprNode}
use Rattle.typed_units.specs.declared.expressions.ExprNode.TheVariants as node
use Rattle.typed_units.specs.declared.expressions.Indexed.{Indexed}
use Rattle.typed_units.specs.declared.operators.Bounds.{Bounds}
use Rattle.typed_units.specs.declared.operators.Object.{Object}
use Rattle.type_base.specs.Scope.{Scope}
use Rattle.type_base.specs.declared.entities.Access.{Access}
use Rattle.type_base.specs.declared.entities.Entity.{Entity}
use Rattle.type_base.specs.declared.entities.Entity.TheVariants as entity
use Rattle.type_base.specs.declared.seen.Seen.{Seen}
use Rattle.type_base.specs.declared.seen.Seen.TheVariants as seen
use Rattle.type_base.specs.declared.seen.Want.TheVariants as want
use Rattle.type_base.specs.declared.world.Component.{Component}
use Rattle.type_base.specs.declared.world.Form.{Form}
use Rattle.type_base.specs.declared.world.Form.TheVariants as form
use Rattle.type_base.specs.declared.world.Formal.{Formal}
use Rattle.type_base.specs.declared.world.Routine.{Routine}
use Rattle.type_base.specs.declared.world.World.{World}
use Rattle.type_base.specs.Demands.{check_of, is_whole, made, refused, subtype_of}
use Rattle.type_base.specs.Lookups.{constant_at, form_at, routine_at, type_at}
use Rattle.typing_rules.specs.declared.prefix.Found.{Found}
use Rattle.typing_rules.specs.declared.prefix.Found.TheVariants as found
use Rattle.typing_rules.specs.declared.prefix.Part.{Part}
use Rattle.typing_rules.specs.declared.prefix.Prefix.{Prefix}
use Rattle.typing_rules.specs.declared.prefix.Prefix.TheVariants as prefix
use Rattle.typing_rules.specs.Calls.{arguments, operand_of}
use Rattle.typing_rules.specs.Lookups.{Array, array_at, components_at, entity_by, place_among, scalar_value, seen_as, type_of}
use Rattle.typing_rules.specs.Names.{after_unknown, array_item, beside, call_by, component, component_of, component_part, conversion, conversion_of, convertible, converted, function_call, index_of, item_of, number_converted, of_same, operand_beside, part_component, part_item, record_component, routine_call, selected_by, selection, static_or, typed_converted, universal_converted, unless_refused, value_component, value_item}
use Rattle.typing_rules.specs.Parts.{Arg, Operand}
use Rattle.typing_rules.specs.Values.{call_value, component_subtype, constant_by, entity_prefix, formals_of, no_arguments, no_function, object_by, place_of, prefix_fault, routine_value, seen_of, value_of}
use Rattle.typing_laws.specs.Declared.{IsSound, IsThere}
use Rattle.typing_laws.proofs.Standing.{KindThere, kind_there}
use Rattle.declared_worlds.proofs.Seen.{TypeThere, either_there, seen_as_there, then_there, type_of_there}

-- ---- what a name is so far

abbrev pub PrefixThere : World → Prefix → Type 0
PrefixThere w prefix.Package = Unit {0}
PrefixThere w (prefix.Subtype k) = Unit {0}
PrefixThere w (prefix.Routine q) = Unit {0}
PrefixThere w (prefix.Called q as') = Unit {0}
PrefixThere w (prefix.Mapping m t k) = Unit {0}
PrefixThere w (prefix.Range b) = IsThere w b.subtype
PrefixThere w (prefix.Constant t x) = IsThere w t
PrefixThere w (prefix.Part g) = Unit {0}
PrefixThere w (prefix.Value s) = TypeThere w s

no_function_there : (w : World) (p : Place) (x : Found (List (Argument Expr))) → TypeThere w (no_function p x)
no_function_there w p (found.Refused f) = tt
no_function_there w p found.Unknown = tt
no_function_there w p (found.Is as') = tt

call_there : (c : Scope) (p : Place) (q : ℕ) (k : Option ℕ) (x : Found (List (Argument Expr))) → IsSound c.world → TypeThere c.world (call_value c p q k x)
call_there c p q (Some k) x sound = then_there c.world x (λ as'. seen_as c p k (node.Call p q as')) (λ as'. seen_as_there c p k (node.Call p q as') sound)
call_there c p q None x sound = no_function_there c.world p x

routine_there : (c : Scope) (p : Place) (q : ℕ) (m : Option Routine) → IsSound c.world → TypeThere c.world (routine_value c p q m)
routine_there c p q (Some r) sound = call_there c p q r.result (no_arguments p (formals_of c.world r)) sound
routine_there c p q None sound = tt

pub value_there : (c : Scope) (p : Place) (f : Prefix) → IsSound c.world → PrefixThere c.world f → TypeThere c.world (value_of c p f)
value_there c p prefix.Package sound h = tt
value_there c p (prefix.Subtype k) sound h = tt
value_there c p (prefix.Routine q) sound h = routine_there c p q (routine_at c.world q) sound
value_there c p (prefix.Called q as') sound h = no_function_there c.world p as'
value_there c p (prefix.Mapping m t k) sound h = tt
value_there c p (prefix.Range b) sound h = tt
value_there c p (prefix.Constant t x) sound h = h
value_there c p (prefix.Part g) sound h = type_of_there c.world g.subtype sound
value_there c p (prefix.Value s) sound h = h

-- ---- what a name begins with

constant_there : (w : World) (p : Place) (k : ℕ) (v : Option Value) (m : Option ℕ) → KindThere w m → PrefixThere w (constant_by p k v m)
constant_there w p k (Some v) (Some t) h = h
constant_there w p k (Some v) None h = tt
constant_there w p k None (Some t) h = tt
constant_there w p k None None h = tt

object_there : (w : World) (p : Place) (k : ℕ) (o : Object) (a : Access) (m : Option ℕ) → PrefixThere w (object_by p k o a m)
object_there w p k o a (Some t) = tt
object_there w p k o a None = tt

pub entity_there : (c : Scope) (p : Place) (e : Entity) → IsSound c.world → PrefixThere c.world (entity_prefix c p e)
entity_there c p entity.Unknown sound = tt
entity_there c p entity.Package sound = tt
entity_there c p (entity.Subtype k) sound = tt
entity_there c p (entity.Routine q) sound = tt
entity_there c p (entity.Number n) sound = tt
entity_there c p (entity.Literal k n) sound = seen_as_there c p k (node.Static (scalar_value k n)) sound
entity_there c p (entity.Static k n) sound = constant_there c.world p k (Some (scalar_value (type_of c.world k) n)) (type_at c.world k) (kind_there c.world k sound)
entity_there c p (entity.Constant k n) sound = constant_there c.world p k (constant_at c.world n) (type_at c.world k) (kind_there c.world k sound)
entity_there c p (entity.Object k o a) sound = object_there c.world p k o a (type_at c.world k)

-- ---- components

part_component_by : (w : World) (p : Place) (g : Part) (cs : List Component) (n : Option ℕ) → PrefixThere w (component_part p g cs n)
part_component_by w p g cs None = tt
part_component_by w p g cs (Some n) = tt

part_component_there : (w : World) (p : Place) (m : ℕ) (g : Part) (cs : Option (List Component)) → PrefixThere w (part_component p m g cs)
part_component_there w p m g (Some cs) = part_component_by w p g cs (place_among cs m 0)
part_component_there w p m g None = tt

component_by_there : (c : Scope) (p : Place) (x : Expr) (cs : List Component) (n : Option ℕ) → IsSound c.world → TypeThere c.world (component_of c p x cs n)
component_by_there c p x cs None sound = tt
component_by_there c p x cs (Some n) sound = seen_as_there c p (component_subtype (Some cs) n) (node.Component x n) sound

record_component_there : (c : Scope) (p : Place) (m : ℕ) (x : Expr) (cs : Option (List Component)) → IsSound c.world → TypeThere c.world (record_component c p m x cs)
record_component_there c p m x (Some cs) sound = component_by_there c p x cs (place_among cs m 0) sound
record_component_there c p m x None sound = tt

value_component_there : (c : Scope) (p : Place) (m : ℕ) (s : Seen) → IsSound c.world → TypeThere c.world (value_component c p m s)
value_component_there c p m (seen.Refused f) sound = tt
value_component_there c p m seen.Unknown sound = tt
value_component_there c p m (seen.Number n) sound = tt
value_component_there c p m (seen.Typed t x) sound = record_component_there c p m x (components_at c.world (subtype_of x)) sound

component_there : (c : Scope) (p : Place) (m : ℕ) (f : Prefix) → IsSound c.world → PrefixThere c.world (component c p m f)
component_there c p m (prefix.Part g) sound = part_component_there c.world p m g (components_at c.world g.subtype)
component_there c p m f sound = value_component_there c p m (value_of c p f) sound

unless_there : (w : World) (o : Option Refusal) (f : Prefix) → PrefixThere w f → PrefixThere w (unless_refused o f)
unless_there w (Some g) f h = tt
unless_there w None f h = h

selected_there : (c : Scope) (p : Place) (f : Prefix) (at : ℕ) (l : Option Link) → IsSound c.world → PrefixThere c.world (selected_by c p f at l)
selected_there c p f at (Some l) sound = unless_there c.world (prefix_fault f) (entity_prefix c p (entity_by c (Some l))) (entity_there c p (entity_by c (Some l)) sound)
selected_there c p f at None sound = component_there c p (c.name at) f sound

pub selection_there : (c : Scope) (p : Place) (f : Prefix) (at : ℕ) → IsSound c.world → PrefixThere c.world (selection c p f at)
selection_there c p f at sound = selected_there c p f at (c.link at) sound

-- ---- items

item_there : (w : World) (g : Part) (a : Array) (x : Found (Indexed Expr)) → PrefixThere w (item_of g a x)
item_there w g a (found.Refused f) = tt
item_there w g a found.Unknown = tt
item_there w g a (found.Is i) = tt

pub part_item_there : (c : Scope) (p : Place) (g : Part) (as' : List Arg) (m : Option Array) → PrefixThere c.world (part_item c p g as' m)
part_item_there c p g as' (Some a) = item_there c.world g a (index_of c p a as')
part_item_there c p g as' None = tt

array_item_there : (c : Scope) (p : Place) (x : Expr) (as' : List Arg) (m : Option Array) → IsSound c.world → TypeThere c.world (array_item c p x as' m)
array_item_there c p x as' (Some a) sound = then_there c.world (index_of c p a as') (λ i. seen_as c p a.item (node.Item x i)) (λ i. seen_as_there c p a.item (node.Item x i) sound)
array_item_there c p x as' None sound = tt

beside_there : (w : World) (s u : Seen) → TypeThere w u → TypeThere w (beside s u)
beside_there w (seen.Refused f) (seen.Refused g) h = tt
beside_there w (seen.Refused f) seen.Unknown h = tt
beside_there w (seen.Refused f) (seen.Number n) h = tt
beside_there w (seen.Refused f) (seen.Typed t x) h = tt
beside_there w seen.Unknown u h = h
beside_there w (seen.Number n) u h = h
beside_there w (seen.Typed t x) u h = h

operand_beside_there : (c : Scope) (o : Option Operand) (s : Seen) → TypeThere c.world s → TypeThere c.world (operand_beside c o s)
operand_beside_there c (Some o) s h = beside_there c.world (seen_of c o want.Unknown) s h
operand_beside_there c None s h = h

pub after_unknown_there : (c : Scope) (as' : List Arg) → TypeThere c.world (after_unknown c as')
after_unknown_there c [] = tt
after_unknown_there c (a ∷ as') = operand_beside_there c (operand_of a) (after_unknown c as') (after_unknown_there c as')

pub value_item_there : (c : Scope) (p : Place) (as' : List Arg) (s : Seen) → IsSound c.world → TypeThere c.world (value_item c p as' s)
value_item_there c p as' (seen.Refused f) sound = tt
value_item_there c p as' seen.Unknown sound = after_unknown_there c as'
value_item_there c p as' (seen.Number n) sound = tt
value_item_there c p as' (seen.Typed t x) sound = array_item_there c p x as' (array_at c.world (subtype_of x)) sound

-- ---- conversions

static_or_there : (c : Scope) (p : Place) (k : ℕ) (x : Expr) (b : Option Bounds) (v : Value) → IsSound c.world → TypeThere c.world (static_or c p k x b v)
static_or_there c p k x None v sound = seen_as_there c p k (node.Static v) sound
static_or_there c p k x (Some b) v sound = seen_as_there c p k (node.Convert (Some b) x) sound

of_same_there : (c : Scope) (p : Place) (k : ℕ) (x : Expr) → IsSound c.world → TypeThere c.world (of_same c p k x)
of_same_there c p k x sound = seen_as_there c p k (node.Convert (check_of c.world k x) x) sound

number_converted_there : (c : Scope) (p : Place) (k : ℕ) (x : Expr) (n : ℤ) (m : Option Form) → IsSound c.world → TypeThere c.world (number_converted c p k x n m)
number_converted_there c p k x n (Some (form.Number d s)) sound =
    either_there c.world (in_base s n) (static_or c p k x (check_of c.world k x) (value.Int n)) (refused code.L29 p) (static_or_there c p k x (check_of c.world k x) (value.Int n) sound) tt
number_converted_there c p k x n (Some form.Truth) sound = of_same_there c p k x sound
number_converted_there c p k x n (Some (form.Array i b t)) sound = of_same_there c p k x sound
number_converted_there c p k x n (Some (form.Record i l)) sound = of_same_there c p k x sound
number_converted_there c p k x n None sound = of_same_there c p k x sound

converted_there : (c : Scope) (p : Place) (k : ℕ) (x : Expr) (n : ExprNode Expr) → IsSound c.world → TypeThere c.world (converted c p k x n)
converted_there c p k x (node.Static (value.Int n)) sound = number_converted_there c p k x n (form_at c.world k) sound
converted_there c p k x (node.Static (value.Bool b)) sound = seen_as_there c p k (node.Static (value.Bool b)) sound
converted_there c p k x n sound = of_same_there c p k x sound

typed_converted_there : (c : Scope) (p : Place) (k : ℕ) (q : Place) (m : Option ℕ) (u : ℕ) (x : Expr) → IsSound c.world → TypeThere c.world (typed_converted c p k q m u x)
typed_converted_there c p k q None u x sound = tt
typed_converted_there c p k q (Some t) u x sound =
    either_there c.world (convertible t u (form_at c.world k) (form_at c.world u)) (converted c p k x (out-Expr x).node) (refused code.L18 q) (converted_there c p k x (out-Expr x).node sound) tt

universal_converted_there : (c : Scope) (p : Place) (k : ℕ) (q : Place) (n : ℤ) (m : Option ℕ) (f : Option Form) → IsSound c.world → TypeThere c.world (universal_converted c p k q n m f)
universal_converted_there c p k q n (Some t) (Some (form.Number d s)) sound =
    let x = made q t (node.Static (value.Int n)) in
    either_there c.world (is_whole d) (number_converted c p k x n (Some (form.Number d s))) (refused code.L18 q) (number_converted_there c p k x n (Some (form.Number d s)) sound) tt
universal_converted_there c p k q n (Some t) (Some form.Truth) sound = tt
universal_converted_there c p k q n (Some t) (Some (form.Array i b j)) sound = tt
universal_converted_there c p k q n (Some t) (Some (form.Record i l)) sound = tt
universal_converted_there c p k q n (Some t) None sound = tt
universal_converted_there c p k q n None (Some f) sound = tt
universal_converted_there c p k q n None None sound = tt

conversion_there : (c : Scope) (p : Place) (k : ℕ) (q : Place) (s : Seen) → IsSound c.world → TypeThere c.world (conversion c p k q s)
conversion_there c p k q (seen.Refused f) sound = tt
conversion_there c p k q seen.Unknown sound = tt
conversion_there c p k q (seen.Number n) sound = universal_converted_there c p k q n (type_at c.world k) (form_at c.world k) sound
conversion_there c p k q (seen.Typed u x) sound = typed_converted_there c p k q (type_at c.world k) u x sound

pub conversion_of_there : (c : Scope) (p : Place) (k : ℕ) (o : Option Operand) → IsSound c.world → TypeThere c.world (conversion_of c p k o)
conversion_of_there c p k (Some o) sound = conversion_there c p k (place_of c o) (seen_of c o want.Free) sound
conversion_of_there c p k None sound = tt

-- ---- calls

function_there : (c : Scope) (p : Place) (q k : ℕ) (as' : List Arg) (fs : List Formal) (m : Option Array) → IsSound c.world → PrefixThere c.world (function_call c p q k as' fs m)
function_there c p q k as' [] (Some a) sound = value_item_there c p as' (call_value c p q (Some k) (found.Is [])) sound
function_there c p q k as' [] None sound = call_there c p q (Some k) (arguments c p [] [] false (found.Is []) as') sound
function_there c p q k as' (f ∷ fs) m sound = call_there c p q (Some k) (arguments c p (f ∷ fs) [] false (found.Is []) as') sound

call_by_there : (c : Scope) (p : Place) (q : ℕ) (as' : List Arg) (k : Option ℕ) (fs : List Formal) → IsSound c.world → PrefixThere c.world (call_by c p q as' k fs)
call_by_there c p q as' (Some k) fs sound = function_there c p q k as' fs (array_at c.world k) sound
call_by_there c p q as' None fs sound = tt

pub routine_call_there : (c : Scope) (p : Place) (q : ℕ) (as' : List Arg) (m : Option Routine) → IsSound c.world → PrefixThere c.world (routine_call c p q as' m)
routine_call_there c p q as' (Some r) sound = call_by_there c p q as' r.result (formals_of c.world r) sound
routine_call_there c p q as' None sound = after_unknown_there c as'
