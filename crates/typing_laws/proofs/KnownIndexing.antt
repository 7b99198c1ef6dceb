-- Conversions, indexes and calls whose parts are known are known.
use Rattle.std.proofs.Common.{◌≡◌, refl, sym, ◌∙◌, ap, subst, ℕ, ℤ, false, List, [], ◌∷◌, Option, Some, None}
use Rattle.ada_values.specs.Scalars.{in_base}
use Rattle.ada_values.specs.declared.place.Place.{Place}
use Rattle.ada_values.specs.declared.values.Value.{Value}
use Rattle.ada_values.specs.declared.values.Value.TheVariants as value
use Rattle.front_codes.specs.declared.codes.Code.TheVariants as code
use Rattle.typed_units.specs.declared.expressions.Expr.{Expr, out-Expr}
use Rattle.typed_units.specs.declared.expressions.ExprNode.{ExprNode}
use Rattle.typed_units.specs.declared.expressions.ExprNode.TheVariants as node
use Rattle.typed_units.specs.declared.expressions.Indexed.{Indexed}
use Rattle.typed_units.specs.declared.expressions.Step.TheVariants as step
use Rattle.typed_units.specs.declared.operators.Bounds.{Bounds}
use Rattle.type_base.specs.Scope.{Scope}
use Rattle.type_base.specs.declared.seen.Seen.{Seen}
use Rattle.type_base.specs.declared.seen.Seen.TheVariants as seen
use Rattle.type_base.specs.declared.seen.Want.TheVariants as want
use Rattle.type_base.specs.declared.world.Form.{Form}
use Rattle.type_base.specs.declared.world.Form.TheVariants as form
use Rattle.type_base.specs.declared.world.Formal.{Formal}
use Rattle.type_base.specs.declared.world.Routine.{Routine}
use Rattle.type_base.specs.declared.world.Subtype.{Subtype}
use Rattle.type_base.specs.declared.world.World.{World}
use Rattle.type_base.specs.Demands.{broken, check_of, is_whole, made, refused, subtype_of}
use Rattle.type_base.specs.Lookups.{form_at, form_in, routine_at, type_in}
use Rattle.expression_rules.specs.Known.{IsKnown}
use Rattle.typing_rules.specs.declared.prefix.Found.{Found}
use Rattle.typing_rules.specs.declared.prefix.Found.TheVariants as found
use Rattle.typing_rules.specs.declared.prefix.Part.{Part}
use Rattle.typing_rules.specs.declared.prefix.Prefix.{Prefix}
use Rattle.typing_rules.specs.Calls.{arguments}
use Rattle.typing_rules.specs.Lookups.{Array, array_at, seen_as}
use Rattle.typing_rules.specs.Names.{array_item, call_by, conversion, conversion_of, converted, convertible, function_call, index_by, index_of, index_placed, item_of, number_converted, of_same, of_type, only_operand, part_item, routine_call, static_or, typed_converted, universal_converted, value_item}
use Rattle.typing_rules.specs.Parts.{Arg, Operand}
use Rattle.typing_rules.specs.Values.{call_value, formals_of, item_subtype, place_of, seen_of, value_of}
use Rattle.typing_laws.specs.Declared.{FormalsThere, IsSound, IsThere, ResultThere, RoutineThere}
use Rattle.typing_laws.proofs.Standing.{ArrayThere, IsFound, IsPlaced, array_there, either_known, formals_there, of_placed, seen_as_known, spoiled_found, then_known}
use Rattle.typing_laws.proofs.KnownParts.{ArgsKnown, MaybeKnown, PartThere, PrefixKnown, call_value_known, end_more, only_known, operand_known, value_known}
use Rattle.typing_laws.proofs.KnownArguments.{arguments_found}

-- ---- conversions

same_known : (c : Scope) (p : Place) (k : ℕ) (x : Expr) → IsSound c.world → IsThere c.world k → IsKnown c.world (of_same c p k x)
same_known c p k x sound h = seen_as_known c p k (node.Convert (check_of c.world k x) x) sound h

static_or_known : (c : Scope) (p : Place) (k : ℕ) (x : Expr) (b : Option Bounds) (v : Value) → IsSound c.world → IsThere c.world k → IsKnown c.world (static_or c p k x b v)
static_or_known c p k x None v sound h = seen_as_known c p k (node.Static v) sound h
static_or_known c p k x (Some b) v sound h = seen_as_known c p k (node.Convert (Some b) x) sound h

number_converted_known : (c : Scope) (p : Place) (k : ℕ) (x : Expr) (n : ℤ) (m : Option Form) → IsSound c.world → IsThere c.world k → IsKnown c.world (number_converted c p k x n m)
number_converted_known c p k x n (Some (form.Number d s)) sound h =
    let v = static_or c p k x (check_of c.world k x) (value.Int n) in
    either_known c.world (in_base s n) v (refused code.L29 p) (static_or_known c p k x (check_of c.world k x) (value.Int n) sound h) tt
number_converted_known c p k x n (Some form.Truth) sound h = same_known c p k x sound h
number_converted_known c p k x n (Some (form.Array i b t)) sound h = same_known c p k x sound h
number_converted_known c p k x n (Some (form.Record i m)) sound h = same_known c p k x sound h
number_converted_known c p k x n None sound h = same_known c p k x sound h

converted_known : (c : Scope) (p : Place) (k : ℕ) (x : Expr) (n : ExprNode Expr) → IsSound c.world → IsThere c.world k → IsKnown c.world (converted c p k x n)
converted_known c p k x (node.Static (value.Int n)) sound h = number_converted_known c p k x n (form_at c.world k) sound h
converted_known c p k x (node.Static (value.Bool b)) sound h = seen_as_known c p k (node.Static (value.Bool b)) sound h
converted_known c p k x n sound h = same_known c p k x sound h

typed_converted_known : (c : Scope) (p : Place) (k : ℕ) (q : Place) (t u : ℕ) (x : Expr) → IsSound c.world → IsThere c.world k → IsKnown c.world (typed_converted c p k q (Some t) u x)
typed_converted_known c p k q t u x sound h =
    either_known c.world (convertible t u (form_at c.world k) (form_at c.world u)) (converted c p k x (out-Expr x).node) (refused code.L18 q) (converted_known c p k x (out-Expr x).node sound h) tt

universal_known : (c : Scope) (p : Place) (k : ℕ) (q : Place) (n : ℤ) (t : ℕ) (f : Form) → IsSound c.world → IsThere c.world k → IsKnown c.world (universal_converted c p k q n (Some t) (Some f))
universal_known c p k q n t (form.Number d s) sound h =
    let x = made q t (node.Static (value.Int n)) in
    either_known c.world (is_whole d) (number_converted c p k x n (Some (form.Number d s))) (refused code.L18 q) (number_converted_known c p k x n (Some (form.Number d s)) sound h) tt
universal_known c p k q n t form.Truth sound h = tt
universal_known c p k q n t (form.Array i b j) sound h = tt
universal_known c p k q n t (form.Record i m) sound h = tt

conversion_known : (c : Scope) (p : Place) (k : ℕ) (q : Place) (s : Seen) → IsSound c.world → IsThere c.world k → IsKnown c.world s → IsKnown c.world (conversion c p k q s)
conversion_known c p k q (seen.Refused f) sound h i = tt
conversion_known c p k q seen.Unknown sound h i = absurd i
conversion_known c p k q (seen.Number n) sound h i =
    subst (λ (m : Option Subtype). IsKnown c.world (universal_converted c p k q n (type_in m) (form_in m))) (sym h.is) (universal_known c p k q n h.subtype.of h.subtype.form sound h)
conversion_known c p k q (seen.Typed u x) sound h i =
    subst (λ (m : Option Subtype). IsKnown c.world (typed_converted c p k q (type_in m) u x)) (sym h.is) (typed_converted_known c p k q h.subtype.of u x sound h)

conversion_of_known : (c : Scope) (p : Place) (k : ℕ) (o : Option Operand) → IsSound c.world → IsThere c.world k → MaybeKnown c.world o → IsKnown c.world (conversion_of c p k o)
conversion_of_known c p k (Some o) sound h i = conversion_known c p k (place_of c o) (seen_of c o want.Free) sound h (operand_known c o want.Free sound i tt)
conversion_of_known c p k None sound h i = tt

-- ---- indexes

index_found : (c : Scope) (b : Option Bounds) (s : Seen) → IsPlaced c.world s → IsFound (index_placed c b s)
index_found c b (seen.Refused f) h = tt
index_found c b seen.Unknown h = absurd h
index_found c b (seen.Number n) h = absurd h
index_found c b (seen.Typed t x) h = tt

index_by_found : (c : Scope) (a : Array) (q : Place) (o : Option Operand) → IsSound c.world → IsThere c.world a.index → MaybeKnown c.world o → IsFound (index_by c a q o)
index_by_found c a q (Some o) sound h i =
    let s = seen_of c o (want.Subtype a.index) in
    index_found c a.bounds (of_type c code.L14 a.index (place_of c o) s) (of_placed c code.L14 a.index (place_of c o) s sound h (operand_known c o (want.Subtype a.index) sound i h))
index_by_found c a q None sound h i = tt

index_of_found : (c : Scope) (p : Place) (a : Array) (as' : List Arg) → IsSound c.world → IsThere c.world a.index → ArgsKnown c.world as' → IsFound (index_of c p a as')
index_of_found c p a [] sound h i = tt
index_of_found c p a (x ∷ []) sound h i = index_by_found c a (c.place x.from) (only_operand (x ∷ [])) sound h (only_known c.world (x ∷ []) (i.0, tt))
index_of_found c p a (x ∷ y ∷ ys) sound h i = spoiled_found (index_by c a (c.place x.from) (only_operand (x ∷ []))) (broken code.L14 (c.place y.from))

item_known : (w : World) (g : Part) (a : Array) (x : Found (Indexed Expr)) → PartThere w g → array_at w g.subtype ≡ Some a → IsThere w a.item → IsFound x → PrefixKnown w (item_of g a x)
item_known w g a (found.Refused f) h e i j = tt
item_known w g a found.Unknown h e i j = absurd j
item_known w g a (found.Is x) h e i j =
    record { subtype = i; end = end_more w g.whole g.target.path (step.Item a.bounds x) ∙ ap (λ (k : ℕ). item_subtype (array_at w k)) h.end ∙ ap item_subtype e }

part_item_known : (c : Scope) (p : Place) (g : Part) (as' : List Arg) (m : Option Array) → IsSound c.world → PartThere c.world g → array_at c.world g.subtype ≡ m → ArrayThere c.world m → ArgsKnown c.world as' → PrefixKnown c.world (part_item c p g as' m)
part_item_known c p g as' None sound h e i j = tt
part_item_known c p g as' (Some a) sound h e i j = item_known c.world g a (index_of c p a as') h e i.1 (index_of_found c p a as' sound i.0 j)

array_item_known : (c : Scope) (p : Place) (x : Expr) (as' : List Arg) (m : Option Array) → IsSound c.world → ArrayThere c.world m → ArgsKnown c.world as' → IsKnown c.world (array_item c p x as' m)
array_item_known c p x as' None sound h i = tt
array_item_known c p x as' (Some a) sound h i =
    then_known c.world (index_of c p a as') (λ z. seen_as c p a.item (node.Item x z)) (index_of_found c p a as' sound h.0 i) (λ z. seen_as_known c p a.item (node.Item x z) sound h.1)

value_item_known : (c : Scope) (p : Place) (as' : List Arg) (s : Seen) → IsSound c.world → IsKnown c.world s → ArgsKnown c.world as' → IsKnown c.world (value_item c p as' s)
value_item_known c p as' (seen.Refused f) sound h i = tt
value_item_known c p as' seen.Unknown sound h i = absurd h
value_item_known c p as' (seen.Number n) sound h i = tt
value_item_known c p as' (seen.Typed t x) sound h i = array_item_known c p x as' (array_at c.world (subtype_of x)) sound (array_there c.world (subtype_of x) sound) i

-- ---- calls

function_known : (c : Scope) (p : Place) (q k : ℕ) (as' : List Arg) (fs : List Formal) (m : Option Array) → IsSound c.world → IsThere c.world k → FormalsThere c.world fs → ArgsKnown c.world as' → PrefixKnown c.world (function_call c p q k as' fs m)
function_known c p q k as' [] (Some a) sound h i j = value_item_known c p as' (call_value c p q (Some k) (found.Is [])) sound (call_value_known c p q (Some k) (found.Is []) sound h tt) j
function_known c p q k as' [] None sound h i j =
    let x = arguments c p [] [] false (found.Is []) as' in call_value_known c p q (Some k) x sound h (arguments_found c p [] [] false (found.Is []) as' sound tt j tt)
function_known c p q k as' (f ∷ fs) m sound h i j =
    let x = arguments c p (f ∷ fs) [] false (found.Is []) as' in call_value_known c p q (Some k) x sound h (arguments_found c p (f ∷ fs) [] false (found.Is []) as' sound i j tt)

call_known : (c : Scope) (p : Place) (q : ℕ) (as' : List Arg) (k : Option ℕ) (fs : List Formal) → IsSound c.world → ResultThere c.world k → FormalsThere c.world fs → ArgsKnown c.world as' → PrefixKnown c.world (call_by c p q as' k fs)
call_known c p q as' (Some k) fs sound h i j = function_known c p q k as' fs (array_at c.world k) sound h i j
call_known c p q as' None fs sound h i j = arguments_found c p fs [] false (found.Is []) as' sound i j tt

routine_call_known : (c : Scope) (p : Place) (q : ℕ) (as' : List Arg) → IsSound c.world → RoutineThere c.world q → ArgsKnown c.world as' → PrefixKnown c.world (routine_call c p q as' (routine_at c.world q))
routine_call_known c p q as' sound h i =
    let r = h.routine in
    subst (λ (m : Option Routine). PrefixKnown c.world (routine_call c p q as' m)) (sym h.is)
    (call_known c p q as' r.result (formals_of c.world r) sound (sound.results q r h.is) (formals_there c.world r.first r.count sound) i)

-- ---- what follows a name

pub value_applied : (c : Scope) (p : Place) (f : Prefix) (as' : List Arg) → IsSound c.world → PrefixKnown c.world f → ArgsKnown c.world as' → IsKnown c.world (value_item c p as' (value_of c p f))
value_applied c p f as' sound h i = value_item_known c p as' (value_of c p f) sound (value_known c p f sound h) i

pub conversion_applied : (c : Scope) (p : Place) (k : ℕ) (as' : List Arg) → IsSound c.world → IsThere c.world k → ArgsKnown c.world as' → IsKnown c.world (conversion_of c p k (only_operand as'))
conversion_applied c p k as' sound h i = conversion_of_known c p k (only_operand as') sound h (only_known c.world as' i)

pub routine_applied : (c : Scope) (p : Place) (q : ℕ) (as' : List Arg) → IsSound c.world → RoutineThere c.world q → ArgsKnown c.world as' → PrefixKnown c.world (routine_call c p q as' (routine_at c.world q))
routine_applied c p q as' sound h i = routine_call_known c p q as' sound h i

pub part_applied : (c : Scope) (p : Place) (g : Part) (as' : List Arg) → IsSound c.world → PartThere c.world g → ArgsKnown c.world as' → PrefixKnown c.world (part_item c p g as' (array_at c.world g.subtype))
part_applied c p g as' sound h i = part_item_known c p g as' (array_at c.world g.subtype) sound h refl (array_there c.world g.subtype sound) i
