-- What is found of several parts, and of names, expressions and ranges whose names are declared.
use Rattle.std.proofs.Common.{sym, subst, ℕ, Bool, true, false, List, [], ◌∷◌, ◌++◌, Option, Some, None}
use Rattle.std.specs.Prelude.{if◌then◌else◌}
use Rattle.ada_values.specs.declared.place.Place.{Place}
use Rattle.front_codes.specs.declared.codes.Code.{Code}
use Rattle.front_codes.specs.declared.codes.Code.TheVariants.{L8}
use Rattle.front_codes.specs.declared.codes.Refusal.{Refusal}
use Rattle.syntax_view.specs.Trees as tree
use Rattle.typed_units.specs.declared.expressions.Argument.{Argument}
use Rattle.typed_units.specs.declared.expressions.Expr.{Expr}
use Rattle.type_base.specs.Demands.{operand}
use Rattle.type_base.specs.Scope.{Scope}
use Rattle.type_base.specs.Standard.{boolean}
use Rattle.type_base.specs.declared.seen.Demand.TheVariants as demand
use Rattle.type_base.specs.declared.seen.Seen.{Seen}
use Rattle.type_base.specs.declared.seen.Seen.TheVariants as seen'
use Rattle.type_base.specs.declared.seen.Want.{Want}
use Rattle.type_base.specs.declared.seen.Want.TheVariants as want
use Rattle.type_base.specs.declared.world.Formal.{Formal}
use Rattle.type_base.specs.declared.world.Routine.{Routine}
use Rattle.type_base.specs.declared.world.World.{World}
use Rattle.type_base.specs.Lookups.{routine_at}
use Rattle.expression_rules.specs.Known.{IsKnown}
use Rattle.typing_rules.specs.Calls.{not_a_variable, variable, writable}
use Rattle.typing_rules.specs.Fits.{both, found_then}
use Rattle.typing_rules.specs.Lookups.{type_of}
use Rattle.typing_rules.specs.Ranges.{reach_of}
use Rattle.typing_rules.specs.Reading.{call_made, call_seen, called, lone_call, name_seen, no_call, procedure_call, range, seen, target_seen}
use Rattle.typing_rules.specs.Reading as reading
use Rattle.typing_rules.specs.Values.{formals_of, no_arguments, value_of}
use Rattle.typing_rules.specs.declared.prefix.Between.{Between}
use Rattle.typing_rules.specs.declared.prefix.Found.{Found}
use Rattle.typing_rules.specs.declared.prefix.Found.TheVariants.{Refused, Unknown, Is}
use Rattle.typing_rules.specs.declared.prefix.Part.{Part}
use Rattle.typing_rules.specs.declared.prefix.Prefix.{Prefix}
use Rattle.typing_rules.specs.declared.prefix.Prefix.TheVariants as prefix
use Rattle.typing_laws.specs.Declared.{IsDeclared, IsGiven, IsSound, IsThere, ItemDeclared, MaybeDeclared, NameDeclared, RangeDeclared, RoutineThere}
use Rattle.typing_laws.proofs.KnownParts.{MaybeKnown, PrefixKnown, RangeKnown, value_known}
use Rattle.typing_laws.proofs.KnownRanges.{BetweenFound, reach_in_found, reach_known, truth_placed}
use Rattle.typing_laws.proofs.KnownTrees.{expression_known, item_seen_known, read_known}
use Rattle.typing_laws.proofs.Standing.{IsFound, IsPlaced, boolean_there, both_found, integer_there, with_found_found}
use Rattle.statement_typing.specs.Asked.{item_place, number_type, of_wanted, place_of, range_between, range_seen, is_wanted, low_place}
use Rattle.statement_typing.specs.Aspects.{condition, item_condition, truth_seen}
use Rattle.statement_typing.specs.Checks.{added, all_of, all_onto, and_also, unless}
use Rattle.statement_typing.specs.Subtypes.{heard, part}

-- ---- several parts

-- a refusal is told, whatever stands beside it
pub refused_found : {A : Type 0} → {B : Type 0} → {C : Type 0} → (f : A → B → C) (g : Refusal) (b : Found B) → IsFound (both f (Refused g) b)
refused_found f g (Refused h) = tt
refused_found f g Unknown = tt
refused_found f g (Is b) = tt

pub beside_found : {A : Type 0} → {B : Type 0} → (a : Found A) (b : Found B) → IsFound a → IsFound b → IsFound (and_also a b)
beside_found a b h i = both_found (λ x y. x) a b h i

pub added_found : {A : Type 0} → (done : Found (List A)) (a : Found A) → IsFound done → IsFound a → IsFound (added done a)
added_found done a h i = both_found (λ xs x. xs ++ (x ∷ [])) done a h i

pub unless_found : {A : Type 0} → (b : Bool) (r : Code) (p : Place) (a : A) → IsFound (unless b r p a)
unless_found true r p a = tt
unless_found false r p a = tt

abbrev pub AllFound : {A : Type 0} → List (Found A) → Type 0
AllFound [] = Unit {0}
AllFound (x ∷ xs) = IsFound x × AllFound xs

pub all_onto_found : {A : Type 0} → (done : Found (List A)) (xs : List (Found A)) → IsFound done → AllFound xs → IsFound (all_onto done xs)
all_onto_found done [] h i = h
all_onto_found done (x ∷ xs) h i = all_onto_found (added done x) xs (added_found done x h i.0) i.1

pub all_found : {A : Type 0} → (xs : List (Found A)) → AllFound xs → IsFound (all_of xs)
all_found xs h = all_onto_found (Is []) xs tt h

pub joined_found : {A : Type 0} → (xs ys : List (Found A)) → AllFound xs → AllFound ys → AllFound (xs ++ ys)
joined_found [] ys h i = i
joined_found (x ∷ xs) ys h i = (h.0, joined_found xs ys h.1 i)

-- ---- expressions

pub seen_known : (c : Scope) (v : Want) (e : tree.Expr) → IsSound c.world → IsGiven c.world v → IsDeclared c e → IsKnown c.world (seen c v e)
seen_known c v e sound g h = expression_known c v sound g e h

pub heard_found : (w : World) (s : Seen) → IsKnown w s → IsFound (heard s)
heard_found w (seen'.Refused f) h = tt
heard_found w seen'.Unknown h = absurd h
heard_found w (seen'.Number n) h = tt
heard_found w (seen'.Typed t x) h = tt

truth_found : (w : World) (r : Code) (p : Place) (s : Seen) → IsPlaced w s → IsFound (truth_seen r p s)
truth_found w r p (seen'.Refused f) h = tt
truth_found w r p seen'.Unknown h = absurd h
truth_found w r p (seen'.Number n) h = tt
truth_found w r p (seen'.Typed t x) h = tt

condition_found : (w : World) (r : Code) (p : Place) (s : Seen) → IsKnown w s → IsFound (condition w r p s)
condition_found w r p s h = truth_found w r p (operand w demand.Truth r p s) (truth_placed w r p s h)

pub tested_found : (c : Scope) (r : Code) (e : tree.Expr) → IsSound c.world → IsDeclared c e → IsFound (part c (want.Type boolean) e (condition c.world r (place_of c e)))
tested_found c r e sound h = condition_found c.world r (place_of c e) (seen c (want.Type boolean) e) (seen_known c (want.Type boolean) e sound (boolean_there c.world sound) h)

pub item_condition_found : (c : Scope) (r : Code) (i : tree.Item) → IsSound c.world → ItemDeclared c i → IsFound (item_condition c r i)
item_condition_found c r i sound h =
    condition_found c.world r (item_place c i) (reading.item_seen c (want.Type boolean) i) (item_seen_known c (want.Type boolean) sound (boolean_there c.world sound) i h)

-- ---- names

pub name_known : (c : Scope) (v : Want) (n : tree.Name) → IsSound c.world → IsGiven c.world v → NameDeclared c n → PrefixKnown c.world (name_seen c v n)
name_known c v (tree.named s i ss) sound g h = (read_known c (tree.at s (tree.name (tree.named s i ss))) sound h).prefix v g

-- a variable, which is of a subtype that stands in the world
abbrev pub PartFound : World → Found Part → Type 0
PartFound w (Refused f) = Unit {0}
PartFound w Unknown = ⊥
PartFound w (Is g) = IsThere w g.subtype

no_variable_there : (w : World) (r : Code) (q : Place) (s : Seen) → IsKnown w s → PartFound w (not_a_variable r q s)
no_variable_there w r q (seen'.Refused f) h = tt
no_variable_there w r q seen'.Unknown h = absurd h
no_variable_there w r q (seen'.Number n) h = tt
no_variable_there w r q (seen'.Typed t x) h = tt

written_there : (w : World) (f : Refusal) (g : Part) (b : Bool) → IsThere w g.subtype → PartFound w (if b then Is g else Refused f)
written_there w f g true h = h
written_there w f g false h = tt

variable_there : (c : Scope) (r : Code) (q : Place) (f : Prefix) → IsSound c.world → PrefixKnown c.world f → PartFound c.world (variable c r q f)
variable_there c r q (prefix.Part g) sound h = written_there c.world (record { code = r; place = q }) g (writable g.access) h.subtype
variable_there c r q prefix.Package sound h = no_variable_there c.world r q (value_of c q prefix.Package) (value_known c q prefix.Package sound h)
variable_there c r q (prefix.Subtype k) sound h = no_variable_there c.world r q (value_of c q (prefix.Subtype k)) (value_known c q (prefix.Subtype k) sound h)
variable_there c r q (prefix.Routine n) sound h = no_variable_there c.world r q (value_of c q (prefix.Routine n)) (value_known c q (prefix.Routine n) sound h)
variable_there c r q (prefix.Called n as') sound h = no_variable_there c.world r q (value_of c q (prefix.Called n as')) (value_known c q (prefix.Called n as') sound h)
variable_there c r q (prefix.Mapping m t k) sound h = no_variable_there c.world r q (value_of c q (prefix.Mapping m t k)) (value_known c q (prefix.Mapping m t k) sound h)
variable_there c r q (prefix.Range b) sound h = no_variable_there c.world r q (value_of c q (prefix.Range b)) (value_known c q (prefix.Range b) sound h)
variable_there c r q (prefix.Constant t x) sound h = no_variable_there c.world r q (value_of c q (prefix.Constant t x)) (value_known c q (prefix.Constant t x) sound h)
variable_there c r q (prefix.Value s) sound h = no_variable_there c.world r q (value_of c q (prefix.Value s)) (value_known c q (prefix.Value s) sound h)

pub target_there : (c : Scope) (n : tree.Name) → IsSound c.world → NameDeclared c n → PartFound c.world (target_seen c n)
target_there c (tree.named s i ss) sound h = variable_there c L8 (c.place s.from) (name_seen c want.Free (tree.named s i ss)) sound (name_known c want.Free (tree.named s i ss) sound tt h)

-- ---- calls

none_passed : (p : Place) (fs : List Formal) → IsFound (no_arguments p fs)
none_passed p [] = tt
none_passed p (f ∷ fs) = tt

procedure_found : (p : Place) (q : ℕ) (k : Option ℕ) (x : Found (List (Argument Expr))) → IsFound x → IsFound (procedure_call p q k x)
procedure_found p q None x h = with_found_found (call_made q) x h
procedure_found p q (Some k) x h = tt

lone_found : (c : Scope) (p : Place) (q : ℕ) → RoutineThere c.world q → IsFound (lone_call c p q (routine_at c.world q))
lone_found c p q h =
    let r = h.routine in
    subst (λ (m : Option Routine). IsFound (lone_call c p q m)) (sym h.is) (procedure_found p q r.result (no_arguments p (formals_of c.world r)) (none_passed p (formals_of c.world r)))

no_call_found : (w : World) (p : Place) (s : Seen) → IsKnown w s → IsFound (no_call p s)
no_call_found w p (seen'.Refused f) h = tt
no_call_found w p seen'.Unknown h = absurd h
no_call_found w p (seen'.Number n) h = tt
no_call_found w p (seen'.Typed t x) h = tt

called_found : (c : Scope) (p : Place) (f : Prefix) → IsSound c.world → PrefixKnown c.world f → IsFound (called c p f)
called_found c p (prefix.Called q as') sound h = with_found_found (call_made q) as' h
called_found c p (prefix.Routine q) sound h = lone_found c p q h
called_found c p prefix.Package sound h = no_call_found c.world p (value_of c p prefix.Package) (value_known c p prefix.Package sound h)
called_found c p (prefix.Subtype k) sound h = no_call_found c.world p (value_of c p (prefix.Subtype k)) (value_known c p (prefix.Subtype k) sound h)
called_found c p (prefix.Mapping m t k) sound h = no_call_found c.world p (value_of c p (prefix.Mapping m t k)) (value_known c p (prefix.Mapping m t k) sound h)
called_found c p (prefix.Range b) sound h = no_call_found c.world p (value_of c p (prefix.Range b)) (value_known c p (prefix.Range b) sound h)
called_found c p (prefix.Constant t x) sound h = no_call_found c.world p (value_of c p (prefix.Constant t x)) (value_known c p (prefix.Constant t x) sound h)
called_found c p (prefix.Part g) sound h = no_call_found c.world p (value_of c p (prefix.Part g)) (value_known c p (prefix.Part g) sound h)
called_found c p (prefix.Value s) sound h = no_call_found c.world p s h

pub call_found : (c : Scope) (n : tree.Name) → IsSound c.world → NameDeclared c n → IsFound (call_seen c n)
call_found c (tree.named s i ss) sound h = called_found c (c.place s.from) (name_seen c want.Free (tree.named s i ss)) sound (name_known c want.Free (tree.named s i ss) sound tt h)

-- ---- ranges

bound_known : (c : Scope) (e : tree.MaybeExpr) → IsSound c.world → MaybeDeclared c e → MaybeKnown c.world (reading.maybe c e)
bound_known c tree.no_expr sound h = tt
bound_known c (tree.an_expr e) sound h = read_known c e sound h

pub bounds_known : (c : Scope) (g : tree.Range) → IsSound c.world → RangeDeclared c g → RangeKnown c.world (range c g)
bounds_known c (tree.range l h) sound i = (read_known c l sound i.0, bound_known c h sound i.1)

number_there : (w : World) (v : Want) → IsSound w → IsGiven w v → IsThere w (number_type v)
number_there w want.Free sound h = integer_there w sound
number_there w want.Unknown sound h = absurd h
number_there w (want.Type t) sound h = h
number_there w (want.Subtype k) sound h = integer_there w sound

wanted_by : (w : World) (b : Bool) (r : Code) (p : Place) (x : Between) → IsThere w x.subtype → BetweenFound w (unless b r p x)
wanted_by w true r p x h = h
wanted_by w false r p x h = tt

wanted_found : (c : Scope) (r : Code) (v : Want) (g : tree.Range) (x : Found Between) → BetweenFound c.world x → BetweenFound c.world (found_then x (of_wanted c r v g))
wanted_found c r v g (Refused f) h = tt
wanted_found c r v g Unknown h = absurd h
wanted_found c r v g (Is b) h = wanted_by c.world (is_wanted v (type_of c.world b.subtype)) r (low_place c g) b h

pub range_there : (c : Scope) (r : Code) (v : Want) (g : tree.Range) → IsSound c.world → IsGiven c.world v → RangeDeclared c g → BetweenFound c.world (range_seen c r v g)
range_there c r v g sound given h =
    let u = reach_of c r v (range c g) in
    wanted_found c r v g (range_between c r v g)
    (reach_in_found c r (number_type v) (range c g) u (number_there c.world v sound given) (reach_known c r v (range c g) sound given (bounds_known c g sound h)))
