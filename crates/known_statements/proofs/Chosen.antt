-- What is found of the selector and the choices of a case statement whose names are declared.
use Rattle.std.proofs.Common.{◌≡◌, refl, sym, subst, ℕ, ℤ, Bool, true, false, true≢false, ◌==◌, ◌||◌, List, [], ◌∷◌, Option, Some, None}
use Rattle.std.specs.Prelude.{if◌then◌else◌}
use Rattle.ada_values.specs.declared.place.Place.{Place}
use Rattle.front_codes.specs.declared.codes.Code.{Code}
use Rattle.front_codes.specs.declared.codes.Code.TheVariants.{L21}
use Rattle.syntax_view.specs.Trees as tree
use Rattle.typed_units.specs.declared.expressions.Expr.{Expr}
use Rattle.typed_units.specs.declared.operators.Bounds.{Bounds}
use Rattle.type_base.specs.Demands.{bounds_at, bounds_in, fitting, is_ordered, operand, placed_number, refused, subtype_of}
use Rattle.type_base.specs.Lookups.{form_at}
use Rattle.type_base.specs.Results.{number_in}
use Rattle.type_base.specs.Scope.{Scope}
use Rattle.type_base.specs.declared.seen.Demand.TheVariants as demand
use Rattle.type_base.specs.declared.seen.Seen.{Seen}
use Rattle.type_base.specs.declared.seen.Seen.TheVariants as seen'
use Rattle.type_base.specs.declared.seen.Want.TheVariants as want
use Rattle.type_base.specs.declared.world.Form.{Form}
use Rattle.type_base.specs.declared.world.Form.TheVariants as form
use Rattle.type_base.specs.declared.world.World.{World}
use Rattle.expression_rules.specs.Known.{IsKnown, SameSort, Stands}
use Rattle.typing_rules.specs.Fits.{found_then}
use Rattle.typing_rules.specs.Reading.{seen}
use Rattle.typing_rules.specs.declared.prefix.Between.{Between}
use Rattle.typing_rules.specs.declared.prefix.Found.{Found}
use Rattle.typing_rules.specs.declared.prefix.Found.TheVariants.{Refused, Unknown, Is}
use Rattle.typing_laws.specs.Declared.{IsDeclared, IsSound, IsThere, RangeDeclared}
use Rattle.typing_laws.proofs.KnownRanges.{between_found}
use Rattle.typing_laws.proofs.Standing.{IsFound, IsPlaced, both_found, found_if, number_placed, then_found, type_stands, with_found_found}
use Rattle.statement_typing.specs.Asked.{high_place, low_place, name_prefix, place_of, range_seen}
use Rattle.statement_typing.specs.Checks.{all_of, refuse}
use Rattle.statement_typing.specs.Choices.{any_others, choice_seen, cover, cover_by, covered, distinct, fresh, in_parentheses, is_range, is_whole, new_values, range_choice, selected_as, selector, single, spreads, spreads_in, static_between, stretch, value_choice, values_after}
use Rattle.statement_typing.specs.Subtypes.{bounds, part, static_in, static_number, static_seen, value_of_type}
use Rattle.statement_typing.specs.declared.parts.Selected.{Selected}
use Rattle.statement_typing.specs.declared.parts.Spread.{Spread}
use Rattle.known_statements.specs.Declared.{AlternativesDeclared, ChoicesDeclared}
use Rattle.known_statements.proofs.Asked.{AllFound, all_found, joined_found, range_there, seen_known, unless_found}
use Rattle.statement_typing.specs.Statements.{Around}

-- ---- static numbers

number_found : (r : Code) (p : Place) (n : Option ℤ) → IsFound (static_number r p n)
number_found r p (Some n) = tt
number_found r p None = tt

pub static_found : (r : Code) (p : Place) (x : Expr) → IsFound (static_in r p x)
static_found r p x = number_found r p (number_in x)

pub static_seen_found : (w : World) (r : Code) (p : Place) (s : Seen) → IsPlaced w s → IsFound (static_seen r p s)
static_seen_found w r p (seen'.Refused f) h = tt
static_seen_found w r p seen'.Unknown h = absurd h
static_seen_found w r p (seen'.Number n) h = absurd h
static_seen_found w r p (seen'.Typed t x) h = static_found r p x

pub value_found : (w : World) (r : Code) (t : ℕ) (p : Place) (s : Seen) → IsThere w t → IsKnown w s → IsFound (value_of_type w r t p s)
value_found w r t p (seen'.Refused f) h i = tt
value_found w r t p seen'.Unknown h i = absurd i
value_found w r t p (seen'.Number n) h i = static_seen_found w r p (placed_number w r p p t n) (number_placed w r p p t n h)
value_found w r t p (seen'.Typed u x) h i = found_if (t == u) (static_in r p x) (refuse r p) (static_found r p x) tt

-- ---- the selector

abbrev BoundsThere : Option Bounds → Type 0
BoundsThere None = ⊥
BoundsThere (Some b) = Unit {0}

-- a selector that isn't refused is of a type and a subtype of numbers
pub record SelectedThere (w : World) (x : Selected) : Type 0 where
  pub type : IsThere w x.of
  pub bounds : BoundsThere (bounds_at w x.subtype)

abbrev pub SelectedFound : World → Found Selected → Type 0
SelectedFound w (Refused f) = Unit {0}
SelectedFound w Unknown = ⊥
SelectedFound w (Is x) = SelectedThere w x

-- of a type, and of numbers where it is no refusal
abbrev OrderedSeen : World → Seen → Type 0
OrderedSeen w (seen'.Refused f) = Unit {0}
OrderedSeen w seen'.Unknown = ⊥
OrderedSeen w (seen'.Number n) = Unit {0}
OrderedSeen w (seen'.Typed t x) = Stands w t (subtype_of x) × (BoundsThere (bounds_at w (subtype_of x)) × BoundsThere (bounds_at w t))

form_bounds : (w : World) (k : ℕ) (f : Form) → form_at w k ≡ Some f → BoundsThere (bounds_in (Some f)) → BoundsThere (bounds_at w k)
form_bounds w k f e h = subst (λ (m : Option Form). BoundsThere (bounds_in m)) (sym e) h

-- the type of numbers has bounds where its subtype has
type_bounds : (f g : Form) → is_ordered f ≡ true → SameSort f g → BoundsThere (bounds_in (Some f)) × BoundsThere (bounds_in (Some g))
type_bounds (form.Number d s) (form.Number e u) h i = (tt, tt)
type_bounds (form.Number d s) form.Truth h i = absurd i
type_bounds (form.Number d s) (form.Array a b t) h i = absurd i
type_bounds (form.Number d s) (form.Record a b) h i = absurd i
type_bounds form.Truth g h i = absurd (true≢false (sym h))
type_bounds (form.Array a b t) g h i = absurd (true≢false (sym h))
type_bounds (form.Record a b) g h i = absurd (true≢false (sym h))

ordered_if : (w : World) (r : Code) (p : Place) (t : ℕ) (x : Expr) (f : Form) (b : Bool) → is_ordered f ≡ b → (h : Stands w t (subtype_of x)) → form_at w (subtype_of x) ≡ Some f → SameSort f h.type
    → OrderedSeen w (if b then seen'.Typed t x else refused r p)
ordered_if w r p t x f true e h i j =
    let z = type_bounds f h.type e j in
    (h, (form_bounds w (subtype_of x) f i z.0, form_bounds w t h.type h.type_is z.1))
ordered_if w r p t x f false e h i j = tt

ordered_fit : (w : World) (r : Code) (p : Place) (t : ℕ) (x : Expr) → (h : Stands w t (subtype_of x)) → OrderedSeen w (fitting demand.Ordered r p t x (form_at w (subtype_of x)))
ordered_fit w r p t x h =
    subst (λ (m : Option Form). OrderedSeen w (fitting demand.Ordered r p t x m)) (sym h.is)
    (ordered_if w r p t x h.form (is_ordered h.form) refl h h.is h.sort)

ordered_seen : (w : World) (r : Code) (p : Place) (s : Seen) → IsKnown w s → OrderedSeen w (operand w demand.Ordered r p s)
ordered_seen w r p (seen'.Refused f) h = tt
ordered_seen w r p seen'.Unknown h = absurd h
ordered_seen w r p (seen'.Number n) h = tt
ordered_seen w r p (seen'.Typed t x) h = ordered_fit w r p t x h

either_bounds : (w : World) (b : Bool) (j k : ℕ) → BoundsThere (bounds_at w j) → BoundsThere (bounds_at w k) → BoundsThere (bounds_at w (if b then j else k))
either_bounds w true j k h i = h
either_bounds w false j k h i = i

selected_there : (w : World) (b : Bool) (p : Place) (s : Seen) → OrderedSeen w s → SelectedFound w (selected_as b p s)
selected_there w b p (seen'.Refused f) h = tt
selected_there w b p seen'.Unknown h = absurd h
selected_there w b p (seen'.Number n) h = tt
selected_there w b p (seen'.Typed t x) h = record { type = type_stands w t (subtype_of x) h.0; bounds = either_bounds w b t (subtype_of x) h.1.1 h.1.0 }

pub selector_there : (c : Scope) (e : tree.Expr) → IsSound c.world → IsDeclared c e → SelectedFound c.world (part c want.Free e (selector c e))
selector_there c e sound h =
    let s = seen c want.Free e in
    selected_there c.world (in_parentheses e) (place_of c e) (operand c.world demand.Ordered L21 (place_of c e) s) (ordered_seen c.world L21 (place_of c e) s (seen_known c want.Free e sound tt h))

-- ---- choices

static_bounds_found : (c : Scope) (r : tree.Range) (o : Between) → IsFound (static_between c r o)
static_bounds_found c r o = both_found bounds (static_in L21 (low_place c r) o.low) (static_in L21 (high_place c r) o.high) (static_found L21 (low_place c r) o.low) (static_found L21 (high_place c r) o.high)

range_choice_found : (c : Scope) (t : ℕ) (r : tree.Range) → IsSound c.world → IsThere c.world t → RangeDeclared c r → IsFound (range_choice c (want.Type t) r)
range_choice_found c t r sound h i =
    let x = range_seen c L21 (want.Type t) r in
    with_found_found (stretch (low_place c r)) (found_then x (static_between c r)) (then_found x (static_between c r) (between_found c.world x (range_there c L21 (want.Type t) r sound h i)) (static_bounds_found c r))

value_choice_found : (c : Scope) (t : ℕ) (e : tree.Expr) → IsSound c.world → IsThere c.world t → IsDeclared c e → IsFound (value_choice c (want.Type t) e)
value_choice_found c t e sound h i =
    let s = seen c (want.Type t) e in
    with_found_found (single (place_of c e)) (value_of_type c.world L21 t (place_of c e) s) (value_found c.world L21 t (place_of c e) s h (seen_known c (want.Type t) e sound h i))

choice_found : (c : Scope) (t : ℕ) (r : tree.Range) → IsSound c.world → IsThere c.world t → RangeDeclared c r → IsFound (choice_seen c (want.Type t) r)
choice_found c t (tree.range e (tree.an_expr k)) sound h i = range_choice_found c t (tree.range e (tree.an_expr k)) sound h i
choice_found c t (tree.range (tree.at s (tree.name n)) tree.no_expr) sound h i =
    let e = tree.at s (tree.name n) in
    found_if (is_range (name_prefix c n)) (range_choice c (want.Type t) (tree.range e tree.no_expr)) (value_choice c (want.Type t) e)
    (range_choice_found c t (tree.range e tree.no_expr) sound h i) (value_choice_found c t e sound h i.0)
choice_found c t (tree.range (tree.at s (tree.number n)) tree.no_expr) sound h i = value_choice_found c t (tree.at s (tree.number n)) sound h i.0
choice_found c t (tree.range (tree.at s tree.null) tree.no_expr) sound h i = value_choice_found c t (tree.at s tree.null) sound h i.0
choice_found c t (tree.range (tree.at s (tree.group as')) tree.no_expr) sound h i = value_choice_found c t (tree.at s (tree.group as')) sound h i.0
choice_found c t (tree.range (tree.at s (tree.unary p o a)) tree.no_expr) sound h i = value_choice_found c t (tree.at s (tree.unary p o a)) sound h i.0
choice_found c t (tree.range (tree.at s (tree.binary p o a b)) tree.no_expr) sound h i = value_choice_found c t (tree.at s (tree.binary p o a b)) sound h i.0
choice_found c t (tree.range (tree.at s (tree.member p b a g)) tree.no_expr) sound h i = value_choice_found c t (tree.at s (tree.member p b a g)) sound h i.0

pub choices_found : (c : Scope) (t : ℕ) (ks : List tree.Choice) → IsSound c.world → IsThere c.world t → ChoicesDeclared c ks → AllFound (spreads_in c (want.Type t) ks)
choices_found c t [] sound h i = tt
choices_found c t (tree.other_values ∷ ks) sound h i = choices_found c t ks sound h i
choices_found c t (tree.values r ∷ ks) sound h i = (choice_found c t r sound h i.0, choices_found c t ks sound h i.1)

spreads_found : (a : Around) (t : ℕ) (as' : tree.Alternatives) → IsSound a.scope.world → IsThere a.scope.world t → AlternativesDeclared a as' → AllFound (spreads a.scope (want.Type t) as')
spreads_found a t tree.no_alternatives sound h i = tt
spreads_found a t (tree.alternative ks ss as') sound h i =
    joined_found (spreads_in a.scope (want.Type t) ks) (spreads a.scope (want.Type t) as') (choices_found a.scope t ks sound h i.0.0) (spreads_found a t as' sound h i.1)

fresh_found : (s : Bounds) (bs : List Bounds) (x : Found Spread) → IsFound x → IsFound (fresh s bs x)
fresh_found s bs (Is x) h = unless_found (new_values s bs x.values) L21 x.place x.values
fresh_found s bs Unknown h = absurd h
fresh_found s bs (Refused f) h = tt

distinct_found : (s : Bounds) (bs : List Bounds) (xs : List (Found Spread)) → AllFound xs → AllFound (distinct s bs xs)
distinct_found s bs [] h = tt
distinct_found s bs (x ∷ xs) h = (fresh_found s bs x h.0, distinct_found s (values_after bs x) xs h.1)

cover_by_found : (p : Place) (o : Bool) (b : Option Bounds) (xs : List (Found Spread)) → BoundsThere b → AllFound xs → IsFound (cover_by p o b xs)
cover_by_found p o None xs h i = absurd h
cover_by_found p o (Some s) xs h i =
    then_found (all_of (distinct s [] xs)) (covered p s o) (all_found (distinct s [] xs) (distinct_found s [] xs i)) (λ bs. unless_found (o || is_whole s bs) L21 p true)

pub cover_found : (a : Around) (p : Place) (x : Selected) (as' : tree.Alternatives) → IsSound a.scope.world → SelectedThere a.scope.world x → AlternativesDeclared a as' → IsFound (cover a.scope p (Is x) as')
cover_found a p x as' sound h i =
    cover_by_found p (any_others as') (bounds_at a.scope.world x.subtype) (spreads a.scope (want.Type x.of) as') h.bounds (spreads_found a x.of as' sound h.type i)
