-- The choices of a case statement. -- L21, Ada RM 5.4
use Rattle.std.specs.Prelude.{ℕ, ℤ, pos, ◌+ℤ◌, ◌-ℤ◌, Bool, true, false, not, Option, Some, None, List, [], ◌∷◌, ◌++◌, ◌&&◌, ◌||◌, if◌then◌else◌}
use Rattle.std.specs.Ordering.{int_eq}
use Rattle.std.specs.Int.RustNames.{int_le}
use Rattle.ada_values.specs.declared.place.Place.{Place}
use Rattle.front_codes.specs.declared.codes.Code.TheVariants.{L21}
use Rattle.front_codes.specs.declared.codes.Refusal.{Refusal}
use Rattle.typed_units.specs.declared.expressions.Expr.{Expr}
use Rattle.typed_units.specs.declared.operators.Bounds.{Bounds}
use Rattle.typed_units.specs.declared.statements.Choice.{Choice}
use Rattle.typed_units.specs.declared.statements.Choice.TheVariants as choice
use Rattle.type_base.specs.declared.seen.Demand.TheVariants as demand
use Rattle.type_base.specs.declared.seen.Seen.{Seen}
use Rattle.type_base.specs.declared.seen.Seen.TheVariants as seen'
use Rattle.type_base.specs.declared.seen.Want.{Want}
use Rattle.type_base.specs.declared.seen.Want.TheVariants as want
use Rattle.type_base.specs.declared.world.World.{World}
use Rattle.type_base.specs.Demands.{bounds_at, operand, subtype_of}
use Rattle.type_base.specs.Scope.{Scope}
use Rattle.syntax_view.specs.Trees as tree
use Rattle.typing_rules.specs.declared.prefix.Between.{Between}
use Rattle.typing_rules.specs.declared.prefix.Found.{Found}
use Rattle.typing_rules.specs.declared.prefix.Found.TheVariants.{Refused, Unknown, Is}
use Rattle.typing_rules.specs.declared.prefix.Prefix.{Prefix}
use Rattle.typing_rules.specs.declared.prefix.Prefix.TheVariants as prefix
use Rattle.typing_rules.specs.Fits.{both, found_then, with_found}
use Rattle.statement_typing.specs.declared.parts.Selected.{Selected}
use Rattle.statement_typing.specs.declared.parts.Spread.{Spread}
use Rattle.statement_typing.specs.Asked.{high_place, low_place, name_prefix, place_of, range_faults, range_seen}
use Rattle.statement_typing.specs.Checks.{all_of, fault_after, refuse, unless}
use Rattle.statement_typing.specs.Subtypes.{bounds, part, part_faults, static_in, value_of_type}

-- ---- the selector

abbrev pub in_parentheses : tree.Expr → Bool
in_parentheses (tree.at s (tree.group as')) = true
in_parentheses (tree.at s n) = false

abbrev pub selected_as : Bool → Place → Seen → Found Selected
selected_as b p (seen'.Refused f) = Refused f
selected_as b p seen'.Unknown = Unknown
selected_as b p (seen'.Number n) = refuse L21 p
selected_as b p (seen'.Typed t x) = Is (record { of = t; subtype = if b then t else subtype_of x; value = x })

-- a selector in parentheses is no name, so the values of its type's base range are to be covered -- Ada RM 5.4(7)
abbrev pub selector : Scope → tree.Expr → Seen → Found Selected
selector c e s = selected_as (in_parentheses e) (place_of c e) (operand c.world demand.Ordered L21 (place_of c e) s)

-- ---- choices

abbrev pub single : Place → ℤ → Spread
single p n = record { place = p; choice = choice.Value n; values = bounds n n }

abbrev pub stretch : Place → Bounds → Spread
stretch p b = record { place = p; choice = choice.Range b; values = b }

abbrev pub static_between : Scope → tree.Range → Between → Found Bounds
static_between c r o = both bounds (static_in L21 (low_place c r) o.low) (static_in L21 (high_place c r) o.high)

abbrev pub range_choice : Scope → Want → tree.Range → Found Spread
range_choice c w r = with_found (stretch (low_place c r)) (found_then (range_seen c L21 w r) (static_between c r))

abbrev pub range_choice_faults : Scope → Want → tree.Range → List Refusal
range_choice_faults c w r = range_faults c L21 w r ++ fault_after (range_seen c L21 w r) (range_choice c w r)

-- a value that is to be of the selector's type
abbrev pub value_for : World → Want → Place → Seen → Found ℤ
value_for w (want.Type t) p s = value_of_type w L21 t p s
value_for w _ p (seen'.Refused f) = Refused f
value_for w _ p s = Unknown

abbrev pub value_choice : Scope → Want → tree.Expr → Found Spread
value_choice c w e = with_found (single (place_of c e)) (part c w e (value_for c.world w (place_of c e)))

-- whether a name alone is a range
abbrev pub is_range : Prefix → Bool
is_range (prefix.Subtype k) = true
is_range (prefix.Range b) = true
is_range _ = false

abbrev pub choice_seen : Scope → Want → tree.Range → Found Spread
choice_seen c w (tree.range e (tree.an_expr h)) = range_choice c w (tree.range e (tree.an_expr h))
choice_seen c w (tree.range (tree.at s (tree.name n)) tree.no_expr) =
    if is_range (name_prefix c n) then range_choice c w (tree.range (tree.at s (tree.name n)) tree.no_expr) else value_choice c w (tree.at s (tree.name n))
choice_seen c w (tree.range e tree.no_expr) = value_choice c w e

abbrev pub choice_faults : Scope → Want → tree.Range → List Refusal
choice_faults c w (tree.range e (tree.an_expr h)) = range_choice_faults c w (tree.range e (tree.an_expr h))
choice_faults c w (tree.range (tree.at s (tree.name n)) tree.no_expr) =
    if is_range (name_prefix c n) then range_choice_faults c w (tree.range (tree.at s (tree.name n)) tree.no_expr)
    else part_faults c w (tree.at s (tree.name n)) (value_for c.world w (c.place s.from))
choice_faults c w (tree.range e tree.no_expr) = part_faults c w e (value_for c.world w (place_of c e))

-- ---- each value once

abbrev pub is_null : Bounds → Bool
is_null b = not (int_le b.first b.last)

-- some value is in both
abbrev pub meet : Bounds → Bounds → Bool
meet a b = int_le a.first a.last && int_le b.first b.last && int_le a.first b.last && int_le b.first a.last

abbrev pub meets_one : Bounds → List Bounds → Bool
meets_one b [] = false
meets_one b (a ∷ as') = meet a b || meets_one b as'

-- a choice has no value outside the selector's subtype, and none that one before it has
abbrev pub new_values : Bounds → List Bounds → Bounds → Bool
new_values s bs b = is_null b || (int_le s.first b.first && int_le b.last s.last && not (meets_one b bs))

abbrev pub fresh : Bounds → List Bounds → Found Spread → Found Bounds
fresh s bs (Is x) = unless (new_values s bs x.values) L21 x.place x.values
fresh s bs Unknown = Unknown
fresh s bs (Refused f) = Refused f

abbrev pub values_after : List Bounds → Found Spread → List Bounds
values_after bs (Is x) = x.values ∷ bs
values_after bs Unknown = bs
values_after bs (Refused f) = bs

abbrev pub distinct : Bounds → List Bounds → List (Found Spread) → List (Found Bounds)
distinct s bs [] = []
distinct s bs (x ∷ xs) = fresh s bs x ∷ distinct s (values_after bs x) xs

-- how many values there are
abbrev pub size : Bounds → ℤ
size b = if is_null b then pos 0 else (b.last -ℤ b.first) +ℤ pos 1

abbrev pub sizes : List Bounds → ℤ
sizes [] = pos 0
sizes (b ∷ bs) = size b +ℤ sizes bs

-- choices that have each value of a subtype once have as many values as it
abbrev pub is_whole : Bounds → List Bounds → Bool
is_whole s bs = int_eq (sizes bs) (size s)

-- `others`, or no value is left; p is the place of the statement
abbrev pub covered : Place → Bounds → Bool → List Bounds → Found Bool
covered p s others bs = unless (others || is_whole s bs) L21 p true

-- ---- `others` stands alone in the last alternative

abbrev pub is_others : tree.Choice → Bool
is_others tree.other_values = true
is_others (tree.values r) = false

abbrev pub has_others : List tree.Choice → Bool
has_others [] = false
has_others (k ∷ ks) = is_others k || has_others ks

abbrev pub are_others : List tree.Choice → Bool
are_others (tree.other_values ∷ []) = true
are_others _ = false

abbrev pub others_last : tree.Alternatives → Bool
others_last tree.no_alternatives = true
others_last (tree.alternative ks ss tree.no_alternatives) = not (has_others ks) || are_others ks
others_last (tree.alternative ks ss as') = not (has_others ks) && others_last as'

abbrev pub any_others : tree.Alternatives → Bool
any_others tree.no_alternatives = false
any_others (tree.alternative ks ss as') = has_others ks || any_others as'

abbrev pub spreads_in : Scope → Want → List tree.Choice → List (Found Spread)
spreads_in c w [] = []
spreads_in c w (tree.other_values ∷ ks) = spreads_in c w ks
spreads_in c w (tree.values r ∷ ks) = choice_seen c w r ∷ spreads_in c w ks

abbrev pub spreads : Scope → Want → tree.Alternatives → List (Found Spread)
spreads c w tree.no_alternatives = []
spreads c w (tree.alternative ks ss as') = spreads_in c w ks ++ spreads c w as'

abbrev pub choices_faults_in : Scope → Want → List tree.Choice → List Refusal
choices_faults_in c w [] = []
choices_faults_in c w (tree.other_values ∷ ks) = choices_faults_in c w ks
choices_faults_in c w (tree.values r ∷ ks) = choice_faults c w r ++ choices_faults_in c w ks

abbrev pub choices_faults : Scope → Want → tree.Alternatives → List Refusal
choices_faults c w tree.no_alternatives = []
choices_faults c w (tree.alternative ks ss as') = choices_faults_in c w ks ++ choices_faults c w as'

-- ---- the choices of a statement at p together, for a selector

abbrev pub selector_want : Found Selected → Want
selector_want (Is x) = want.Type x.of
selector_want Unknown = want.Unknown
selector_want (Refused f) = want.Unknown

abbrev pub cover_by : Place → Bool → Option Bounds → List (Found Spread) → Found Bool
cover_by p others (Some s) xs = found_then (all_of (distinct s [] xs)) (covered p s others)
cover_by p others None xs = Unknown

abbrev pub cover : Scope → Place → Found Selected → tree.Alternatives → Found Bool
cover c p (Is x) as' = cover_by p (any_others as') (bounds_at c.world x.subtype) (spreads c (want.Type x.of) as')
cover c p Unknown as' = with_found (λ xs. true) (all_of (spreads c want.Unknown as'))
cover c p (Refused f) as' = with_found (λ xs. true) (all_of (spreads c want.Unknown as'))

-- what they break together: a value twice or outside, and a value left out
abbrev pub twice_fault : Found Spread → Found Bounds → List Refusal
twice_fault (Is x) b = fault_after (Is x) b
twice_fault Unknown b = []
twice_fault (Refused f) b = []

abbrev pub distinct_faults : Bounds → List Bounds → List (Found Spread) → List Refusal
distinct_faults s bs [] = []
distinct_faults s bs (x ∷ xs) = twice_fault x (fresh s bs x) ++ distinct_faults s (values_after bs x) xs

abbrev pub cover_by_faults : Place → Bool → Option Bounds → List (Found Spread) → List Refusal
cover_by_faults p others (Some s) xs =
    distinct_faults s [] xs ++ fault_after (all_of (distinct s [] xs)) (cover_by p others (Some s) xs)
cover_by_faults p others None xs = []

abbrev pub cover_faults : Scope → Place → Found Selected → tree.Alternatives → List Refusal
cover_faults c p (Is x) as' = cover_by_faults p (any_others as') (bounds_at c.world x.subtype) (spreads c (want.Type x.of) as')
cover_faults c p Unknown as' = []
cover_faults c p (Refused f) as' = []
