-- What is told of selectors and of the choices of a case statement.
use Rattle.std.proofs.Common.{refl, sym, ap, subst, List, [], ◌∷◌, ◌++◌, append_assoc, append-nil, ◌∙◌, Option, Some, None, Bool, true}
use Rattle.ada_values.specs.declared.place.Place.{Place}
use Rattle.front_codes.specs.declared.codes.Code.TheVariants.{L21}
use Rattle.front_codes.specs.declared.codes.Refusal.{Refusal}
use Rattle.typed_units.specs.declared.operators.Bounds.{Bounds}
use Rattle.type_base.specs.declared.seen.Want.{Want}
use Rattle.type_base.specs.declared.seen.Want.TheVariants as want
use Rattle.type_base.specs.declared.world.World.{World}
use Rattle.type_base.specs.Demands.{bounds_at}
use Rattle.type_base.specs.Scope.{Scope}
use Rattle.syntax_view.specs.Trees as tree
use Rattle.typing_rules.specs.Fits.{found_fault, found_then, with_found}
use Rattle.typing_rules.specs.declared.prefix.Found.{Found}
use Rattle.typing_rules.specs.declared.prefix.Found.TheVariants.{Refused, Unknown, Is}
use Rattle.statement_typing.specs.Asked.{low_place, name_prefix, place_of, range_faults, range_seen}
use Rattle.statement_typing.specs.Checks.{added, all_of, all_onto, fault_after, fault_in}
use Rattle.statement_typing.specs.Subtypes.{part, part_faults}
use Rattle.statement_typing.specs.declared.parts.Selected.{Selected}
use Rattle.statement_typing.specs.declared.parts.Spread.{Spread}
use Rattle.statement_typing.specs.Choices.{any_others, choice_faults, choice_seen, choices_faults, choices_faults_in, cover, cover_by, cover_by_faults, cover_faults, covered, distinct, distinct_faults, fresh, is_range, range_choice, range_choice_faults, selector, selector_want, single, spreads, spreads_in, static_between, stretch, twice_fault, value_choice, value_for, values_after}
use Rattle.typing_laws.proofs.Merging.{first_after, first_alone, first_in, first_joined}
use Rattle.statement_laws.proofs.Telling.{Hears, Told, told_in, told_part, told_range, told_then, told_with}
use Rattle.statement_laws.proofs.Definitions.{told_added}
use Rattle.statement_laws.proofs.Lists.{AllTold, first_crossed, first_further, more_told, none_told, told_if}

pub selector_hears : (c : Scope) (e : tree.Expr) → Hears (selector c e)
selector_hears c e = record { refused = λ f. refl; unknown = refl }

-- ---- a choice

-- what is made of a demand on a part
told_after : {A : Type 0} → {B : Type 0} → {C : Type 0} → (g : B → C) (d : A → Found B) (a : Found A) (fs : List Refusal)
    → Told a fs → Told (with_found g (found_then a d)) (fs ++ fault_after a (with_found g (found_then a d)))
told_after g d (Refused f) fs h = first_alone (Some f) fs h
told_after g d Unknown fs h = first_alone None fs h
told_after g d (Is x) fs h = first_after (found_fault (with_found g (d x))) fs (fault_in (with_found g (d x))) h (told_in (with_found g (d x)))

range_choice_told : (c : Scope) (w : Want) (r : tree.Range) → Told (range_choice c w r) (range_choice_faults c w r)
range_choice_told c w r = told_after (stretch (low_place c r)) (static_between c r) (range_seen c L21 w r) (range_faults c L21 w r) (told_range c L21 w r)

value_hears : (v : World) (w : Want) (p : Place) → Hears (value_for v w p)
value_hears v want.Free p = record { refused = λ f. refl; unknown = refl }
value_hears v want.Unknown p = record { refused = λ f. refl; unknown = refl }
value_hears v (want.Type t) p = record { refused = λ f. refl; unknown = refl }
value_hears v (want.Subtype k) p = record { refused = λ f. refl; unknown = refl }

value_choice_told : (c : Scope) (w : Want) (e : tree.Expr) → Told (value_choice c w e) (part_faults c w e (value_for c.world w (place_of c e)))
value_choice_told c w e =
    told_with (single (place_of c e)) (part c w e (value_for c.world w (place_of c e))) (part_faults c w e (value_for c.world w (place_of c e)))
    (told_part c w e (value_for c.world w (place_of c e)) (value_hears c.world w (place_of c e)))

pub choice_told : (c : Scope) (w : Want) (r : tree.Range) → Told (choice_seen c w r) (choice_faults c w r)
choice_told c w (tree.range e (tree.an_expr h)) = range_choice_told c w (tree.range e (tree.an_expr h))
choice_told c w (tree.range (tree.at s (tree.name n)) tree.no_expr) =
    let e = tree.at s (tree.name n) in
    told_if (is_range (name_prefix c n)) (range_choice c w (tree.range e tree.no_expr)) (value_choice c w e)
    (range_choice_faults c w (tree.range e tree.no_expr)) (part_faults c w e (value_for c.world w (place_of c e)))
    (range_choice_told c w (tree.range e tree.no_expr)) (value_choice_told c w e)
choice_told c w (tree.range (tree.at s (tree.number n)) tree.no_expr) = value_choice_told c w (tree.at s (tree.number n))
choice_told c w (tree.range (tree.at s tree.null) tree.no_expr) = value_choice_told c w (tree.at s tree.null)
choice_told c w (tree.range (tree.at s (tree.group as')) tree.no_expr) = value_choice_told c w (tree.at s (tree.group as'))
choice_told c w (tree.range (tree.at s (tree.unary t o a)) tree.no_expr) = value_choice_told c w (tree.at s (tree.unary t o a))
choice_told c w (tree.range (tree.at s (tree.binary t o a b)) tree.no_expr) = value_choice_told c w (tree.at s (tree.binary t o a b))
choice_told c w (tree.range (tree.at s (tree.member t b a g)) tree.no_expr) = value_choice_told c w (tree.at s (tree.member t b a g))

-- ---- choices by themselves

choices_in_each : (c : Scope) (w : Want) (ks : List tree.Choice) (ys : List (Found Spread)) (fs : List Refusal)
    → AllTold ys fs → AllTold (spreads_in c w ks ++ ys) (choices_faults_in c w ks ++ fs)
choices_in_each c w [] ys fs h = h
choices_in_each c w (tree.other_values ∷ ks) ys fs h = choices_in_each c w ks ys fs h
choices_in_each c w (tree.values r ∷ ks) ys fs h =
    subst (AllTold (spreads_in c w (tree.values r ∷ ks) ++ ys)) (sym (append_assoc (choice_faults c w r) (choices_faults_in c w ks) fs))
    (more_told (choice_seen c w r) (spreads_in c w ks ++ ys) (choice_faults c w r) (choices_faults_in c w ks ++ fs) (choice_told c w r) (choices_in_each c w ks ys fs h))

pub choices_alone : (c : Scope) (w : Want) (ks : List tree.Choice) → AllTold (spreads_in c w ks) (choices_faults_in c w ks)
choices_alone c w [] = none_told
choices_alone c w (tree.other_values ∷ ks) = choices_alone c w ks
choices_alone c w (tree.values r ∷ ks) =
    more_told (choice_seen c w r) (spreads_in c w ks) (choice_faults c w r) (choices_faults_in c w ks) (choice_told c w r) (choices_alone c w ks)

choices_each : (c : Scope) (w : Want) (as' : tree.Alternatives) → AllTold (spreads c w as') (choices_faults c w as')
choices_each c w tree.no_alternatives = none_told
choices_each c w (tree.alternative ks ss as') = choices_in_each c w ks (spreads c w as') (choices_faults c w as') (choices_each c w as')

-- ---- choices together

-- each value once: what is refused is the first of what is broken in the choices and of what they break together
abbrev Covers : Bounds → List (Found Spread) → List Refusal → Type 0
Covers s xs fs = (bs : List Bounds) (done : Found (List Bounds)) (cs ds : List Refusal) → Told done (cs ++ ds)
    → Told (all_onto done (distinct s bs xs)) ((cs ++ fs) ++ (ds ++ distinct_faults s bs xs))

fresh_told : (s : Bounds) (bs : List Bounds) (x : Found Spread) (gs : List Refusal) → Told x gs → Told (fresh s bs x) (gs ++ twice_fault x (fresh s bs x))
fresh_told s bs (Refused f) gs h = first_alone (Some f) gs h
fresh_told s bs Unknown gs h = first_alone None gs h
fresh_told s bs (Is x) gs h = first_after (found_fault (fresh s bs (Is x))) gs (fault_in (fresh s bs (Is x))) h (told_in (fresh s bs (Is x)))

covers_none : (s : Bounds) → Covers s [] []
covers_none s bs done cs ds h =
    first_in (found_fault done) (cs ++ ds) ((cs ++ []) ++ (ds ++ [])) (ap (λ (z : List Refusal). z ++ ds) (sym (append-nil cs)) ∙ ap (λ (z : List Refusal). (cs ++ []) ++ z) (sym (append-nil ds))) h

covers_more : (s : Bounds) (x : Found Spread) (xs : List (Found Spread)) (gs fs : List Refusal) → Told x gs → Covers s xs fs → Covers s (x ∷ xs) (gs ++ fs)
covers_more s x xs gs fs h i bs done cs ds j =
    let y = fresh s bs x in
    let ts = twice_fault x y in
    let later = values_after bs x in
    first_further (found_fault (all_onto (added done y) (distinct s later xs))) cs gs fs ds ts (distinct_faults s later xs)
    (i later (added done y) (cs ++ gs) (ds ++ ts)
    (first_crossed (found_fault (added done y)) cs ds gs ts (told_added done y (cs ++ ds) (gs ++ ts) j (fresh_told s bs x gs h))))

covers_in : (c : Scope) (w : Want) (s : Bounds) (ks : List tree.Choice) (ys : List (Found Spread)) (fs : List Refusal)
    → Covers s ys fs → Covers s (spreads_in c w ks ++ ys) (choices_faults_in c w ks ++ fs)
covers_in c w s [] ys fs h = h
covers_in c w s (tree.other_values ∷ ks) ys fs h = covers_in c w s ks ys fs h
covers_in c w s (tree.values r ∷ ks) ys fs h =
    subst (Covers s (spreads_in c w (tree.values r ∷ ks) ++ ys)) (sym (append_assoc (choice_faults c w r) (choices_faults_in c w ks) fs))
    (covers_more s (choice_seen c w r) (spreads_in c w ks ++ ys) (choice_faults c w r) (choices_faults_in c w ks ++ fs) (choice_told c w r) (covers_in c w s ks ys fs h))

covers_all : (c : Scope) (w : Want) (s : Bounds) (as' : tree.Alternatives) → Covers s (spreads c w as') (choices_faults c w as')
covers_all c w s tree.no_alternatives = covers_none s
covers_all c w s (tree.alternative ks ss as') = covers_in c w s ks (spreads c w as') (choices_faults c w as') (covers_all c w s as')

-- what is told of all choices together: what is broken in each of them, besides what they break together, or the latter alone
pub data TogetherTold (x : Found Bool) (cs ds : List Refusal) : Type 0 where
  all_told : Told x (cs ++ ds) → TogetherTold x cs ds
  own_told : Told x ds → TogetherTold x cs ds

cover_by_told : (c : Scope) (p : Place) (o : Bool) (b : Option Bounds) (w : Want) (as' : tree.Alternatives)
    → TogetherTold (cover_by p o b (spreads c w as')) (choices_faults c w as') (cover_by_faults p o b (spreads c w as'))
cover_by_told c p o None w as' = own_told refl
cover_by_told c p o (Some s) w as' =
    let xs = distinct s [] (spreads c w as') in
    let cs = choices_faults c w as' in
    let ds = distinct_faults s [] (spreads c w as') in
    all_told (first_joined (found_fault (found_then (all_of xs) (covered p s o))) cs ds (fault_after (all_of xs) (found_then (all_of xs) (covered p s o)))
    (told_then (all_of xs) (covered p s o) (cs ++ ds) (covers_all c w s as' [] (Is []) [] [] refl)))

unselected : (c : Scope) (as' : tree.Alternatives) → Told (with_found (λ xs. true) (all_of (spreads c want.Unknown as'))) (choices_faults c want.Unknown as' ++ [])
unselected c as' =
    first_alone (found_fault (with_found (λ xs. true) (all_of (spreads c want.Unknown as')))) (choices_faults c want.Unknown as')
    (told_with (λ xs. true) (all_of (spreads c want.Unknown as')) (choices_faults c want.Unknown as') (choices_each c want.Unknown as' (Is []) [] refl))

pub cover_told : (c : Scope) (p : Place) (s : Found Selected) (as' : tree.Alternatives) → TogetherTold (cover c p s as') (choices_faults c (selector_want s) as') (cover_faults c p s as')
cover_told c p (Is x) as' = cover_by_told c p (any_others as') (bounds_at c.world x.subtype) (want.Type x.of) as'
cover_told c p Unknown as' = all_told (unselected c as')
cover_told c p (Refused f) as' = all_told (unselected c as')
