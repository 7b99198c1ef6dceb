-- Searches through lists, one element after another.
use Rattle.std.proofs.Common.{◌≡◌, ℕ, ◌+◌, ◌<◌, ◌≤◌, Bool, true, false, cond, Option, Some, None, List, ◌∷◌, length, get_or, drop, refl, sym, ap, ◌∙◌}
use Rattle.std.specs.Option.{option_map}
use Rattle.std.specs.List.{flat_map, find, position_from}
use Rattle.std.proofs.lemmas.List.{at_drop_more, at_drop_all}
use Rattle.ada_values.specs.declared.place.Place.{Place}
use Rattle.first_form.specs.declared.form.Assertion.{Assertion}
use Rattle.first_form.specs.declared.form.Placed.{Placed}
use Rattle.first_form.specs.Places.{operands_in, is_unknown, unknown_in}

abbrev where_at : Place → ℕ × ℕ
where_at p = (p.line, p.column)

abbrev where_of : Placed → ℕ × ℕ
where_of o = (o.place.line, o.place.column)

-- the search through some assertions
abbrev pub unknown_among : List (List ℕ) → List Assertion → Option (ℕ × ℕ)
unknown_among params xs = option_map where_of (find (λ o. is_unknown params o.operand) (flat_map operands_in xs))

abbrev here_or : Option Place → Option (ℕ × ℕ) → Option (ℕ × ℕ)
here_or None later = later
here_or (Some p) later = Some (p.line, p.column)

in_turn : (l r : Bool) (o p : Placed) (later : Option Placed)
    → option_map where_of (cond l (Some o) (cond r (Some p) later)) ≡ here_or (cond l (Some o.place) (cond r (Some p.place) None)) (option_map where_of later)
in_turn true r o p later = refl
in_turn false true o p later = refl
in_turn false false o p later = refl

unknown_step : (params : List (List ℕ)) (a : Assertion) (xs : List Assertion) → unknown_among params (a ∷ xs) ≡ here_or (unknown_in params a) (unknown_among params xs)
unknown_step params a xs =
    in_turn (is_unknown params a.left.operand) (is_unknown params a.right.operand) a.left a.right (find (λ o. is_unknown params o.operand) (flat_map operands_in xs))

unknown_at : (params : List (List ℕ)) (i : ℕ) (xs : List Assertion) (a : Assertion) (r : Option Place) → i < length xs → a ≡ get_or xs i a → r ≡ unknown_in params a
    → unknown_among params (drop i xs) ≡ here_or r (unknown_among params (drop (i + 1) xs))
unknown_at params i xs a r within is same =
    at_drop_more (unknown_among params) xs i a within
    ∙ ap (λ (b : Assertion). unknown_among params (b ∷ drop (i + 1) xs)) (sym is)
    ∙ unknown_step params a (drop (i + 1) xs)
    ∙ ap (λ (c : Option Place). here_or c (unknown_among params (drop (i + 1) xs))) (sym same)

pub unknown_found : (params : List (List ℕ)) (i : ℕ) (xs : List Assertion) (a : Assertion) (p : Place) → i < length xs → a ≡ get_or xs i a → Some p ≡ unknown_in params a
    → unknown_among params (drop i xs) ≡ Some (p.line, p.column)
unknown_found params i xs a p within is same = unknown_at params i xs a (Some p) within is same

pub unknown_later : (params : List (List ℕ)) (i : ℕ) (xs : List Assertion) (a : Assertion) → i < length xs → a ≡ get_or xs i a → None ≡ unknown_in params a
    → unknown_among params (drop i xs) ≡ unknown_among params (drop (i + 1) xs)
unknown_later params i xs a within is same = unknown_at params i xs a None within is same

pub unknown_none : (params : List (List ℕ)) (i : ℕ) (xs : List Assertion) → length xs ≤ i → unknown_among params (drop i xs) ≡ None
unknown_none params i xs past = at_drop_all (unknown_among params) xs i past

pub position_found : (t : List ℕ → Bool) (xs : List (List ℕ)) (i : ℕ) (x : List ℕ) → i < length xs → x ≡ get_or xs i x → t x ≡ true → position_from t i (drop i xs) ≡ Some i
position_found t xs i x within is passes =
    at_drop_more (position_from t i) xs i x within ∙ ap (λ (b : Bool). cond b (Some i) (position_from t (i + 1) (drop (i + 1) xs))) (ap t (sym is) ∙ passes)

pub position_none : (t : List ℕ → Bool) (xs : List (List ℕ)) (i : ℕ) → length xs ≤ i → position_from t i (drop i xs) ≡ None
position_none t xs i past = at_drop_all (position_from t i) xs i past
