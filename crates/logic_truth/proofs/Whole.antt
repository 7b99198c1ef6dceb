-- What the evaluator finds: arrays with as many items as indices, and records by their fields.
use Rattle.std.proofs.Common.{◌≡◌, refl, sym, ◌∙◌, ap, subst, ℕ, zero, suc, ◌<◌, ◌≤◌, ◌+◌, true, List, [], ◌∷◌, ◌++◌, length, Some, arith, take, get_or}
use Rattle.std.proofs.lemmas.List.{take_more}
use Rattle.std.specs.Prelude.{ℤ, slice_get, slice_set}
use Rattle.logic_terms.specs.Value.{Value, Values, no_values, value, value_at, with_value, kind_of, kinds_of, default, defaults}
use Rattle.logic_terms.specs.Meaning.{item, stored}
use Rattle.logic_terms.specs.Arrays.{has_item, is_whole}
use Rattle.logic_truth.specs.Found.{found, found_step, found_all}
use Rattle.logic_truth.specs.declared.found.Found.{Found, roll-Found, map-Found, ind-Found, fold-roll-Found}
use Rattle.logic_truth.specs.declared.found.Found.TheOpen.{Found-F}
use Rattle.logic_terms.proofs.Items.{item_same, whole_filled, whole_stored}

-- ---- as many items as indices

abbrev IsWhole : Found → Type 0
IsWhole v = is_whole (found v) ≡ true

abbrev Proved : Type 0
Proved = (v : Found) × IsWhole v

layer_whole : (y : Found-F Proved) → is_whole (found_step (map-Found Found Value found (map-Found Proved Found (λ e. e.0) y))) ≡ true
layer_whole (Found-F.Num n) = refl
layer_whole (Found-F.Truth b) = refl
layer_whole (Found-F.Filled f l v) = whole_filled f l (found v.0)
layer_whole (Found-F.Stored a i v) = whole_stored (found a.0) i (found v.0) a.1
layer_whole (Found-F.Record vs) = refl

pub found_whole : (v : Found) → is_whole (found v) ≡ true
found_whole = ind-Found IsWhole (λ x y is.
    subst (λ z. IsWhole (roll-Found z)) is
    (ap is_whole (fold-roll-Found Value found_step (map-Found Proved Found (λ e. e.0) y)) ∙ layer_whole y))

-- the item that was stored last is the one at its index
pub item_of_same : (a : Found) (i : ℤ) (v : Value) → has_item (found a) i ≡ true → item (stored (found a) i v) i ≡ v
item_of_same a i v h = item_same (found a) i v (found_whole a) h

-- ---- fields

pub found_at : (vs : List Found) (k : ℕ) (x : Found) (d : Value) → slice_get vs k ≡ Some x → value_at (found_all vs) k d ≡ found x
found_at [] k x d h = absurd (cc)
found_at (v ∷ vs) zero x d h = let e : v ≡ x = cc in ap found e
found_at (v ∷ vs) (suc k) x d h = found_at vs k x d h

pub found_beyond : (vs : List Found) (k : ℕ) (d : Value) → length vs ≤ k → value_at (found_all vs) k d ≡ d
found_beyond [] k d h = refl
found_beyond (v ∷ vs) zero d h = absurd (omega arith)
found_beyond (v ∷ vs) (suc k) d h = found_beyond vs k d (omega arith)

pub found_set : (vs : List Found) (k : ℕ) (x : Found) → found_all (slice_set vs k x) ≡ with_value (found_all vs) k (found x)
found_set [] k x = refl
found_set (v ∷ vs) zero x = refl
found_set (v ∷ vs) (suc k) x = ap (value (found v)) (found_set vs k x)

pub found_not_set : (vs : List Found) (k : ℕ) (v : Value) → length vs ≤ k → with_value (found_all vs) k v ≡ found_all vs
found_not_set [] k v h = refl
found_not_set (u ∷ vs) zero v h = absurd (omega arith)
found_not_set (u ∷ vs) (suc k) v h = ap (value (found u)) (found_not_set vs k v (omega arith))

-- ---- lists that grow

abbrev pub then_value : Values → Value → Values
then_value no_values v = value v no_values
then_value (value u vs) v = value u (then_value vs v)

pub found-push : (xs : List Found) (x : Found) → found_all (xs ++ x ∷ []) ≡ then_value (found_all xs) (found x)
found-push [] x = refl
found-push (y ∷ xs) x = ap (value (found y)) (found-push xs x)

pub defaults-push : (vs : Values) (v : Value) → defaults (kinds_of (then_value vs v)) ≡ then_value (defaults (kinds_of vs)) (default (kind_of v))
defaults-push no_values v = refl
defaults-push (value u vs) v = ap (value (default (kind_of u))) (defaults-push vs v)

-- a loop that finds the defaults of some values
pub defaults_more : (items xs new : List Found) (i : ℕ) (v x : Found) → i < length items → v ≡ get_or items i v → found_all xs ≡ defaults (kinds_of (found_all (take i items))) → found x ≡ default (kind_of (found v)) → new ≡ xs ++ x ∷ [] → found_all new ≡ defaults (kinds_of (found_all (take (i + 1) items)))
defaults_more items xs new i v x h is before e more =
    let read : take (i + 1) items ≡ take i items ++ v ∷ [] = take_more items i v h ∙ ap (λ y. take i items ++ y ∷ []) (sym is) in
    ap found_all more ∙ found-push xs x ∙ ap (λ us. then_value us (found x)) before ∙ ap (then_value (defaults (kinds_of (found_all (take i items))))) e ∙ sym (defaults-push (found_all (take i items)) (found v)) ∙ ap (λ us. defaults (kinds_of us)) (sym (found-push (take i items) v)) ∙ ap (λ us. defaults (kinds_of (found_all us))) (sym read)
