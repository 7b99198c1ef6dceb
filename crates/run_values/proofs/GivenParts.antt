-- What is given to the components of an aggregate.
use mathlib.Core.List.{append-nil}
use Rattle.std.proofs.Common.{◌≤◌, ◌<◌, length, get_or, ◌≡◌, refl, sym, ap, ◌∙◌, arith, ℕ, zero, suc, ◌+◌, Bool, true, false, ℤ, pos, ◌+ℤ◌, List, [], ◌∷◌, ◌++◌, drop}
use Rattle.std.specs.Prelude.{Option, Some, None, map}
use Rattle.typed_units.specs.declared.operators.Bounds.{Bounds}
use Rattle.ada_semantics.specs.Outcome.{pick}
use Rattle.ada_semantics.specs.Operators.{claims, fill}
use Rattle.ada_semantics.specs.Store.{full, slot, empties, wholes, and_more}
use Rattle.run_values.specs.RunValues.{run_value, run_values}
use Rattle.run_values.specs.Components.{slot_of, slots_of}
use Rattle.run_values.specs.declared.values.RunValue.{RunValue}

abbrev pub nones : ℕ → List (Option RunValue)
nones zero = []
nones (suc k) = None ∷ nones k

nones_last : (k : ℕ) → nones k ++ None ∷ [] ≡ nones (suc k)
nones_last zero = refl
nones_last (suc k) = ap (λ os. None ∷ os) (nones_last k)

pub nones_more : (k : ℕ) → nones k ++ None ∷ [] ≡ nones (k + 1)
nones_more k = let e : k + 1 ≡ suc k = omega arith in rw e (nones_last k)

pub nones_empty : (k : ℕ) → slots_of (nones k) ≡ empties k
nones_empty zero = refl
nones_empty (suc k) = ap (slot (slot_of None)) (nones_empty k)

-- ---- what an association gives
abbrev pub fill_given : List Bounds → Bool → ℤ → RunValue → List (Option RunValue) → List (Option RunValue)
fill_given ranges others x v [] = []
fill_given ranges others x v (o ∷ os) = pick (claims ranges others x (slot_of o)) (Some v) o ∷ fill_given ranges others (x +ℤ pos 1) v os

picked : (b : Bool) (v : RunValue) (o : Option RunValue) → slot_of (pick b (Some v) o) ≡ pick b (full (run_value v)) (slot_of o)
picked true v o = refl
picked false v o = refl

pub fill_given_is : (ranges : List Bounds) (others : Bool) (x : ℤ) (v : RunValue) (os : List (Option RunValue)) → slots_of (fill_given ranges others x v os) ≡ fill ranges others x (run_value v) (slots_of os)
fill_given_is ranges others x v [] = refl
fill_given_is ranges others x v (o ∷ os) =
    ap (λ s. slot s (slots_of (fill_given ranges others (x +ℤ pos 1) v os))) (picked (claims ranges others x (slot_of o)) v o)
    ∙ ap (slot (pick (claims ranges others x (slot_of o)) (full (run_value v)) (slot_of o))) (fill_given_is ranges others (x +ℤ pos 1) v os)

-- ---- the values of components that all were given one
pub all_whole : (vs : List RunValue) → wholes (slots_of (map Some vs)) ≡ Some (run_values vs)
all_whole [] = refl
all_whole (v ∷ vs) = ap (and_more (Some (run_value v))) (all_whole vs)

pub one_missing : (vs : List RunValue) (os : List (Option RunValue)) → wholes (slots_of (map Some vs ++ None ∷ os)) ≡ None
one_missing [] os = refl
one_missing (v ∷ vs) os = ap (and_more (Some (run_value v))) (one_missing vs os)

-- ---- at the end of the components, and at one of them
past_end : {A : Type 0} (xs : List A) (i : ℕ) → length xs ≤ i → drop i xs ≡ []
past_end [] zero h = refl
past_end [] (suc i) h = refl
past_end (x ∷ xs) zero h = absurd (omega arith)
past_end (x ∷ xs) (suc i) h = past_end xs i (omega arith)

pub drop_here : {A : Type 0} (xs : List A) (i : ℕ) (d : A) → i < length xs → drop i xs ≡ get_or xs i d ∷ drop (suc i) xs
drop_here [] i d h = absurd (omega arith)
drop_here (x ∷ xs) zero d h = refl
drop_here (x ∷ xs) (suc i) d h = drop_here xs i d (omega arith)

pub whole_end : (vs : List RunValue) (os : List (Option RunValue)) (i : ℕ) → map Some vs ++ drop i os ≡ os → length os ≤ i → Some (run_values vs) ≡ wholes (slots_of os)
whole_end vs os i h w =
    sym (all_whole vs) ∙ ap (λ ps. wholes (slots_of ps)) (sym (append-nil (map Some vs)) ∙ ap (λ t. map Some vs ++ t) (sym (past_end os i w)) ∙ h)

pub missing_here : (vs : List RunValue) (os : List (Option RunValue)) (i : ℕ) (d : Option RunValue) → map Some vs ++ drop i os ≡ os → i < length os → d ≡ get_or os i d → d ≡ None → None ≡ wholes (slots_of os)
missing_here vs os i d h w e z =
    sym (one_missing vs (drop (suc i) os))
    ∙ ap (λ ps. wholes (slots_of ps)) (ap (λ o. map Some vs ++ o ∷ drop (suc i) os) (sym z ∙ e) ∙ ap (λ t. map Some vs ++ t) (sym (drop_here os i d w)) ∙ h)

pub filled_end : (ranges : List Bounds) (others : Bool) (first x : ℤ) (v : RunValue) (new os : List (Option RunValue)) (i : ℕ)
    → new ++ fill_given ranges others x v (drop i os) ≡ fill_given ranges others first v os → length os ≤ i → slots_of new ≡ fill ranges others first (run_value v) (slots_of os)
filled_end ranges others first x v new os i h w =
    ap slots_of (sym (append-nil new) ∙ ap (λ t. new ++ fill_given ranges others x v t) (sym (past_end os i w)) ∙ h) ∙ fill_given_is ranges others first v os
