-- What is left of a list after so many items, by what its next item is.
use Rattle.std.proofs.Common.{◌≡◌, ◌≤◌, refl, ap, sym, ◌∙◌, ℕ, ◌+◌, List, [], ◌∷◌, Option, Some, None, drop, inl, inr, length, map}
use Rattle.std.specs.List.{slice_get}
use Rattle.type_base.specs.declared.world.Subtype.{Subtype}
use Rattle.statement_typing.specs.Units.{types_of}
use Rattle.program_parts.specs.Finished.{type_named}
use Rattle.std.specs.Prelude.{option_map, unwrap_or}
use Rattle.std.proofs.lemmas.List.{drop_all, drop_more}
use Rattle.std.proofs.lemmas.Option.{slice_get-map, slice_get_cases, slice_get_within, unwrap_or-slice_get}

pub one_more : {A : Type 0} → (xs : List A) (n : ℕ) (x : A) → slice_get xs n ≡ Some x → drop n xs ≡ x ∷ drop (n + 1) xs
one_more xs n x e =
    drop_more xs n x (slice_get_within xs n x e)
    ∙ ap (λ y. y ∷ drop (n + 1) xs) (sym (unwrap_or-slice_get xs n x) ∙ ap (λ o. unwrap_or o x) e)

pub past : {A : Type 0} → (xs : List A) (n : ℕ) → length xs ≤ n → drop n xs ≡ []
past xs n h = drop_all n xs h

pub no_more : {A : Type 0} → (xs : List A) (n : ℕ) → slice_get xs n ≡ None → drop n xs ≡ []
no_more {A = A} xs n e = elim (slice_get_cases xs n).1 as (λ c. drop n xs ≡ []) [ inl w ↦ never w.0 w.2 | inr w ↦ drop_all n xs w.0 ]
  where
    never : (x : A) → slice_get xs n ≡ Some x → drop n xs ≡ []
    never x h = let d : None ≡ Some x = sym e ∙ h in cc

pub one_of_mapped : {A : Type 0} → {B : Type 0} → (v : A → B) (xs : List A) (n : ℕ) → slice_get (map v xs) n ≡ option_map v (slice_get xs n)
one_of_mapped v xs n = slice_get-map v xs n

pub one_mapped : {A : Type 0} → {B : Type 0} → (f : A → B) (xs : List A) (n : ℕ) (x : A) → slice_get xs n ≡ Some x → map f (drop n xs) ≡ f x ∷ map f (drop (n + 1) xs)
one_mapped f xs n x e = ap (map f) (one_more xs n x e)

-- ---- names beside subtypes

abbrev NameList : Type 0
NameList = List (Option (List ℕ))

pub one_type : (ns : NameList) (ss : List Subtype) (k : ℕ) (n : Option (List ℕ)) (s : Subtype) → slice_get ns k ≡ Some n → slice_get ss k ≡ Some s
    → types_of (drop k ns) (drop k ss) ≡ type_named n s ∷ types_of (drop (k + 1) ns) (drop (k + 1) ss)
one_type ns ss k n s e h = ap (λ (z : NameList). types_of z (drop k ss)) (one_more ns k n e) ∙ ap (λ (z : List Subtype). types_of (n ∷ drop (k + 1) ns) z) (one_more ss k s h)

pub no_name : (ns : NameList) (ss : List Subtype) (k : ℕ) → slice_get ns k ≡ None → types_of (drop k ns) (drop k ss) ≡ []
no_name ns ss k e = ap (λ (z : NameList). types_of z (drop k ss)) (no_more ns k e)

without : (ns : NameList) → types_of ns [] ≡ []
without [] = refl
without (n ∷ ns) = refl

pub no_subtype : (ns : NameList) (ss : List Subtype) (k : ℕ) → slice_get ss k ≡ None → types_of (drop k ns) (drop k ss) ≡ []
no_subtype ns ss k e = ap (types_of (drop k ns)) (no_more ss k e) ∙ without (drop k ns)

pub past_names : (ns : NameList) (ss : List Subtype) (k : ℕ) → length ns ≤ k → types_of (drop k ns) (drop k ss) ≡ []
past_names ns ss k h = ap (λ (z : NameList). types_of z (drop k ss)) (past ns k h)
