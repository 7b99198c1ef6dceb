-- First places in lists of names that grow.
use Rattle.std.proofs.Common.{◌≡◌, ℕ, suc, ◌+◌, Bool, true, false, cond, List, [], ◌∷◌, ◌++◌, length, Option, Some, None, refl, sym, ap, ◌∙◌, subst, inl, inr, arith}
use Rattle.std.specs.Prelude.{option_map, if◌then◌else◌}
use Rattle.std.specs.Str.{bytes_eq}
use Rattle.std.proofs.lemmas.Bool.{cases_Bool, cond-false, cond-true, false≢true}
use Rattle.std.proofs.lemmas.Slice.Eq.{bytes_eq-Decides}
use Rattle.name_numbers.specs.Places.{IsPlaceIn, first_place}

abbrev next : Bool → Option ℕ → Option ℕ
next b place = if b then Some 0 else option_map suc place

-- what is found is found where more names follow
found_more : (b : Bool) (place place' : Option ℕ) (p : ℕ) → ((q : ℕ) → place ≡ Some q → place' ≡ Some q) → next b place ≡ Some p → next b place' ≡ Some p
found_more true place place' p h e = e
found_more false None place' p h e = absurd (none_some e)
  where
    none_some : None ≡ Some p → ⊥
    none_some f = cc
found_more false (Some q) place' p h e = ap (option_map suc) (h q refl) ∙ e

pub stays : (names more : List (List ℕ)) (text : List ℕ) (p : ℕ) → first_place names text ≡ Some p → first_place (names ++ more) text ≡ Some p
stays [] more text p e = absurd (let f : ⊥ = cc in f)
stays (n ∷ names) more text p e = found_more (bytes_eq text n) (first_place names text) (first_place (names ++ more) text) p (λ q. stays names more text q) e

not_found : (b : Bool) (place : Option ℕ) → next b place ≡ None → (b ≡ false) × (place ≡ None)
not_found true place e = absurd (let f : ⊥ = cc in f)
not_found false None e = (refl, refl)
not_found false (Some q) e = absurd (let f : ⊥ = cc in f)

next_false : (b : Bool) (place : Option ℕ) → b ≡ false → next b place ≡ option_map suc place
next_false true place e = absurd (false≢true (sym e))
next_false false place e = refl

next_true : (b : Bool) (place : Option ℕ) → b ≡ true → next b place ≡ Some 0
next_true true place e = refl
next_true false place e = absurd (false≢true e)

-- what isn't found in the names is looked for in what follows
pub goes_on : (names more : List (List ℕ)) (text : List ℕ) → first_place names text ≡ None → first_place (names ++ more) text ≡ option_map (λ k. length names + k) (first_place more text)
goes_on [] more text e = same (first_place more text)
  where
    same : (o : Option ℕ) → o ≡ option_map (λ k. 0 + k) o
    same None = refl
    same (Some k) = let z : k ≡ 0 + k = omega arith in ap Some z
goes_on (n ∷ names) more text e =
    let h = not_found (bytes_eq text n) (first_place names text) e in
    next_false (bytes_eq text n) (first_place (names ++ more) text) h.0 ∙ ap (option_map suc) (goes_on names more text h.1) ∙ shift (first_place more text)
  where
    shift : (o : Option ℕ) → option_map suc (option_map (λ k. length names + k) o) ≡ option_map (λ k. suc (length names) + k) o
    shift None = refl
    shift (Some k) = let z : suc (length names + k) ≡ suc (length names) + k = omega arith in ap Some z

equal : (text : List ℕ) → bytes_eq text text ≡ true
equal text = (bytes_eq-Decides text text).1 refl

pub first_here : (text : List ℕ) (more : List (List ℕ)) → first_place (text ∷ more) text ≡ Some 0
first_here text more = next_true (bytes_eq text text) (first_place more text) (equal text)

-- a name that was there is not added
pub known : (names : List (List ℕ)) (name : List ℕ) (p : ℕ) → first_place names name ≡ Some p → (text : List ℕ) → first_place names text ≡ first_place (names ++ name ∷ []) text
known names name p e text = by (first_place names text) refl
  where
    by : (o : Option ℕ) → first_place names text ≡ o → first_place names text ≡ first_place (names ++ name ∷ []) text
    by (Some q) f = f ∙ sym (stays names (name ∷ []) text q f)
    by None f =
        let apart : bytes_eq text name ≡ false = elim (cases_Bool (bytes_eq text name)) [
          | inl t ↦ let same : text ≡ name = (bytes_eq-Decides text name).0 t in absurd (let g : first_place names name ≡ None = subst (λ (x : List ℕ). first_place names x ≡ None) same f in let h : ⊥ = cc in h)
          | inr t ↦ t
        ] in
        f ∙ sym (goes_on names (name ∷ []) text f ∙ ap (option_map (λ k. length names + k)) (next_false (bytes_eq text name) None apart))

pub place_stays : (names : List (List ℕ)) (name : List ℕ) (p : ℕ) → first_place names name ≡ Some p → IsPlaceIn (names ++ name ∷ []) name p
place_stays names name p e more = stays (names ++ name ∷ []) more name p (stays names (name ∷ []) name p e)

-- a new name
pub added : (names : List (List ℕ)) (name : List ℕ) → first_place names name ≡ None → (text : List ℕ) → cond (bytes_eq name text) (Some (length names)) (first_place names text) ≡ first_place (names ++ name ∷ []) text
added names name e text = elim (cases_Bool (bytes_eq name text)) [
  | inl t ↦
      let same : name ≡ text = (bytes_eq-Decides name text).0 t in
      let f : first_place names text ≡ None = subst (λ (x : List ℕ). first_place names x ≡ None) same e in
      let here : first_place (name ∷ []) text ≡ Some 0 = subst (λ (x : List ℕ). first_place (name ∷ []) x ≡ Some 0) same (first_here name []) in
      let z : length names + 0 ≡ length names = omega arith in
      cond-true (bytes_eq name text) (Some (length names)) (first_place names text) t ∙ sym (goes_on names (name ∷ []) text f ∙ ap (option_map (λ k. length names + k)) here ∙ ap Some z)
  | inr t ↦ cond-false (bytes_eq name text) (Some (length names)) (first_place names text) t ∙ apart (first_place names text) refl t
]
  where
    apart : (o : Option ℕ) → first_place names text ≡ o → bytes_eq name text ≡ false → first_place names text ≡ first_place (names ++ name ∷ []) text
    apart (Some q) f t = f ∙ sym (stays names (name ∷ []) text q f)
    apart None f t =
        let other : bytes_eq text name ≡ false = elim (cases_Bool (bytes_eq text name)) [
          | inl u ↦ let same : text ≡ name = (bytes_eq-Decides text name).0 u in absurd (false≢true (sym t ∙ (bytes_eq-Decides name text).1 (sym same)))
          | inr u ↦ u
        ] in
        f ∙ sym (goes_on names (name ∷ []) text f ∙ ap (option_map (λ k. length names + k)) (next_false (bytes_eq text name) None other))

pub place_new : (names : List (List ℕ)) (name : List ℕ) → first_place names name ≡ None → IsPlaceIn (names ++ name ∷ []) name (length names)
place_new names name e more =
    let z : length names + 0 ≡ length names = omega arith in
    let here : first_place (names ++ name ∷ []) name ≡ Some (length names) = goes_on names (name ∷ []) name e ∙ ap (option_map (λ k. length names + k)) (first_here name []) ∙ ap Some z in
    stays (names ++ name ∷ []) more name (length names) here
