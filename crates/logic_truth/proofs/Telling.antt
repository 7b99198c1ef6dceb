-- The indices by which two arrays are told apart.
use Rattle.std.proofs.Common.{◌≡◌, ◌≢◌, refl, sym, ◌∙◌, ap, subst, ℕ, zero, suc, ◌<◌, ◌+◌, Bool, true, false, ◌||◌, List, [], ◌∷◌, ◌++◌, length, get_or, drop, ◌⊎◌, inl, inr, arith}
use Rattle.std.proofs.lemmas.Bool.{and_from, false≢true}
use Rattle.std.proofs.lemmas.Int.{ints}
use Rattle.std.specs.Prelude.{ℤ, pos, ◌+ℤ◌, ◌≤ℤ◌, ◌<ℤ◌, int_le}
use Rattle.logic_terms.specs.Value.{Value, number, truth, array, record_of, same_int}
use Rattle.logic_terms.specs.Meaning.{item, stored, filled, first, last, within}
use Rattle.logic_terms.specs.Arrays.{has_item}
use Rattle.logic_truth.specs.Places.{is_array, is_place, IsFlat, Tells}
use Rattle.logic_truth.specs.Found.{found, found_step}
use Rattle.logic_truth.specs.declared.found.Found.{Found, roll-Found, map-Found, ind-Found, fold-roll-Found}
use Rattle.logic_truth.specs.declared.found.Found.TheOpen.{Found-F}
use Rattle.logic_truth.specs.declared.found.Found.TheVariants as v
use Rattle.logic_truth.proofs.Steps.{found-Filled, found-Stored}
use Rattle.logic_terms.proofs.Items.{item_filled, item_other, has_item_stored, within_first, within_last}
use Rattle.logic_terms.proofs.SameNodes.{same_int-is, same_int-refl}

-- ---- places

pub is_place-append : (ps qs : List ℤ) (i : ℤ) → is_place (ps ++ qs) i ≡ (is_place ps i || is_place qs i)
is_place-append [] qs i = refl
is_place-append (p ∷ ps) qs i = ap (λ b. same_int p i || b) (is_place-append ps qs i) ∙ go (same_int p i) (is_place ps i) (is_place qs i)
  where
    go : (a b c : Bool) → (a || (b || c)) ≡ ((a || b) || c)
    go true b c = refl
    go false b c = refl

or_first : (a b : Bool) → (a || b) ≡ false → a ≡ false
or_first true b h = h
or_first false b h = refl

or_second : (a b : Bool) → (a || b) ≡ false → b ≡ false
or_second true b h = absurd (false≢true (sym h))
or_second false b h = h

or_left : (a b : Bool) → a ≡ true → (a || b) ≡ true
or_left a b h = ap (λ c. c || b) h

or_right : (a b : Bool) → b ≡ true → (a || b) ≡ true
or_right true b h = refl
or_right false b h = h

not_first : (ps qs : List ℤ) (i : ℤ) → is_place (ps ++ qs) i ≡ false → is_place ps i ≡ false
not_first ps qs i h = or_first _ (is_place qs i) (sym (is_place-append ps qs i) ∙ h)

not_second : (ps qs : List ℤ) (i : ℤ) → is_place (ps ++ qs) i ≡ false → is_place qs i ≡ false
not_second ps qs i h = or_second (is_place ps i) _ (sym (is_place-append ps qs i) ∙ h)

apart : (ps : List ℤ) (p i : ℤ) → is_place (ps ++ p ∷ []) i ≡ false → p ≢ i
apart ps p i h e = false≢true (sym (or_first (same_int p i) false (not_second ps (p ∷ []) i h)) ∙ ap (same_int p) (sym e) ∙ same_int-refl p)

pub place_drop : (ps : List ℤ) (i : ℕ) (p at : ℤ) → i < length ps → p ≡ get_or ps i p → is_place (drop i ps) at ≡ (same_int p at || is_place (drop (i + 1) ps) at)
place_drop [] i p at h is = absurd (omega arith)
place_drop (q ∷ ps) zero p at h is = ap (λ x. same_int x at || is_place ps at) (sym is)
place_drop (q ∷ ps) (suc i) p at h is =
    let e : suc i + 1 ≡ suc (i + 1) = omega arith in
    place_drop ps i p at (omega arith) is ∙ ap (λ j. same_int p at || is_place (drop j (q ∷ ps)) at) (sym e)

pub same_int-not : (a b : ℤ) → a ≢ b → same_int a b ≡ false
same_int-not a b h = go (same_int a b) (same_int-is a b)
  where
    go : (c : Bool) → (c ≡ true → a ≡ b) → c ≡ false
    go true f = absurd (h (f refl))
    go false f = refl

-- ---- arrays that are flat outside some places

pub flat_no_item : (a : Value) → ((i : ℤ) → has_item a i ≡ false) → IsFlat [] a
flat_no_item a none i j h k m n = absurd (false≢true (sym (none i) ∙ h))

pub flat_filled : (f l : ℤ) (v : Value) → IsFlat [] (filled f l v)
flat_filled f l v i j h k m n = item_filled f l v i h ∙ sym (item_filled f l v j k)

pub flat_stored : (ps : List ℤ) (a : Value) (p : ℤ) (v : Value) → IsFlat ps a → IsFlat (ps ++ p ∷ []) (stored a p v)
flat_stored ps a p v flat i j h k m n =
    let hi : has_item a i ≡ true = sym (has_item_stored a p v i) ∙ h in
    let hj : has_item a j ≡ true = sym (has_item_stored a p v j) ∙ k in
    item_other a p v i hi (apart ps p i m) ∙ flat i j hi hj (not_first ps (p ∷ []) i m) (not_first ps (p ∷ []) j n) ∙ sym (item_other a p v j hj (apart ps p j n))

-- ---- places that tell two arrays apart

has_within : (a : Value) (i : ℤ) → has_item a i ≡ true → within (first a) (last a) i ≡ true
has_within (array k f l vs) i h = h
has_within (number n) i h = absurd (false≢true h)
has_within (truth n) i h = absurd (false≢true h)
has_within (record_of n) i h = absurd (false≢true h)

within_has : (a : Value) (i : ℤ) → is_array a ≡ true → within (first a) (last a) i ≡ true → has_item a i ≡ true
within_has (array k f l vs) i e h = h
within_has (number n) i e h = absurd (false≢true e)
within_has (truth n) i e h = absurd (false≢true e)
within_has (record_of n) i e h = absurd (false≢true e)

module _ (a b : Value) (ps qs : List ℤ) (whole : is_array a ≡ true) (bounds : (i : ℤ) → has_item a i ≡ has_item b i) (flat : IsFlat ps a) (flat' : IsFlat qs b) where
  pub tells_all : ((i : ℤ) → within (first a) (last a) i ≡ true → is_place (ps ++ qs) i ≡ true) → Tells (ps ++ qs) a b
  tells_all all i h = (i, all i (has_within a i h), h, refl, refl)

  pub tells_free : (free : ℤ) → within (first a) (last a) free ≡ true → is_place (ps ++ qs) free ≡ false → Tells (ps ++ qs ++ free ∷ []) a b
  tells_free free w n i h = go (is_place (ps ++ qs) i) refl
    where
      go : (c : Bool) → is_place (ps ++ qs) i ≡ c → (p : ℤ) × (is_place (ps ++ qs ++ free ∷ []) p ≡ true) × (has_item a p ≡ true) × (item a i ≡ item a p) × (item b i ≡ item b p)
      go true e = (i, is_place-append (ps ++ qs) (free ∷ []) i ∙ or_left _ _ e, h, refl, refl)
      go false e =
          let has : has_item a free ≡ true = within_has a free whole w in (
            free,
            is_place-append (ps ++ qs) (free ∷ []) free ∙ or_right (is_place (ps ++ qs) free) _ (or_left (same_int free free) false (same_int-refl free)),
            has,
            flat i free h has (not_first ps qs i e) (not_first ps qs free n),
            flat' i free (sym (bounds i) ∙ h) (sym (bounds free) ∙ has) (not_second ps qs i e) (not_second ps qs free n),
          )

-- ---- the first free place

either : (x y : ℤ) → (x ≡ y) ⊎ (x ≢ y)
either x y = go (same_int x y) refl
  where
    go : (c : Bool) → same_int x y ≡ c → (x ≡ y) ⊎ (x ≢ y)
    go true e = inl (same_int-is x y e)
    go false e = inr (λ h. false≢true (sym e ∙ ap (same_int x) (sym h) ∙ same_int-refl x))

pub free_more : (ps : List ℤ) (first at next : ℤ) → ((i : ℤ) → first ≤ℤ i → i <ℤ at → is_place ps i ≡ true) → is_place ps at ≡ true → next ≡ at +ℤ pos 1 → (i : ℤ) → first ≤ℤ i → i <ℤ next → is_place ps i ≡ true
free_more ps first at next before here is i h k = go (either i at)
  where
    go : (i ≡ at) ⊎ (i ≢ at) → is_place ps i ≡ true
    go (inl e) = ap (is_place ps) e ∙ here
    go (inr n) = let lt : i <ℤ at = omega (arith, ints, n, k, is) in before i h lt

-- no place is free where the last index is none
pub none_free : (ps : List ℤ) (first last at : ℤ) → ((i : ℤ) → first ≤ℤ i → i <ℤ at → is_place ps i ≡ true) → is_place ps at ≡ true → at ≡ last → (i : ℤ) → within first last i ≡ true → is_place ps i ≡ true
none_free ps first last at before here is i w =
    let l : i ≤ℤ last = within_last first last i w in
    let lt : i <ℤ (at +ℤ pos 1) = omega (arith, ints, l, is) in
    free_more ps first at (at +ℤ pos 1) before here refl i (within_first first last i w) lt

-- nor where the indices are passed
pub all_passed : (ps : List ℤ) (first last at : ℤ) → ((i : ℤ) → first ≤ℤ i → i <ℤ at → is_place ps i ≡ true) → last <ℤ at → (i : ℤ) → within first last i ≡ true → is_place ps i ≡ true
all_passed ps first last at before past i w =
    let l : i ≤ℤ last = within_last first last i w in
    let lt : i <ℤ at = omega (arith, ints, l, past) in before i (within_first first last i w) lt

pub in_bounds : (first last at : ℤ) → first ≤ℤ at → at ≤ℤ last → within first last at ≡ true
in_bounds first last at h k =
    let a : int_le first at ≡ true = grind (arith, ints, h) in
    let b : int_le at last ≡ true = grind (arith, ints, k) in
    and_from _ _ a b

tells_as : (a b : Value) (ps qs : List ℤ) → ps ≡ qs → Tells ps a b → Tells qs a b
tells_as a b ps qs e h = subst (λ rs. Tells rs a b) e h

-- the same, as the code states it
pub tells_with : (a b : Value) (ps qs rs ts : List ℤ) (free f l : ℤ) → is_array a ≡ true → ((i : ℤ) → has_item a i ≡ has_item b i) → IsFlat ps a → IsFlat qs b → rs ≡ ps ++ qs → f ≡ first a → l ≡ last a → within f l free ≡ true → is_place rs free ≡ false → ts ≡ rs ++ free ∷ [] → Tells ts a b
tells_with a b ps qs rs ts free f l whole bounds flat flat' r p q w n e =
    let w' : within (first a) (last a) free ≡ true = subst (λ x. within x (last a) free ≡ true) p (subst (λ y. within f y free ≡ true) q w) in
    let n' : is_place (ps ++ qs) free ≡ false = subst (λ x. is_place x free ≡ false) r n in
    tells_as a b (ps ++ qs ++ free ∷ []) ts (sym (e ∙ ap (λ x. x ++ free ∷ []) r)) (tells_free a b ps qs whole bounds flat flat' free w' n')

pub tells_without : (a b : Value) (ps qs rs : List ℤ) (f l : ℤ) → is_array a ≡ true → ((i : ℤ) → has_item a i ≡ has_item b i) → IsFlat ps a → IsFlat qs b → rs ≡ ps ++ qs → f ≡ first a → l ≡ last a → ((i : ℤ) → within f l i ≡ true → is_place rs i ≡ true) → Tells rs a b
tells_without a b ps qs rs f l whole bounds flat flat' r p q all =
    tells_as a b (ps ++ qs) rs (sym r) (tells_all a b ps qs whole bounds flat flat' (λ i w.
    subst (λ x. is_place x i ≡ true) r (all i (subst (λ x. within x l i ≡ true) (sym p) (subst (λ y. within (first a) y i ≡ true) (sym q) w)))))

-- ---- arrays that were found

pub flat_in_filled : (w : Found) (f l : ℤ) (x : Found) → w ≡ v.Filled f l x → IsFlat [] (found w)
flat_in_filled w f l x e = subst (IsFlat []) (sym (ap found e ∙ found-Filled f l x)) (flat_filled f l (found x))

pub flat_below : (w a : Found) (i : ℤ) (x : Found) (ps : List ℤ) → w ≡ v.Stored a i x → IsFlat ps (found a) → IsFlat (ps ++ i ∷ []) (found w)
flat_below w a i x ps e h = subst (IsFlat (ps ++ i ∷ [])) (sym (ap found e ∙ found-Stored a i x)) (flat_stored ps (found a) i (found x) h)

plain_layer : (x : Found-F Found) → ((a : Found) (i : ℤ) (z : Found) → roll-Found x ≡ v.Stored a i z → ⊥) → IsFlat [] (found_step (map-Found Found Value found x))
plain_layer (Found-F.Num n) h = flat_no_item (number n) (λ i. refl)
plain_layer (Found-F.Truth b) h = flat_no_item (truth b) (λ i. refl)
plain_layer (Found-F.Filled f l z) h = flat_filled f l (found z)
plain_layer (Found-F.Stored a i z) h = absurd (h a i z (v.rolls-Stored a i z))
plain_layer (Found-F.Record vs) h = flat_no_item (found_step (map-Found Found Value found (Found-F.Record vs))) (λ i. refl)

abbrev Plain : Found → Type 0
Plain w = ((a : Found) (i : ℤ) (z : Found) → w ≡ v.Stored a i z → ⊥) → IsFlat [] (found w)

pub flat_plain : (w : Found) → ((a : Found) (i : ℤ) (z : Found) → w ≡ v.Stored a i z → ⊥) → IsFlat [] (found w)
flat_plain = ind-Found Plain (λ x y is h. subst (IsFlat []) (sym (fold-roll-Found Value found_step x)) (plain_layer x h))
