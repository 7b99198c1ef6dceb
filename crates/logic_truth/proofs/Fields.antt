-- Fields and items that are compared one after another.
use Rattle.std.proofs.Common.{◌≡◌, ◌≢◌, refl, sym, ◌∙◌, ap, ℕ, zero, suc, ◌<◌, ◌≤◌, ◌+◌, Bool, true, false, ◌&&◌, List, [], ◌∷◌, length, get_or, drop, arith}
use Rattle.std.specs.Prelude.{ℤ}
use Rattle.logic_terms.specs.Value.{Value, record_of, Values, value, same_value, same_values}
use Rattle.logic_terms.specs.Meaning.{stored}
use Rattle.logic_truth.specs.Places.{is_record, same_here, same_at}
use Rattle.logic_truth.specs.Size.{size, sizes, size_step}
use Rattle.logic_truth.specs.Found.{found, found_all}
use Rattle.logic_truth.specs.declared.found.Found.{Found, fold-roll-Found}
use Rattle.logic_truth.specs.declared.found.Found.TheVariants as v
use Rattle.logic_truth.specs.declared.found.Found.TheOpen as open_
use Rattle.logic_truth.proofs.Steps.{found-Stored, found-Record}
use Rattle.logic_truth.proofs.Alike.{is_record_stored}

-- ---- sizes

pub size-Filled : (f l : ℤ) (x : Found) → size (v.Filled f l x) ≡ 1 + size x
size-Filled f l x = ap size (sym (v.rolls-Filled f l x)) ∙ fold-roll-Found ℕ size_step (open_.Filled f l x)

pub size-Stored : (a : Found) (i : ℤ) (x : Found) → size (v.Stored a i x) ≡ 1 + size a + size x
size-Stored a i x = ap size (sym (v.rolls-Stored a i x)) ∙ fold-roll-Found ℕ size_step (open_.Stored a i x)

pub size-Record : (vs : List Found) → size (v.Record vs) ≡ 1 + sizes vs
size-Record vs = ap size (sym (v.rolls-Record vs)) ∙ fold-roll-Found ℕ size_step (open_.Record vs)

pub size_at : (vs : List Found) (i : ℕ) (x : Found) → i < length vs → x ≡ get_or vs i x → size x ≤ sizes vs
size_at [] i x h is = absurd (omega arith)
size_at (y ∷ vs) zero x h is = let e = ap size is in omega (arith, e)
size_at (y ∷ vs) (suc i) x h is = let e : size x ≤ sizes vs = size_at vs i x (omega arith) is in omega (arith, e)

-- ---- the fields of a record

pub fields_in : (w : Found) (vs : List Found) → w ≡ v.Record vs → (found w ≡ record_of (found_all vs)) × (sizes vs < size w)
fields_in w vs e = (ap found e ∙ found-Record vs, (let s = ap size e ∙ size-Record vs in omega (arith, s)))

stored_record : (us : Values) (a : Value) (i : ℤ) (x : Value) → a ≡ record_of us → stored a i x ≡ record_of us
stored_record us a i x e = ap (λ b. stored b i x) e

pub fields_below : (w a : Found) (i : ℤ) (x : Found) (vs : List Found) → w ≡ v.Stored a i x → found a ≡ record_of (found_all vs) → sizes vs < size a → (found w ≡ record_of (found_all vs)) × (sizes vs < size w)
fields_below w a i x vs e h lt =
    let s = ap size e ∙ size-Stored a i x in
    (ap found e ∙ found-Stored a i x ∙ stored_record (found_all vs) (found a) i (found x) h, omega (arith, s))

pub no_fields_below : (w a : Found) (i : ℤ) (x : Found) → w ≡ v.Stored a i x → is_record (found a) ≡ false → is_record (found w) ≡ false
no_fields_below w a i x e h = ap (λ u. is_record u) (ap found e ∙ found-Stored a i x) ∙ is_record_stored (found a) i (found x) ∙ h

found_drop : (vs : List Found) (i : ℕ) (x : Found) → i < length vs → x ≡ get_or vs i x → found_all (drop i vs) ≡ value (found x) (found_all (drop (i + 1) vs))
found_drop [] i x h is = absurd (omega arith)
found_drop (y ∷ vs) zero x h is = ap (λ z. value (found z) (found_all vs)) (sym is)
found_drop (y ∷ vs) (suc i) x h is =
    let e : suc i + 1 ≡ suc (i + 1) = omega arith in
    found_drop vs i x (omega arith) is ∙ ap (λ j. value (found x) (found_all (drop j (y ∷ vs)))) (sym e)

pub fields_turn : (vs ws : List Found) (i : ℕ) (x y : Found) → i < length vs → length vs ≡ length ws → x ≡ get_or vs i x → y ≡ get_or ws i y → same_values (found_all (drop i vs)) (found_all (drop i ws)) ≡ (same_value (found x) (found y) && same_values (found_all (drop (i + 1) vs)) (found_all (drop (i + 1) ws)))
fields_turn vs ws i x y h e p q =
    ap (λ us. same_values us (found_all (drop i ws))) (found_drop vs i x h p) ∙ ap (same_values (value (found x) (found_all (drop (i + 1) vs)))) (found_drop ws i y (omega arith) q)

pub fields_differ : (vs ws : List Found) (i : ℕ) (x y : Found) (start : Bool) → start ≡ same_values (found_all (drop i vs)) (found_all (drop i ws)) → i < length vs → length vs ≡ length ws → x ≡ get_or vs i x → y ≡ get_or ws i y → same_value (found x) (found y) ≡ false → start ≡ false
fields_differ vs ws i x y start s h e p q n = s ∙ fields_turn vs ws i x y h e p q ∙ ap (λ b. b && same_values (found_all (drop (i + 1) vs)) (found_all (drop (i + 1) ws))) n

pub fields_more : (vs ws : List Found) (i : ℕ) (x y : Found) (start : Bool) → start ≡ same_values (found_all (drop i vs)) (found_all (drop i ws)) → i < length vs → length vs ≡ length ws → x ≡ get_or vs i x → y ≡ get_or ws i y → same_value (found x) (found y) ≡ true → start ≡ same_values (found_all (drop (i + 1) vs)) (found_all (drop (i + 1) ws))
fields_more vs ws i x y start s h e p q n = s ∙ fields_turn vs ws i x y h e p q ∙ ap (λ b. b && same_values (found_all (drop (i + 1) vs)) (found_all (drop (i + 1) ws))) n

pub fields_end : (vs ws : List Found) (i : ℕ) → length vs ≤ i → length vs ≡ length ws → same_values (found_all (drop i vs)) (found_all (drop i ws)) ≡ true
fields_end [] [] zero h e = refl
fields_end [] [] (suc i) h e = refl
fields_end [] (w ∷ ws) i h e = absurd (omega arith)
fields_end (x ∷ vs) [] i h e = absurd (omega arith)
fields_end (x ∷ vs) (w ∷ ws) zero h e = absurd (omega arith)
fields_end (x ∷ vs) (w ∷ ws) (suc i) h e = fields_end vs ws i (omega arith) (omega arith)

and_false : (a b : Bool) → b ≡ false → (a && b) ≡ false
and_false true b h = h
and_false false b h = refl

pub fields_lengths : (vs ws : List Found) → length vs ≢ length ws → same_values (found_all vs) (found_all ws) ≡ false
fields_lengths [] [] h = absurd (h refl)
fields_lengths [] (w ∷ ws) h = refl
fields_lengths (x ∷ vs) [] h = refl
fields_lengths (x ∷ vs) (w ∷ ws) h = and_false (same_value (found x) (found w)) _ (fields_lengths vs ws (λ e. h (ap (λ n. suc n) e)))

-- ---- items at places

pub places_turn : (a b : Value) (ps : List ℤ) (i : ℕ) (p : ℤ) → i < length ps → p ≡ get_or ps i p → same_at a b (drop i ps) ≡ (same_here a b p && same_at a b (drop (i + 1) ps))
places_turn a b [] i p h is = absurd (omega arith)
places_turn a b (q ∷ ps) zero p h is = ap (λ x. same_here a b x && same_at a b ps) (sym is)
places_turn a b (q ∷ ps) (suc i) p h is =
    let e : suc i + 1 ≡ suc (i + 1) = omega arith in
    places_turn a b ps i p (omega arith) is ∙ ap (λ j. same_here a b p && same_at a b (drop j (q ∷ ps))) (sym e)
