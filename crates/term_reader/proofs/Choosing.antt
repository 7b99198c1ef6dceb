-- The word at the front of a text, of a list of words.
use Rattle.std.proofs.Common.{◌≡◌, refl, sym, ◌∙◌, ap, ap₂, subst, ℕ, zero, suc, ◌+◌, ◌<◌, ◌≤◌, max, Bool, true, false, List, [], ◌∷◌, ◌++◌, length, get_or, take, drop, arith, inl, inr}
use Rattle.std.specs.Prelude.{◌==◌}
use Rattle.std.specs.Ordering.{ord_max, nat_cmp}
use Rattle.std.proofs.lemmas.List.{take-append-drop, drop-drop, drop_all, drop_more}
use Rattle.std.proofs.lemmas.Bool.{false≢true, eqb-true, ne_eqb, eq-eqb, cond-true, cond-false, cases_Bool, cases_lt}
use Rattle.term_reader.specs.Bytes.{first}
use Rattle.term_reader.specs.Words.{common_of, furthest_of, word_at, IsNoWord}
use Rattle.term_reader.proofs.Digits.{same_head, same_tail}
use Rattle.term_reader.proofs.Fronts.{front_dropped, first_at_end, first_dropped}

-- ---- what a word and a text have in common

common_head : (x : ℕ) (w s r : List ℕ) → s ≡ x ∷ r → common_of (x ∷ w) s ≡ suc (common_of w r)
common_head x w s r e = ap (common_of (x ∷ w)) e ∙ cond-true (x == x) (suc (common_of w r)) 0 (eq-eqb x x refl)

pub common_step : (w bytes : List ℕ) (i j : ℕ) → i < length w → get_or w i 0 < 256 → first (drop j bytes) ≡ get_or w i 0 → common_of (drop i w) (drop j bytes) ≡ suc (common_of (drop (i + 1) w) (drop (j + 1) bytes))
common_step w bytes i j h b e = elim (cases_lt j (length bytes)) [
  | inl l ↦ ap (λ (v : List ℕ). common_of v (drop j bytes)) (front_dropped w i h)
      ∙ common_head (get_or w i 0) (drop (i + 1) w) (drop j bytes) (drop (j + 1) bytes)
      (front_dropped bytes j l ∙ ap (λ (x : ℕ). x ∷ drop (j + 1) bytes) (sym (first_dropped bytes j l) ∙ e))
  | inr g ↦ absurd (let k : 256 ≡ get_or w i 0 = sym (first_at_end bytes j g) ∙ e in omega arith)
]

common_none : (x y : ℕ) (w s r : List ℕ) → s ≡ y ∷ r → (y ≡ x → ⊥) → common_of (x ∷ w) s ≡ 0
common_none x y w s r e n = ap (common_of (x ∷ w)) e ∙ cond-false (y == x) (suc (common_of w r)) 0 (ne_eqb y x n)

pub common_stop : (w bytes : List ℕ) (i j : ℕ) → i < length w → (first (drop j bytes) ≡ get_or w i 0 → ⊥) → common_of (drop i w) (drop j bytes) ≡ 0
common_stop w bytes i j h n = elim (cases_lt j (length bytes)) [
  | inl l ↦ ap (λ (v : List ℕ). common_of v (drop j bytes)) (front_dropped w i h)
      ∙ common_none (get_or w i 0) (get_or bytes j 0) (drop (i + 1) w) (drop j bytes) (drop (j + 1) bytes) (front_dropped bytes j l)
      (λ e. n (first_dropped bytes j l ∙ e))
  | inr g ↦ ap₂ common_of (front_dropped w i h) (drop_all j bytes g)
]

pub common_end : (w s : List ℕ) (i : ℕ) → length w ≤ i → common_of (drop i w) s ≡ 0
common_end w s i h = ap (λ (v : List ℕ). common_of v s) (drop_all i w h)

-- ---- a whole word

none_more : (n : ℕ) → 0 ≡ suc n → ⊥
none_more n e = omega arith

pub word_front : (w s : List ℕ) → common_of w s ≡ length w → s ≡ w ++ drop (length w) s
word_front [] s e = refl
word_front (x ∷ w) [] e = absurd (none_more _ e)
word_front (x ∷ w) (y ∷ s) e = elim (cases_Bool (y == x)) [
  | inl h ↦ let k : suc (common_of w s) ≡ suc (length w) = sym (cond-true (y == x) (suc (common_of w s)) 0 h) ∙ e in
      let c : common_of w s ≡ length w = omega arith in
      ap₂ (λ (z : ℕ) (t : List ℕ). z ∷ t) (eqb-true y x h) (word_front w s c)
  | inr h ↦ absurd (none_more _ (sym (cond-false (y == x) (suc (common_of w s)) 0 h) ∙ e))
]

common_within : (w s : List ℕ) → (common_of w s ≤ length w) × (common_of w s ≤ length s)
common_within [] s = (omega arith, omega arith)
common_within (x ∷ w) [] = (omega arith, omega arith)
common_within (x ∷ w) (y ∷ s) = elim (cases_Bool (y == x)) [
  | inl h ↦ let k : common_of (x ∷ w) (y ∷ s) ≡ suc (common_of w s) = cond-true (y == x) (suc (common_of w s)) 0 h in
      let r = common_within w s in (let a = r.0 in omega arith, let a = r.1 in omega arith)
  | inr h ↦ let k : common_of (x ∷ w) (y ∷ s) ≡ 0 = cond-false (y == x) (suc (common_of w s)) 0 h in (omega arith, omega arith)
]

-- ---- no word

front_common : (w s : List ℕ) → w ≡ take (common_of w s) s ++ drop (common_of w s) w
front_common [] s = refl
front_common (x ∷ w) [] = refl
front_common (x ∷ w) (y ∷ s) = elim (cases_Bool (y == x)) [
  | inl h ↦ let k : common_of (x ∷ w) (y ∷ s) ≡ suc (common_of w s) = cond-true (y == x) (suc (common_of w s)) 0 h in
      subst (λ (n : ℕ). x ∷ w ≡ take n (y ∷ s) ++ drop n (x ∷ w)) (sym k)
      (ap₂ (λ (z : ℕ) (t : List ℕ). z ∷ t) (sym (eqb-true y x h)) (front_common w s))
  | inr h ↦ let k : common_of (x ∷ w) (y ∷ s) ≡ 0 = cond-false (y == x) (suc (common_of w s)) 0 h in
      subst (λ (n : ℕ). x ∷ w ≡ take n (y ∷ s) ++ drop n (x ∷ w)) (sym k) refl
]

no_common : (w s k rest : List ℕ) (m : ℕ) → ((i : ℕ) → get_or w i 0 < 256) → m ≤ length s → common_of w s ≤ m → common_of w s < length w → w ++ k ≡ take m s ++ (first (drop m s) ∷ rest) → ⊥
no_common [] s k rest m b h l f e = omega arith
no_common (x ∷ w) [] k rest zero b h l f e =
    let c : x < 256 = b 0 in
    let d : x ≡ 256 = same_head x 256 (w ++ k) rest e in omega arith
no_common (x ∷ w) [] k rest (suc m) b h l f e = omega arith
no_common (x ∷ w) (y ∷ s) k rest zero b h l f e =
    let d : y ≡ x = sym (same_head x y (w ++ k) rest e) in
    let c : common_of (x ∷ w) (y ∷ s) ≡ suc (common_of w s) = cond-true (y == x) (suc (common_of w s)) 0 (eq-eqb y x d) in
    omega arith
no_common (x ∷ w) (y ∷ s) k rest (suc m) b h l f e =
    let d : y ≡ x = sym (same_head x y (w ++ k) (take m s ++ (first (drop m s) ∷ rest)) e) in
    let c : common_of (x ∷ w) (y ∷ s) ≡ suc (common_of w s) = cond-true (y == x) (suc (common_of w s)) 0 (eq-eqb y x d) in
    no_common w s k rest m (λ i. b (suc i)) (omega arith) (omega arith) (omega arith)
    (same_tail x y (w ++ k) (take m s ++ (first (drop m s) ∷ rest)) e)

record Furthest (ws : List (List ℕ)) (s : List ℕ) : Type 0 where
  place : ℕ
  inside : place < length ws
  reached : common_of (word_at ws place) s ≡ furthest_of ws s

further : (w : List ℕ) (ws : List (List ℕ)) (s : List ℕ) → Furthest ws s → Furthest (w ∷ ws) s
further w ws s f = elim (cases_lt (furthest_of ws s) (common_of w s)) [
  | inl h ↦ record { place = 0; inside = omega arith; reached = omega arith }
  | inr h ↦ record { place = suc f.place; inside = let i = f.inside in omega arith; reached = let r = f.reached in r ∙ omega arith }
]

furthest_or : (w : List ℕ) (ws : List (List ℕ)) (s : List ℕ) → Furthest (w ∷ ws) s
furthest_or w [] s = record { place = 0; inside = omega arith; reached = omega arith }
furthest_or w (v ∷ ws) s = further w (v ∷ ws) s (furthest_or v ws s)

furthest : (ws : List (List ℕ)) (s : List ℕ) → 0 < length ws → Furthest ws s
furthest [] s h = absurd (omega arith)
furthest (w ∷ ws) s h = furthest_or w ws s

at_most : (ws : List (List ℕ)) (s : List ℕ) (i : ℕ) → i < length ws → common_of (word_at ws i) s ≤ furthest_of ws s
at_most [] s i h = absurd (omega arith)
at_most (w ∷ ws) s zero h = omega arith
at_most (w ∷ ws) s (suc i) h = let k : common_of (word_at ws i) s ≤ furthest_of ws s = at_most ws s i (omega arith) in omega arith

-- a word that ends after the text ceases to say what it says
pub record IsPassed (w s : List ℕ) : Type 0 where
  pub short : common_of w s < length w
  pub bytes : (i : ℕ) → get_or w i 0 < 256

pub no_word : (ws : List (List ℕ)) (bytes : List ℕ) (at m : ℕ) → 0 < length ws → ((i : ℕ) → i < length ws → IsPassed (word_at ws i) (drop at bytes)) → m ≡ furthest_of ws (drop at bytes) → m ≤ length (drop at bytes) → IsNoWord ws (drop at bytes) (drop (at + m) bytes)
no_word ws bytes at m some passed e l =
    let t = drop at bytes in
    let f = furthest ws t some in
    let c : common_of (word_at ws f.place) t ≡ m = f.reached ∙ sym e in
    let r : drop m t ≡ drop (at + m) bytes = drop-drop m at bytes in record {
      front = take m t;
      is_front = sym (take-append-drop m t) ∙ ap (λ (x : List ℕ). take m t ++ x) r;
      goes = (
        f.place,
        drop m (word_at ws f.place),
        f.inside,
        front_common (word_at ws f.place) t ∙ ap (λ (n : ℕ). take n t ++ drop n (word_at ws f.place)) c,
      );
      stuck = λ i k rest h x.
          let u = at_most ws t i h in
          let p = passed i h in
          no_common (word_at ws i) t k rest m p.bytes l (omega arith) p.short
          (x ∙ ap (λ (y : List ℕ). take m t ++ (first y ∷ rest)) (sym r));
    }

-- ---- a word that is read

abbrev pub some_bytes : List (List ℕ) → Bool
some_bytes [] = true
some_bytes ([] ∷ ws) = false
some_bytes ((c ∷ cs) ∷ ws) = some_bytes ws

pub some_at : (ws : List (List ℕ)) (i : ℕ) → some_bytes ws ≡ true → i < length ws → 0 < length (get_or ws i [])
some_at [] i b h = absurd (omega arith)
some_at ([] ∷ ws) i b h = absurd (false≢true b)
some_at ((c ∷ cs) ∷ ws) zero b h = omega arith
some_at ((c ∷ cs) ∷ ws) (suc i) b h = some_at ws i b (omega arith)

pub word_read : (at n : ℕ) (bytes w v : List ℕ) → v ≡ w → n ≡ common_of w (drop at bytes) → n ≡ length w → drop at bytes ≡ v ++ drop (at + n) bytes
word_read at n bytes w v e g l =
    word_front w (drop at bytes) (sym g ∙ l)
    ∙ ap₂ (λ (x : List ℕ) (m : ℕ). x ++ drop m (drop at bytes)) (sym e) (sym l)
    ∙ ap (λ (x : List ℕ). v ++ x) (drop-drop n at bytes)

-- ---- a row more

greatest : (a f g c d x : ℕ) → a ≡ max f d → g ≡ c → d ≡ max c x → a ≡ max (max f g) x
greatest a f g c d x h k e = omega arith

pub next_row : (ws : List (List ℕ)) (s w : List ℕ) (place furthest agreed : ℕ) → place < length ws → furthest_of ws s ≡ max furthest (furthest_of (drop place ws) s) → agreed ≡ common_of w s → word_at ws place ≡ w → furthest_of ws s ≡ max (max furthest agreed) (furthest_of (drop (place + 1) ws) s)
next_row ws s w place furthest agreed h e f g =
    let k : agreed ≡ common_of (word_at ws place) s = f ∙ ap (λ (v : List ℕ). common_of v s) (sym g) in
    let d : furthest_of (drop place ws) s ≡ max (common_of (word_at ws place) s) (furthest_of (drop (place + 1) ws) s) =
    ap (λ (l : List (List ℕ)). furthest_of l s) (drop_more ws place [] h) in
    greatest (furthest_of ws s) furthest agreed (common_of (word_at ws place) s) (furthest_of (drop place ws) s) (furthest_of (drop (place + 1) ws) s) e k d

pub all_rows : (ws : List (List ℕ)) (s : List ℕ) (place furthest : ℕ) → length ws ≤ place → furthest_of ws s ≡ max furthest (furthest_of (drop place ws) s) → furthest ≡ furthest_of ws s
all_rows ws s place furthest h e =
    let d : furthest_of (drop place ws) s ≡ 0 = ap (λ (l : List (List ℕ)). furthest_of l s) (drop_all place ws h) in omega arith

pub not_whole : (w s : List ℕ) (n : ℕ) → n ≡ common_of w s → (n ≡ length w → ⊥) → common_of w s < length w
not_whole w s n e f = let c = (common_within w s).0 in omega arith

pub max_is : (a b : ℕ) → ord_max nat_cmp a b ≡ max a b
max_is a b = grind arith
