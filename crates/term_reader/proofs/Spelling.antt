-- The word after a bracket and its number are known by their text.
use Rattle.std.proofs.Common.{◌≡◌, refl, sym, ◌∙◌, ap, ap₂, subst, ℕ, zero, suc, ◌<◌, Bool, true, false, List, [], ◌∷◌, ◌++◌, length, get_or, arith, append_assoc, lit<, inl, inr}
use Rattle.std.specs.Prelude.{◌==◌, ◌||◌, ◌&&◌, not}
use Rattle.std.proofs.lemmas.Bool.{and_parts, false≢true, true≢false, eqb-false, not-true, or_cases}
use Rattle.std.proofs.lemmas.List.{append_cancel_left}
use Rattle.logic_terms.specs.Node.{add, sub, mul, quo, rem, mod_by, pow, bit, tru, neg, fst, lst, fld, arith as compute_by, le, eq, conj, disj, iff, sel, upd, ite, sto, fill, fields, call, all, any}
use Rattle.logic_terms.specs.Text.{number_text}
use Rattle.term_reader.specs.declared.part.Side.{Side}
use Rattle.term_reader.specs.declared.part.Side.TheVariants.{Term, Formula, Sort}
use Rattle.term_reader.specs.Bytes.{Ends}
use Rattle.term_reader.specs.Trees.{Build, one, two, three, many, over, an_array, a_record, build_text, gives, ends_in_number}
use Rattle.term_reader.specs.Words.{builds, word, words}
use Rattle.term_reader.proofs.Digits.{same_head, same_tail, value, value_is}

-- ---- two words, of which none begins the other

abbrev pub clash : List ℕ → List ℕ → Bool
clash [] w = false
clash (c ∷ v) [] = false
clash (c ∷ v) (d ∷ w) = not (c == d) || clash v w

clashing : (v w xs ys : List ℕ) → clash v w ≡ true → v ++ xs ≡ w ++ ys → ⊥
clashing [] w xs ys h e = false≢true h
clashing (c ∷ v) [] xs ys h e = false≢true h
clashing (c ∷ v) (d ∷ w) xs ys h e = elim (or_cases (not (c == d)) (clash v w) h) [
  | inl k ↦ eqb-false c d (not-true (c == d) k) (same_head c d _ _ e)
  | inr k ↦ clashing v w xs ys k (same_tail c d _ _ e)
]

abbrev pub apart_from : List ℕ → List (List ℕ) → Bool
apart_from w [] = true
apart_from w (v ∷ vs) = (clash w v && clash v w) && apart_from w vs

abbrev pub all_apart : List (List ℕ) → Bool
all_apart [] = true
all_apart (w ∷ ws) = apart_from w ws && all_apart ws

apart_at : (w : List ℕ) (ws : List (List ℕ)) (j : ℕ) → apart_from w ws ≡ true → j < length ws → (clash w (get_or ws j []) ≡ true) × (clash (get_or ws j []) w ≡ true)
apart_at w [] j h l = absurd (omega arith)
apart_at w (v ∷ vs) zero h l = let k = and_parts _ _ (and_parts _ _ h).0 in (k.0, k.1)
apart_at w (v ∷ vs) (suc j) h l = apart_at w vs j (and_parts _ _ h).1 (omega arith)

-- a text begins with one word at most
pub same_place : (ws : List (List ℕ)) (i j : ℕ) (xs ys : List ℕ) → all_apart ws ≡ true → i < length ws → j < length ws → get_or ws i [] ++ xs ≡ get_or ws j [] ++ ys → i ≡ j
same_place [] i j xs ys h l m e = absurd (omega arith)
same_place (w ∷ ws) zero zero xs ys h l m e = refl
same_place (w ∷ ws) zero (suc j) xs ys h l m e =
    absurd (clashing w (get_or ws j []) xs ys (apart_at w ws j (and_parts _ _ h).0 (omega arith)).0 e)
same_place (w ∷ ws) (suc i) zero xs ys h l m e =
    absurd (clashing (get_or ws i []) w xs ys (apart_at w ws i (and_parts _ _ h).0 (omega arith)).1 e)
same_place (w ∷ ws) (suc i) (suc j) xs ys h l m e =
    ap suc (same_place ws i j xs ys (and_parts _ _ h).1 (omega arith) (omega arith) e)

pub words_apart : (s : Side) → all_apart (words s) ≡ true
words_apart Term = refl
words_apart Formula = refl
words_apart Sort = refl

-- ---- what stands after a bracket, by its place in the list

abbrev pub place : Build → ℕ
place (two (compute_by add)) = 0
place (two (compute_by sub)) = 1
place (two (compute_by mul)) = 2
place (two (compute_by quo)) = 3
place (two (compute_by rem)) = 4
place (two (compute_by mod_by)) = 5
place (two (compute_by pow)) = 6
place (one bit) = 7
place (three ite) = 8
place (two sel) = 9
place (three sto) = 10
place (one fst) = 11
place (one lst) = 12
place (three fill) = 13
place (many fields) = 14
place (one (fld k)) = 15
place (two (upd k)) = 16
place (many (call k)) = 17
place (one tru) = 0
place (two le) = 1
place (two eq) = 2
place (one neg) = 3
place (two conj) = 4
place (two disj) = 5
place (two iff) = 6
place (over all) = 7
place (over any) = 8
place an_array = 0
place a_record = 1

-- the number, 0 where there is none
abbrev pub index : Build → ℕ
index (one (fld k)) = k
index (two (upd k)) = k
index (many (call k)) = k
index _ = 0

abbrev pub tail_by : Bool → ℕ → List ℕ
tail_by true k = number_text k
tail_by false k = []

pub record Placed (s : Side) (o : Build) : Type 0 where
  pub is_word : get_or (words s) (place o) [] ≡ word o
  pub inside : place o < length (words s)
  pub found : get_or (builds s (index o)) (place o) an_array ≡ o
  pub numbered : ends_in_number o ≡ ends_in_number (get_or (builds s 0) (place o) an_array)
  pub is_text : build_text o ≡ word o ++ tail_by (ends_in_number o) (index o)
  pub no_number : ends_in_number o ≡ false → index o ≡ 0

plain : (s : Side) (o : Build) → get_or (words s) (place o) [] ≡ word o → place o < length (words s) → get_or (builds s (index o)) (place o) an_array ≡ o → ends_in_number o ≡ ends_in_number (get_or (builds s 0) (place o) an_array) → build_text o ≡ word o ++ tail_by (ends_in_number o) (index o) → index o ≡ 0 → Placed s o
plain s o a b c d e f = record { is_word = a; inside = b; found = c; numbered = d; is_text = e; no_number = λ _. f }

numbered : (s : Side) (o : Build) → get_or (words s) (place o) [] ≡ word o → place o < length (words s) → get_or (builds s (index o)) (place o) an_array ≡ o → ends_in_number o ≡ ends_in_number (get_or (builds s 0) (place o) an_array) → build_text o ≡ word o ++ tail_by (ends_in_number o) (index o) → ends_in_number o ≡ true → Placed s o
numbered s o a b c d e f = record { is_word = a; inside = b; found = c; numbered = d; is_text = e; no_number = λ z. absurd (true≢false (sym f ∙ z)) }

own_place : (o : Build) → Placed (gives o) o
own_place (two (compute_by add)) = plain Term (two (compute_by add)) refl (lit< tt) refl refl refl refl
own_place (two (compute_by sub)) = plain Term (two (compute_by sub)) refl (lit< tt) refl refl refl refl
own_place (two (compute_by mul)) = plain Term (two (compute_by mul)) refl (lit< tt) refl refl refl refl
own_place (two (compute_by quo)) = plain Term (two (compute_by quo)) refl (lit< tt) refl refl refl refl
own_place (two (compute_by rem)) = plain Term (two (compute_by rem)) refl (lit< tt) refl refl refl refl
own_place (two (compute_by mod_by)) = plain Term (two (compute_by mod_by)) refl (lit< tt) refl refl refl refl
own_place (two (compute_by pow)) = plain Term (two (compute_by pow)) refl (lit< tt) refl refl refl refl
own_place (one bit) = plain Term (one bit) refl (lit< tt) refl refl refl refl
own_place (three ite) = plain Term (three ite) refl (lit< tt) refl refl refl refl
own_place (two sel) = plain Term (two sel) refl (lit< tt) refl refl refl refl
own_place (three sto) = plain Term (three sto) refl (lit< tt) refl refl refl refl
own_place (one fst) = plain Term (one fst) refl (lit< tt) refl refl refl refl
own_place (one lst) = plain Term (one lst) refl (lit< tt) refl refl refl refl
own_place (three fill) = plain Term (three fill) refl (lit< tt) refl refl refl refl
own_place (many fields) = plain Term (many fields) refl (lit< tt) refl refl refl refl
own_place (one (fld k)) = numbered Term (one (fld k)) refl (lit< tt) refl refl refl refl
own_place (two (upd k)) = numbered Term (two (upd k)) refl (lit< tt) refl refl refl refl
own_place (many (call k)) = numbered Term (many (call k)) refl (lit< tt) refl refl refl refl
own_place (one tru) = plain Formula (one tru) refl (lit< tt) refl refl refl refl
own_place (two le) = plain Formula (two le) refl (lit< tt) refl refl refl refl
own_place (two eq) = plain Formula (two eq) refl (lit< tt) refl refl refl refl
own_place (one neg) = plain Formula (one neg) refl (lit< tt) refl refl refl refl
own_place (two conj) = plain Formula (two conj) refl (lit< tt) refl refl refl refl
own_place (two disj) = plain Formula (two disj) refl (lit< tt) refl refl refl refl
own_place (two iff) = plain Formula (two iff) refl (lit< tt) refl refl refl refl
own_place (over all) = plain Formula (over all) refl (lit< tt) refl refl refl refl
own_place (over any) = plain Formula (over any) refl (lit< tt) refl refl refl refl
own_place an_array = plain Sort an_array refl (lit< tt) refl refl refl refl
own_place a_record = plain Sort a_record refl (lit< tt) refl refl refl refl

pub placed : (s : Side) (o : Build) → gives o ≡ s → Placed s o
placed s o e = subst (λ (t : Side). Placed t o) e (own_place o)

-- ---- one reading

tails_same : (b : Bool) (j k : ℕ) (xs ys : List ℕ) → Ends xs → (b ≡ true → Ends ys) → (b ≡ false → j ≡ 0) → (b ≡ false → k ≡ 0) → tail_by b j ++ xs ≡ tail_by b k ++ ys → (j ≡ k) × (xs ≡ ys)
tails_same true j k xs ys f g h i e =
    let n : j ≡ k = sym (value_is j xs f) ∙ ap (value 0) e ∙ value_is k ys (g refl) in
    (n, append_cancel_left (number_text k) xs ys (ap (λ (x : ℕ). number_text x ++ xs) (sym n) ∙ e))
tails_same false j k xs ys f g h i e = (h refl ∙ sym (i refl), e)

spread : (s : Side) (o : Build) (xs : List ℕ) → Placed s o → build_text o ++ xs ≡ get_or (words s) (place o) [] ++ (tail_by (ends_in_number o) (index o) ++ xs)
spread s o xs p =
    ap (λ (ws : List ℕ). ws ++ xs) p.is_text
    ∙ append_assoc (word o) (tail_by (ends_in_number o) (index o)) xs
    ∙ ap (λ (ws : List ℕ). ws ++ (tail_by (ends_in_number o) (index o) ++ xs)) (sym p.is_word)

same_by : (s : Side) (o p : Build) (xs ys : List ℕ) → Placed s o → Placed s p → Ends xs → (ends_in_number p ≡ true → Ends ys) → build_text o ++ xs ≡ build_text p ++ ys → (o ≡ p) × (xs ≡ ys)
same_by s o p xs ys a b f g e =
    let w = sym (spread s o xs a) ∙ e ∙ spread s p ys b in
    let i : place o ≡ place p = same_place (words s) (place o) (place p) _ _ (words_apart s) a.inside b.inside w in
    let n : ends_in_number o ≡ ends_in_number p = a.numbered ∙ ap (λ (x : ℕ). ends_in_number (get_or (builds s 0) x an_array)) i ∙ sym b.numbered in
    let t : tail_by (ends_in_number p) (index o) ++ xs ≡ tail_by (ends_in_number p) (index p) ++ ys =
    append_cancel_left (get_or (words s) (place p) []) _ _
    (ap₂ (λ (x : ℕ) (c : Bool). get_or (words s) x [] ++ (tail_by c (index o) ++ xs)) (sym i) (sym n) ∙ w) in
    let r = tails_same (ends_in_number p) (index o) (index p) xs ys f g (λ z. a.no_number (n ∙ z)) b.no_number t in
    (sym a.found ∙ ap₂ (λ (k x : ℕ). get_or (builds s k) x an_array) r.0 i ∙ b.found, r.1)

-- what stands after a bracket is one where the texts are
pub builds_same : (o p : Build) (xs ys : List ℕ) → gives o ≡ gives p → Ends xs → (ends_in_number p ≡ true → Ends ys) → build_text o ++ xs ≡ build_text p ++ ys → (o ≡ p) × (xs ≡ ys)
builds_same o p xs ys h f g e = same_by (gives p) o p xs ys (placed (gives p) o h) (own_place p) f g e
