-- The byte at a place of a text.
use Rattle.std.proofs.Common.{◌≡◌, refl, sym, ◌∙◌, ap, ℕ, ◌+◌, ◌-◌, ◌<◌, ◌≤◌, true, false, List, [], ◌∷◌, ◌++◌, length, get_or, drop, arith, inl, inr}
use Rattle.std.proofs.lemmas.List.{drop_more, drop_all}
use Rattle.std.proofs.lemmas.Bool.{false_from_ne_true, and_parts, and_from, leb-true, le-leb, cases_lt}
use Rattle.term_reader.specs.Bytes.{is_digit, first}

pub front_dropped : (xs : List ℕ) (i : ℕ) → i < length xs → drop i xs ≡ get_or xs i 0 ∷ drop (i + 1) xs
front_dropped xs i h = drop_more xs i 0 h

pub first_dropped : (xs : List ℕ) (i : ℕ) → i < length xs → first (drop i xs) ≡ get_or xs i 0
first_dropped xs i h = ap first (front_dropped xs i h)

pub first_at_end : (xs : List ℕ) (i : ℕ) → length xs ≤ i → first (drop i xs) ≡ 256
first_at_end xs i h = ap first (drop_all i xs h)

pub digit_is : (b : ℕ) → 48 ≤ b → b ≡ 48 + (b - 48)
digit_is b h = omega arith

pub no_digit : (b : ℕ) → (48 ≤ b → b ≤ 57 → ⊥) → is_digit b ≡ false
no_digit b h = false_from_ne_true _ (λ e. h (leb-true 48 b (and_parts _ _ e).0) (leb-true b 57 (and_parts _ _ e).1))

pub first_is : (xs : List ℕ) (i c : ℕ) → first (drop i xs) ≡ c → c < 256 → (i < length xs) × (drop i xs ≡ c ∷ drop (i + 1) xs)
first_is xs i c e h = elim (cases_lt i (length xs)) [
  | inl l ↦ (l, front_dropped xs i l ∙ ap (λ (x : ℕ). x ∷ drop (i + 1) xs) (sym (first_dropped xs i l) ∙ e))
  | inr g ↦ absurd (let k : 256 ≡ c = sym (first_at_end xs i g) ∙ e in omega arith)
]

pub digit_front : (d : ℕ) (xs r : List ℕ) → d < 10 → xs ≡ (48 + d) ∷ r → is_digit (first xs) ≡ true
digit_front d xs r h e = ap (λ (x : List ℕ). is_digit (first x)) e ∙ and_from _ _ (le-leb 48 (48 + d) (omega arith)) (le-leb (48 + d) 57 (omega arith))

pub front_first : (u q rest : List ℕ) → first (u ++ (first q ∷ rest)) ≡ first (u ++ q)
front_first [] q rest = refl
front_first (c ∷ u) q rest = refl
