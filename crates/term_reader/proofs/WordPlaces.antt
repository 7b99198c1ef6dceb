-- A word at a place of a text.
use Rattle.std.proofs.Common.{◌≡◌, refl, sym, ◌∙◌, ap, ap₂, subst, ℕ, suc, ◌+◌, ◌<◌, List, [], ◌∷◌, ◌++◌, length, get_or, drop, arith, inl, inr}
use Rattle.std.specs.Prelude.{◌==◌}
use Rattle.std.proofs.lemmas.Bool.{eqb-true, eqb-false, cond-true, cond-false, cases_Bool}
use Rattle.std.proofs.lemmas.List.{drop-drop}
use Rattle.term_reader.specs.Words.{common_of, IsWordFault}
use Rattle.term_reader.proofs.Choosing.{word_front, not_whole}

none_below : (n : ℕ) → n < 0 → ⊥
none_below n h = omega arith

below_suc : (a b : ℕ) → suc a < suc b → a < b
below_suc a b h = omega arith

-- where a text and a word part
pub parts_at : (w s : List ℕ) → ((i : ℕ) → i < length w → get_or w i 0 < 256) → common_of w s < length w → IsWordFault w s (drop (common_of w s) s)
parts_at [] s b h = absurd (none_below _ h)
parts_at (x ∷ w) [] b h = record {
  front = [];
  next = x;
  rest = w;
  is_front = refl;
  is_word = refl;
  differs = λ e. let l : x < 256 = b 0 (omega arith) in let f : 256 ≡ x = e in omega arith;
}
parts_at (x ∷ w) (y ∷ s) b h = elim (cases_Bool (y == x)) [
  | inl e ↦ let k : common_of (x ∷ w) (y ∷ s) ≡ suc (common_of w s) = cond-true (y == x) (suc (common_of w s)) 0 e in
      let r = parts_at w s (λ i l. b (suc i) (omega arith)) (below_suc _ _ (subst (λ (n : ℕ). n < suc (length w)) k h)) in
      subst (λ (n : ℕ). IsWordFault (x ∷ w) (y ∷ s) (drop n (y ∷ s))) (sym k) (record {
        front = y ∷ r.front;
        next = r.next;
        rest = r.rest;
        is_front = ap (λ (z : List ℕ). y ∷ z) r.is_front;
        is_word = ap₂ (λ (z : ℕ) (v : List ℕ). z ∷ v) (sym (eqb-true y x e)) r.is_word;
        differs = r.differs;
      })
  | inr e ↦ let k : common_of (x ∷ w) (y ∷ s) ≡ 0 = cond-false (y == x) (suc (common_of w s)) 0 e in
      subst (λ (n : ℕ). IsWordFault (x ∷ w) (y ∷ s) (drop n (y ∷ s))) (sym k) (record {
        front = [];
        next = x;
        rest = w;
        is_front = refl;
        is_word = refl;
        differs = eqb-false y x e;
      })
]

pub word_whole : (w bytes : List ℕ) (at n : ℕ) → n ≡ common_of w (drop at bytes) → n ≡ length w → drop at bytes ≡ w ++ drop (at + n) bytes
word_whole w bytes at n e f =
    word_front w (drop at bytes) (sym e ∙ f)
    ∙ ap (λ (x : List ℕ). w ++ x) (ap (λ (i : ℕ). drop i (drop at bytes)) (sym f) ∙ drop-drop n at bytes)

pub word_fault : (w bytes : List ℕ) (at n : ℕ) → ((i : ℕ) → i < length w → get_or w i 0 < 256) → n ≡ common_of w (drop at bytes) → (n ≡ length w → ⊥) → IsWordFault w (drop at bytes) (drop (at + n) bytes)
word_fault w bytes at n b e f =
    subst (λ (x : List ℕ). IsWordFault w (drop at bytes) x) (ap (λ (i : ℕ). drop i (drop at bytes)) (sym e) ∙ drop-drop n at bytes)
    (parts_at w (drop at bytes) b (not_whole w (drop at bytes) n e f))
