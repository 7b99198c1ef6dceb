-- The first row of each nonterminal.
use Rattle.std.proofs.Common.{◌≡◌, ℕ, zero, suc, ◌+◌, ◌<◌, ◌≤◌, Bool, true, false, List, [], ◌∷◌, Some, None, length, drop, refl, sym, ap, ◌∙◌, inl, inr, arith, set}
use Rattle.std.specs.Prelude.{◌==◌, slice_index, if◌then◌else◌}
use Rattle.std.proofs.lemmas.Bool.{cases_lt}
use Rattle.std.proofs.lemmas.List.{get_or-set_same, get_or-set_other}
use denote.Enum.Declared.{tag_of, rowss}
use denote.Enum.Enum.{tag_below}
use Rattle.grammar_table.specs.contracts.symbols.Nonterminal as nonterminal
use Rattle.grammar_table.specs.declared.productions.Head.{Head}
use Rattle.grammar_table.specs.declared.symbols.Nonterminal.{Nonterminal}
use Rattle.grammar_table.specs.Choices.{AreFirsts, heads, choices_from, choices_of, among, has, pick}

-- one first row more
pub set_more : (l : List ℕ) (i v : ℕ) (F : ℕ → ℕ) → i < length l → v ≡ F i → ((j : ℕ) → j < i → slice_index l j ≡ F j) → (j : ℕ) → j < i + 1 → slice_index (set l i v) j ≡ F j
set_more l i v F within e before j h = elim (cases_lt j i) [
  | inl low ↦ get_or-set_other l i j v 0 (λ same. absurd (omega (arith, same))) ∙ before j low
  | inr high ↦
      let same : i ≡ j = omega arith in
      ap (λ k. slice_index (set l i v) k) (sym same) ∙ get_or-set_same l i v 0 within ∙ e ∙ ap F same
]

-- no rows are left past the end
dropped_past : (k : ℕ) (l : List Head) → length l ≤ k → drop k l ≡ []
dropped_past zero [] h = refl
dropped_past zero (x ∷ l) h = absurd (omega arith)
dropped_past (suc k) [] h = refl
dropped_past (suc k) (x ∷ l) h = dropped_past k l (omega arith)

pub none_past : (at first p : ℕ) (hs : List Head) → length hs ≤ first → None ≡ pick at p first (drop first hs)
none_past at first p hs h = ap (λ l. pick at p first l) (sym (dropped_past first hs h))

-- what is picked of the rows is the first choice
pick_tests : (at p k : ℕ) (h : Head) (hs : List Head) (mine here : Bool) → (tag_of nonterminal.the_type h.left == at) ≡ mine → has h.before p ≡ here
    → pick at p (k + 1) hs ≡ among (choices_from at (suc k) hs) p
    → (if mine then (if here then Some k else pick at p (k + 1) hs) else None) ≡ among (if mine then record { production = k; before = h.before } ∷ choices_from at (suc k) hs else []) p
pick_tests at p k h hs true true m t more = sym (ap (λ b. if b then Some k else among (choices_from at (suc k) hs) p) t)
pick_tests at p k h hs true false m t more = more ∙ sym (ap (λ b. if b then Some k else among (choices_from at (suc k) hs) p) t)
pick_tests at p k h hs false here m t more = refl

picked : (at p k : ℕ) (hs : List Head) → pick at p k hs ≡ among (choices_from at k hs) p
picked at p k [] = refl
picked at p k (h ∷ hs) =
    let e : k + 1 ≡ suc k = omega arith in
    pick_tests at p k h hs (tag_of nonterminal.the_type h.left == at) (has h.before p) refl refl (ap (λ j. pick at p j hs) e ∙ picked at p (suc k) hs)

-- the choices from the first row that was found
pub chosen_from : (firsts : List ℕ) (n : Nonterminal) (p : ℕ) → AreFirsts firsts
    → pick (tag_of nonterminal.the_type n) p (slice_index firsts (tag_of nonterminal.the_type n)) (drop (slice_index firsts (tag_of nonterminal.the_type n)) heads) ≡ among (choices_of n) p
unfolding choices_of
chosen_from firsts n p h =
    picked (tag_of nonterminal.the_type n) p (slice_index firsts (tag_of nonterminal.the_type n)) (drop (slice_index firsts (tag_of nonterminal.the_type n)) heads)
    ∙ ap (λ k. among (choices_from (tag_of nonterminal.the_type n) k (drop k heads)) p) (h (tag_of nonterminal.the_type n) (tag_below (rowss nonterminal.the_type.parts) (nonterminal.the_type.to n)))
