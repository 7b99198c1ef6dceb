-- Fronts of lists of tokens.
use Rattle.std.proofs.Common.{◌≡◌, ℕ, zero, suc, ◌≤◌, List, [], ◌∷◌, ◌++◌, Option, Some, None, length, map, take, drop, refl, sym, ap, ◌∙◌, subst, inl, inr, append_assoc, arith}
use Rattle.std.specs.List.{slice_get}
use Rattle.std.proofs.lemmas.Bool.{cases_lt}
use Rattle.std.proofs.lemmas.List.{take-append-drop}
use Rattle.std.proofs.Math.Seq.{take-nil}
use Rattle.grammar_table.specs.declared.symbols.Effect.{Effect}
use Rattle.grammar_table.specs.declared.symbols.Terminal.{Terminal}
use Rattle.grammar_table.specs.Answers.{with_end}
use Rattle.grammar_table.specs.Levels.{open_after, IsShallow}
use Rattle.grammar_table.specs.Runs.{and_then}

pub take_less : {A : Type 0} (i m : ℕ) (xs : List A) → i ≤ m → take i (take m xs) ≡ take i xs
take_less zero m xs h = refl
take_less (suc i) zero xs h = absurd (omega arith)
take_less (suc i) (suc m) [] h = refl
take_less (suc i) (suc m) (x ∷ xs) h = ap (λ ys. x ∷ ys) (take_less i m xs (omega arith))

take_more : {A : Type 0} (i m : ℕ) (xs : List A) → m ≤ i → take i (take m xs) ≡ take m xs
take_more i zero xs h = take-nil i
take_more zero (suc m) xs h = absurd (omega arith)
take_more (suc i) (suc m) [] h = refl
take_more (suc i) (suc m) (x ∷ xs) h = ap (λ ys. x ∷ ys) (take_more i m xs (omega arith))

-- a list that begins with the first m of another begins with its first i
pub shorter_front : {A : Type 0} (i m : ℕ) (us ws rest : List A) → i ≤ m → us ≡ take m ws ++ rest → (more : List A) × (us ≡ take i ws ++ more)
shorter_front i m us ws rest h e = (
  drop i (take m ws) ++ rest,
  e
      ∙ ap (λ l. l ++ rest) (sym (take-append-drop i (take m ws)) ∙ ap (λ l. l ++ drop i (take m ws)) (take_less i m ws h))
      ∙ append_assoc (take i ws) (drop i (take m ws)) rest,
)

pub whole_front : {A : Type 0} (i : ℕ) (us ws : List A) → us ≡ ws → (more : List A) × (us ≡ take i ws ++ more)
whole_front i us ws e = (drop i ws, e ∙ sym (take-append-drop i ws))

same_heads : (u t : Terminal) (x y : List (Option Terminal)) → Some u ∷ x ≡ Some t ∷ y → u ≡ t
same_heads u t x y e = cc

same_tails : (u t : Option Terminal) (x y : List (Option Terminal)) → u ∷ x ≡ t ∷ y → x ≡ y
same_tails u t x y e = cc

-- tokens and the end, the first m of which are those of another list
pub front_tokens : (m : ℕ) (us ts : List Terminal) (rest : List (Option Terminal)) → m ≤ length ts → with_end us ≡ take m (with_end ts) ++ rest → take m us ≡ take m ts
front_tokens zero us ts rest h e = refl
front_tokens (suc m) us [] rest h e = absurd (omega arith)
front_tokens (suc m) [] (t ∷ ts) rest h e = cc
front_tokens (suc m) (u ∷ us) (t ∷ ts) rest h e =
    λ i. same_heads u t (with_end us) (take m (with_end ts) ++ rest) e i ∷ front_tokens m us ts rest (omega arith) (same_tails (Some u) (Some t) (with_end us) (take m (with_end ts) ++ rest) e) i

pub with_end-append : (ts us : List Terminal) → with_end (ts ++ us) ≡ map Some ts ++ with_end us
with_end-append [] us = refl
with_end-append (t ∷ ts) us = ap (λ l. Some t ∷ l) (with_end-append ts us)

-- shallow effects
pub shallow_front : (m : ℕ) (es : List Effect) → IsShallow es → IsShallow (take m es)
shallow_front m es s k = elim (cases_lt k m) [
  | inl low ↦ subst (λ (l : List Effect). length (open_after [] l) ≤ 200) (sym (take_less k m es (omega arith))) (s k)
  | inr high ↦ subst (λ (l : List Effect). length (open_after [] l) ≤ 200) (sym (take_more k m es high)) (s m)
]

pub front_is : (k : ℕ) (ts : List Terminal) → k ≤ length ts → take k (with_end ts) ≡ map Some (take k ts)
front_is zero ts h = refl
front_is (suc k) [] h = absurd (omega arith)
front_is (suc k) (t ∷ ts) h = ap (λ l. Some t ∷ l) (front_is k ts (omega arith))

same_token : (t u : Terminal) → Path (Option Terminal) (Some t) (Some u) → t ≡ u
same_token t u e = cc

pub front_next : (k : ℕ) (ts : List Terminal) (t : Terminal) → slice_get ts k ≡ Some t → take (suc k) (with_end ts) ≡ and_then (take k ts) (Some t)
front_next k [] t e = cc
front_next zero (u ∷ ts) t e = ap (λ (x : Terminal). Some x ∷ []) (same_token u t e)
front_next (suc k) (u ∷ ts) t e = ap (λ l. Some u ∷ l) (front_next k ts t e)

pub front_end : (ts : List Terminal) → take (suc (length ts)) (with_end ts) ≡ and_then ts None
front_end [] = refl
front_end (t ∷ ts) = ap (λ l. Some t ∷ l) (front_end ts)
