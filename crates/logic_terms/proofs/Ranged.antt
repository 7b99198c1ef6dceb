-- What a quantifier over a range says.
use Rattle.std.proofs.Common.{◌≡◌, refl, ◌∙◌, ap, ℕ, zero, suc, Bool, true, false, ◌&&◌, ◌||◌, not, ◌<◌, arith}
use Rattle.std.proofs.lemmas.Bool.{and_parts}
use Rattle.std.proofs.lemmas.Int.{ints}
use Rattle.std.specs.Prelude.{ℤ, pos, negsuc, ◌+ℤ◌, ◌-ℤ◌, ◌≤ℤ◌}
use Rattle.logic_terms.specs.Node.{all, any}
use Rattle.logic_terms.specs.Value.{count, up_to}
use Rattle.logic_terms.specs.Meaning.{ranged}

ranged-all_step : (p : ℤ → Bool) (n : ℕ) (l : ℤ) → ranged all l n p ≡ true → (k : ℕ) → k < n → p (l +ℤ pos k) ≡ true
ranged-all_step p zero l e k h = absurd (omega arith)
ranged-all_step p (suc n) l e zero h =
    let z : l +ℤ pos 0 ≡ l = omega (arith, ints) in rw z (and_parts _ _ e).0
ranged-all_step p (suc n) l e (suc k) h =
    let z : l +ℤ pos (suc k) ≡ l +ℤ pos 1 +ℤ pos k = omega (arith, ints) in
    rw z (ranged-all_step p n (l +ℤ pos 1) (and_parts _ _ e).1 k (omega arith))

-- how far i is above l
above_by : (l h i d e : ℤ) → i -ℤ l ≡ d → h -ℤ l ≡ e → l ≤ℤ i → i ≤ℤ h → (k : ℕ) × (i ≡ l +ℤ pos k) × (k < up_to e)
above_by l h i (pos k) (pos n) p q a b = (k, omega (arith, ints), omega (arith, ints))
above_by l h i (pos k) (negsuc n) p q a b = absurd (omega (arith, ints))
above_by l h i (negsuc k) e p q a b = absurd (omega (arith, ints))

pub ranged-all_at : (p : ℤ → Bool) (l h i : ℤ) → ranged all l (count l h) p ≡ true → l ≤ℤ i → i ≤ℤ h → p i ≡ true
ranged-all_at p l h i e a b =
    let s = above_by l h i _ _ refl refl a b in rw s.1 (ranged-all_step p (count l h) l e s.0 s.2)

not_and : (a b : Bool) → (a || not b) ≡ not (not a && b)
not_and true b = refl
not_and false b = refl

-- for some is not for all not
pub ranged-dual : (p : ℤ → Bool) (n : ℕ) (l : ℤ) → ranged any l n p ≡ not (ranged all l n (λ i. not (p i)))
ranged-dual p zero l = refl
ranged-dual p (suc n) l = ap (λ b. p l || b) (ranged-dual p n (l +ℤ pos 1)) ∙ not_and (p l) _
