-- The factor of the least combination, by the greatest common divisor of two sizes.
use Rattle.std.proofs.Common.{◌≡◌, refl, ◌∙◌, ap₂, subst, ℕ, ◌/◌, List, [], ◌∷◌, arith}
use Rattle.std.specs.Prelude.{ℤ, pos, unsigned_abs, Option}
use Rattle.std.specs.Int.{IsGcd}
use Rattle.std.proofs.lemmas.Nat.Gcd.{IsGcd-from_zero, IsGcd-swap}
use Rattle.logic_terms.specs.View.{term}
use Rattle.logic_terms.specs.declared.syntax.Term.{Term}
use Rattle.linear_forms.specs.Form.{monomial, divisor}
use Rattle.linear_forms.specs.declared.form.Part.{Part}
use Rattle.linear_forms.proofs.Divisors.{divisor_start, divisor_more, divisor_end}
use Rattle.linear_prover.specs.Values.{narrow}

divisor_of_two : (v : Term) (a b : ℤ) (g : ℕ) → IsGcd (unsigned_abs a) (unsigned_abs b) g → g ≡ divisor (monomial a (term v) ∷ monomial b (term v) ∷ [])
divisor_of_two v a b g d =
    let p : Part = record { coefficient = a; variable = v } in
    let q : Part = record { coefficient = b; variable = v } in
    let ps : List Part = p ∷ q ∷ [] in
    let first = divisor_more ps 0 p 0 (unsigned_abs a) (omega arith) refl divisor_start (IsGcd-swap (unsigned_abs a) 0 (unsigned_abs a) (IsGcd-from_zero (unsigned_abs a) 0 refl)) in
    let second = divisor_more ps 1 q (unsigned_abs a) g (omega arith) refl first d in
    divisor_end ps 2 g (omega arith) second

pub factor_is : (v : Term) (a b : ℤ) (x y g : ℕ) (o : Option ℤ) → x ≡ unsigned_abs a → y ≡ unsigned_abs b → IsGcd x y g → o ≡ narrow (pos (y / g)) → o ≡ narrow (pos (unsigned_abs b / divisor (monomial a (term v) ∷ monomial b (term v) ∷ [])))
factor_is v a b x y g o e f d h =
    let P : ℕ → ℕ → Type 0 = λ m n. IsGcd m n g in
    let e' = subst (λ (m : ℕ). P m y) e d in
    let d' = subst (λ (n : ℕ). P (unsigned_abs a) n) f e' in
    h ∙ ap₂ (λ (m n : ℕ). narrow (pos (m / n))) f (divisor_of_two v a b g d')
