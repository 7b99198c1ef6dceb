-- The greatest common divisor of coefficients, found one by one.
use Rattle.std.proofs.Common.{◌≡◌, refl, sym, ◌∙◌, ap, ℕ, zero, suc, ◌+◌, ◌<◌, ◌≤◌, ◌%◌, ◌⊎◌, inl, inr, Bool, true, false, List, [], ◌∷◌, ◌++◌, length, take, get_or, arith, subst, add-one}
use Rattle.std.specs.Prelude.{◌&&◌, ◌==◌, unsigned_abs, if◌then◌else◌}
use Rattle.std.specs.Int.{◌∣◌, IsGcd}
use Rattle.std.proofs.Math.Nat.{mod-eq_of_lt}
use Rattle.std.proofs.lemmas.Nat.Gcd.{dvd_refl, dvd-zero, dvd_trans, le_of_dvd, dvd_of_mod-eq-zero, mod-eq-zero_of_dvd}
use Rattle.std.proofs.lemmas.Bool.{and_parts, and_from, eqb-true, false≢true}
use Rattle.linear_forms.specs.Form.{Monomial, divides_all, greatest_to, divisor, total}
use Rattle.linear_forms.specs.View.{part, parts}
use Rattle.linear_forms.specs.declared.form.Part.{Part}
use Rattle.std.proofs.lemmas.List.{take_all}
use Rattle.linear_forms.specs.Places.{nothing}
use Rattle.linear_forms.proofs.Placing.{at_part, as_many}

-- g is a divisor of all, and each divisor of all divides it
pub record IsDivisor (g : ℕ) (ms : List Monomial) : Type 0 where
  pub divides : (d : ℕ) → 0 < d → d ∣ g → divides_all d ms ≡ true
  pub greatest : (d : ℕ) → 0 < d → divides_all d ms ≡ true → d ∣ g

pub divisor_start : IsDivisor 0 []
divisor_start = record { divides = λ d h e. refl; greatest = λ d h e. dvd-zero d }

eqb-zero : (n : ℕ) → n ≡ 0 → (n == 0) ≡ true
eqb-zero n e = ap (λ (x : ℕ). x == 0) e

and_more : (a b r : Bool) → (a && (b && r)) ≡ ((a && b) && r)
and_more true b r = refl
and_more false b r = refl

divides_append : (d : ℕ) (ms : List Monomial) (m : Monomial) → divides_all d (ms ++ m ∷ []) ≡ (divides_all d ms && (unsigned_abs m.coefficient % d == 0))
divides_append d [] m = and_true (unsigned_abs m.coefficient % d == 0)
  where
    and_true : (b : Bool) → (b && true) ≡ b
    and_true true = refl
    and_true false = refl
divides_append d (n ∷ ms) m =
    ap (λ (b : Bool). (unsigned_abs n.coefficient % d == 0) && b) (divides_append d ms m)
    ∙ and_more (unsigned_abs n.coefficient % d == 0) (divides_all d ms) (unsigned_abs m.coefficient % d == 0)

divisor_next : (g h : ℕ) (ms : List Monomial) (m : Monomial) → IsDivisor g ms → IsGcd g (unsigned_abs m.coefficient) h → IsDivisor h (ms ++ m ∷ [])
divisor_next g h ms m w e = record {
  divides = λ d p q. divides_append d ms m
      ∙ and_from _ _ (w.divides d p (dvd_trans d q e.0)) (eqb-zero _ (mod-eq-zero_of_dvd d (dvd_trans d q e.1)));
  greatest = λ d p q.
      let r = and_parts _ _ (sym (divides_append d ms m) ∙ q) in
      e.2 d (w.greatest d p r.0) (dvd_of_mod-eq-zero d (eqb-true _ _ r.1));
}

-- ---- it is the greatest number that divides all

total_none : (d : ℕ) (ms : List Monomial) → total ms < d → divides_all d ms ≡ true → total ms ≡ 0
total_none d [] h e = refl
total_none d (m ∷ ms) h e =
    let r = and_parts _ _ e in
    let small : unsigned_abs m.coefficient < d = omega arith in
    let here = sym (mod-eq_of_lt small) ∙ eqb-true _ _ r.0 in
    let rest = total_none d ms (omega arith) r.1 in
    omega arith

none_left : (d n : ℕ) → 0 < d → n ≡ 0 → n % d ≡ 0
none_left d n h e = ap (λ (x : ℕ). x % d) e ∙ mod-eq_of_lt h

all_divide : (d : ℕ) (ms : List Monomial) → 0 < d → total ms ≡ 0 → divides_all d ms ≡ true
all_divide d [] h e = refl
all_divide d (m ∷ ms) h e = and_from _ _ (eqb-zero _ (none_left d (unsigned_abs m.coefficient) h (omega arith))) (all_divide d ms h (omega arith))

at_most_total : (g : ℕ) (ms : List Monomial) → divides_all g ms ≡ true → 0 < total ms → g ≤ total ms
at_most_total g [] e h = absurd (omega arith)
at_most_total g (m ∷ ms) e h =
    let r = and_parts _ _ e in
    let d = dvd_of_mod-eq-zero g (eqb-true _ _ r.0) in
    elim (zero_or (unsigned_abs m.coefficient)) [
      | inl none ↦ (let rest = at_most_total g ms r.1 (omega arith) in omega arith)
      | inr some ↦ (let here = le_of_dvd some d in omega arith)
    ]
  where
    zero_or : (n : ℕ) → (n ≡ 0) ⊎ (0 < n)
    zero_or zero = inl refl
    zero_or (suc n) = inr (omega arith)

greatest_by : (b : Bool) (n g k : ℕ) → (b ≡ true → suc n ≤ g) → g ≤ suc n → (b ≡ false → g ≤ n) → (g ≤ n → k ≡ g) → (if b then suc n else k) ≡ g
greatest_by true n g k h i j l = let e = h refl in omega arith
greatest_by false n g k h i j l = l (j refl)

greatest_is : (n g : ℕ) (ms : List Monomial) → 0 < g → divides_all g ms ≡ true → ((d : ℕ) → divides_all d ms ≡ true → 0 < d → d ≤ g) → g ≤ n → greatest_to n ms ≡ g
greatest_is zero g ms p e h le = absurd (omega arith)
greatest_is (suc n) g ms p e h le =
    greatest_by (divides_all (suc n) ms) n g (greatest_to n ms) (λ d. h (suc n) d (omega arith)) le
    (λ d. smaller (same_or g (suc n) le) d)
    (greatest_is n g ms p e h)
  where
    same_or : (a b : ℕ) → a ≤ b → (a ≡ b) ⊎ (a < b)
    same_or a b h = grind arith

    smaller : (g ≡ suc n) ⊎ (g < suc n) → divides_all (suc n) ms ≡ false → g ≤ n
    smaller (inl same) d = absurd (false≢true (sym d ∙ ap (λ (x : ℕ). divides_all x ms) (sym same) ∙ e))
    smaller (inr less) d = omega arith

divisor_at : (g : ℕ) (ms : List Monomial) → IsDivisor g ms → g ≡ divisor ms
divisor_at zero ms w =
    let none = total_none (suc (total ms)) ms (omega arith) (w.divides (suc (total ms)) (omega arith) (dvd-zero (suc (total ms)))) in
    ap (λ (n : ℕ). greatest_to n ms) (sym none)
divisor_at (suc k) ms w =
    let e = w.divides (suc k) (omega arith) (dvd_refl (suc k)) in
    sym (greatest_is (total ms) (suc k) ms (omega arith) e (λ d f p. le_of_dvd (omega arith) (w.greatest d p f)) (reaches (total ms) refl))
  where
    reaches : (n : ℕ) → total ms ≡ n → suc k ≤ total ms
    reaches zero t =
        let over = le_of_dvd (omega arith) (w.greatest (suc (suc k)) (omega arith) (all_divide (suc (suc k)) ms (omega arith) t)) in
        absurd (omega arith)
    reaches (suc n) t = at_most_total (suc k) ms (w.divides (suc k) (omega arith) (dvd_refl (suc k))) (omega arith)

-- ---- the same for parts

pub taken_next : (ms : List Monomial) (i : ℕ) (d : Monomial) → i < length ms → take (suc i) ms ≡ take i ms ++ get_or ms i d ∷ []
taken_next [] i d h = absurd (omega arith)
taken_next (m ∷ ms) zero d h = refl
taken_next (m ∷ ms) (suc i) d h = ap (λ (ys : List Monomial). m ∷ ys) (taken_next ms i d (omega arith))

pub divisor_more : (ps : List Part) (i : ℕ) (p : Part) (g h : ℕ) → i < length ps → p ≡ get_or ps i p → IsDivisor g (take i (parts ps)) → IsGcd g (unsigned_abs p.coefficient) h → IsDivisor h (take (i + 1) (parts ps))
divisor_more ps i p g h k e w d =
    let m = taken_next (parts ps) i nothing (rw (as_many ps) k) ∙ ap (λ (x : Monomial). take i (parts ps) ++ x ∷ []) (at_part ps i p k e) in
    let P : List Monomial → Type 0 = λ ms. IsDivisor h ms in
    rw add-one (subst P (sym m) (divisor_next g h (take i (parts ps)) (part p) w d))

pub divisor_end : (ps : List Part) (i g : ℕ) → length ps ≤ i → IsDivisor g (take i (parts ps)) → g ≡ divisor (parts ps)
divisor_end ps i g h w =
    divisor_at g (take i (parts ps)) w ∙ ap divisor (take_all i (parts ps) (rw (as_many ps) h))
