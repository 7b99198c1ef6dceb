-- Powers that leave 128 bits.
use Rattle.std.proofs.Common.{◌≡◌, refl, sym, ◌∙◌, ap, subst, ℕ, zero, suc, ◌+◌, ◌-◌, ◌*◌, ◌%◌, ◌^◌, ◌<◌, ◌≤◌, arith}
use Rattle.std.proofs.lemmas.Int.{ints, unsigned_abs-mul}
use Rattle.std.proofs.Math.Nat.{mul-le-mul_left}
use Rattle.std.specs.Prelude.{ℤ, pos, negsuc, ◌*ℤ◌, unsigned_abs, FitsSigned}
use Rattle.std.specs.Int.{w128}
use Rattle.logic_terms.specs.Meaning.{times}

-- a number of 2 ** 128 or more, or its negation, does not fit
pub wide : (z : ℤ) → 2 ^ 128 ≤ unsigned_abs z → ¬ FitsSigned w128 z
wide (pos n) h f = omega (arith, ints)
wide (negsuc n) h f = omega (arith, ints)

pub at_least : (z : ℤ) → (¬ FitsSigned w128 z) → 2 ^ 127 ≤ unsigned_abs z
at_least z h = grind (arith, ints)

doubles : (a x : ℕ) → 2 ≤ a → 2 ^ 127 ≤ x → 2 ^ 128 ≤ x * a
doubles a x h k = omega (arith, mul-le-mul_left x h)

pub grows : (a : ℤ) (n : ℕ) → 2 ≤ unsigned_abs a → 2 ^ 127 ≤ unsigned_abs (times a n) → 2 ^ 128 ≤ unsigned_abs (times a (suc n))
grows a n h k = rw (unsigned_abs-mul (times a n) a) (doubles (unsigned_abs a) (unsigned_abs (times a n)) h k)

still_big : (a : ℤ) (m k : ℕ) → 2 ≤ unsigned_abs a → 2 ^ 127 ≤ unsigned_abs (times a m) → 2 ^ 127 ≤ unsigned_abs (times a (k + m))
still_big a m zero h b =
    let e : m ≡ 0 + m = omega arith in subst (λ j. 2 ^ 127 ≤ unsigned_abs (times a j)) e b
still_big a m (suc k) h b =
    let more : 2 ^ 128 ≤ unsigned_abs (times a (suc (k + m))) = grows a (k + m) h (still_big a m k h b) in
    let big : 2 ^ 127 ≤ unsigned_abs (times a (suc (k + m))) = omega arith in
    let e : suc (k + m) ≡ suc k + m = omega arith in
    subst (λ j. 2 ^ 127 ≤ unsigned_abs (times a j)) e big

wide_after : (a : ℤ) (m n d : ℕ) → 2 ≤ unsigned_abs a → (¬ FitsSigned w128 (times a m)) → n ≡ d + m → ¬ FitsSigned w128 (times a n)
wide_after a m n zero h out e f =
    let same : n ≡ m = omega (arith, e) in out (subst (λ j. FitsSigned w128 (times a j)) same f)
wide_after a m n (suc d) h out e f =
    let more : 2 ^ 128 ≤ unsigned_abs (times a (suc (d + m))) = grows a (d + m) h (still_big a m d h (at_least (times a m) out)) in
    let same : suc (d + m) ≡ n = omega (arith, e) in
    wide (times a n) (subst (λ j. 2 ^ 128 ≤ unsigned_abs (times a j)) same more) f

-- a product that leaves 128 bits never comes back
pub stays_wide : (a : ℤ) (m n : ℕ) → 2 ≤ unsigned_abs a → (¬ FitsSigned w128 (times a m)) → m ≤ n → ¬ FitsSigned w128 (times a n)
stays_wide a m n h out le = wide_after a m n (n - m) h out (omega arith)

-- the same, as the loop states it
pub product_ends : (b p : ℤ) (m n : ℕ) → 2 ≤ unsigned_abs b → p ≡ times b m → (¬ FitsSigned w128 (p *ℤ b)) → m < n → ¬ FitsSigned w128 (times b n)
product_ends b p m n h is out lt = stays_wide b (suc m) n h (λ f. out (subst (λ q. FitsSigned w128 (q *ℤ b)) (sym is) f)) (omega arith)

-- ---- the powers of 0, 1 and -1

pub zero_power : (n : ℕ) → (n ≡ 0 → ⊥) → times (pos 0) n ≡ pos 0
zero_power zero h = absurd (h refl)
zero_power (suc n) h = omega (arith, ints)

pub one_power : (n : ℕ) → times (pos 1) n ≡ pos 1
one_power zero = refl
one_power (suc n) = rw (one_power n) refl

twice : (z : ℤ) → z *ℤ negsuc 0 *ℤ negsuc 0 ≡ z
twice z = omega (arith, ints)

pub even_power : (n : ℕ) → n % 2 ≡ 0 → times (negsuc 0) n ≡ pos 1
even_power zero h = refl
even_power (suc zero) h = absurd (omega arith)
even_power (suc (suc n)) h = twice (times (negsuc 0) n) ∙ even_power n (omega arith)

pub odd_power : (n : ℕ) → (n % 2 ≡ 0 → ⊥) → times (negsuc 0) n ≡ negsuc 0
odd_power zero h = absurd (h refl)
odd_power (suc zero) h = refl
odd_power (suc (suc n)) h = twice (times (negsuc 0) n) ∙ odd_power n (λ e. h (omega (arith, e)))

-- an answer that is the power, which then fits
pub is_power : (b a z : ℤ) (n : ℕ) → b ≡ a → times a n ≡ z → FitsSigned w128 z → FitsSigned w128 (times b n) × (z ≡ times b n)
is_power b a z n e p f =
    let q : times b n ≡ z = ap (λ c. times c n) e ∙ p in (subst (FitsSigned w128) (sym q) f, sym q)

pub one_fits : FitsSigned w128 (pos 1)
one_fits = omega (arith, ints)

pub zero_fits : FitsSigned w128 (pos 0)
zero_fits = omega (arith, ints)

pub minus_one_fits : FitsSigned w128 (negsuc 0)
minus_one_fits = omega (arith, ints)
