-- Powers by squares, modulo a number, and powers of a large exponent.
use Rattle.std.proofs.Common.{◌≡◌, refl, sym, ◌∙◌, ap, subst, ℕ, zero, suc, ◌+◌, ◌*◌, ◌%◌, ◌/◌, ◌^◌, ◌<◌, ◌≤◌, ◌⊎◌, inl, inr, add-one, arith, Bool, true, false, Option, None, Some, Ok, ℤ, pos, negsuc, neg_ℤ, ◌≤ℤ◌, FitsSigned}
use Rattle.std.specs.Prelude.{cond, ◌==◌, unsigned_abs}
use Rattle.std.specs.Option.{SomeIff}
use Rattle.std.specs.Int.{w128, int_pow}
use Rattle.std.proofs.Math.Nat.{pow-suc, pow-le-pow_left}
use Rattle.std.proofs.Math.Pow.{pow_mono}
use Rattle.std.proofs.lemmas.Bool.{cases_lt}
use Rattle.std.proofs.lemmas.Int.{ints}
use Rattle.std.proofs.lemmas.Nat.{mul-mod_first, mul-mod_second, pow-mod, mul-pow, pow-add}
use Rattle.ada_values.specs.Combine.{exact}
use Rattle.ada_values.specs.Whole.{IsWhole}
use Rattle.ada_values.specs.declared.scalars.Op.TheVariants.{Pow}

square_mod : (p s k m : ℕ) → (p * (s % m) ^ k) % m ≡ (p * s ^ k) % m
square_mod p s k m = sym (mul-mod_second p ((s % m) ^ k) m) ∙ ap (λ x. (p * x) % m) (pow-mod s k m) ∙ mul-mod_second p (s ^ k) m

squares : (s k : ℕ) → (s * s) ^ k ≡ s ^ (k + k)
squares s k = mul-pow s s k ∙ sym (pow-add s k k)

even_power : (p s e k : ℕ) → e ≡ k + k → p * (s * s) ^ k ≡ p * s ^ e
even_power p s e k is = rw (is, squares s k) refl

odd_power : (p s e k : ℕ) → e ≡ k + k + 1 → p * s * (s * s) ^ k ≡ p * s ^ e
odd_power p s e k is = rw (is, squares s k, add-one, pow-suc) (omega arith)

-- a turn of the loop
pub even_turn : (p s e m : ℕ) → e % 2 ≡ 0 → (p * (s * s % m) ^ (e / 2)) % m ≡ (p * s ^ e) % m
even_turn p s e m h = square_mod p (s * s) (e / 2) m ∙ ap (λ x. x % m) (even_power p s e (e / 2) (omega arith))

pub odd_turn : (p s e m : ℕ) → e % 2 ≡ 1 → ((p * s % m) * (s * s % m) ^ (e / 2)) % m ≡ (p * s ^ e) % m
odd_turn p s e m h =
    mul-mod_first (p * s) ((s * s % m) ^ (e / 2)) m ∙ square_mod (p * s) (s * s) (e / 2) m ∙ ap (λ x. x % m) (odd_power p s e (e / 2) (omega arith))

-- ---- powers of a large exponent
zero_power : (k : ℕ) → 0 ^ suc k ≡ 0
zero_power k = rw pow-suc (omega arith)

one_power : (k : ℕ) → 1 ^ k ≡ 1
one_power zero = refl
one_power (suc k) = pow-suc 1 k ∙ ap (λ x. x * 1) (one_power k)

-- 0, 1 and -1 tell an exponent's last bit alone
small_power : (a : ℤ) (e n : ℕ) → unsigned_abs a < 2 → suc e % 2 ≡ suc n % 2 → int_pow a (suc e) ≡ int_pow a (suc n)
small_power (pos zero) e n h p = ap pos (zero_power e ∙ sym (zero_power n))
small_power (pos (suc zero)) e n h p = ap pos (one_power (suc e) ∙ sym (one_power (suc n)))
small_power (pos (suc (suc x))) e n h p = absurd (omega arith)
small_power (negsuc zero) e n h p = rw (p, one_power (suc e), one_power (suc n)) refl
small_power (negsuc (suc x)) e n h p = absurd (omega arith)

large_size : (x k : ℕ) → 2 ≤ x → 128 ≤ k → 2 ^ 128 ≤ x ^ k
large_size x k h l = let a = pow-le-pow_left h k in let b : 2 ^ 128 ≤ 2 ^ k = pow_mono l in omega (arith, a, b)

large_above : (x k : ℕ) → 2 ≤ x → 128 ≤ k → FitsSigned w128 (pos (x ^ k)) → ⊥
large_above x k h l f = let s = large_size x k h l in omega (arith, s, f.sfits)

large_below : (m : ℕ) → 2 ^ 128 ≤ m → FitsSigned w128 (neg_ℤ (pos m)) → ⊥
large_below zero h f = omega (arith, h)
large_below (suc m) h f = omega (arith, h, f.sfits)

either_sign : (b : Bool) (m : ℕ) → 2 ^ 128 ≤ m → FitsSigned w128 (cond b (pos m) (neg_ℤ (pos m))) → ⊥
either_sign true m h f = omega (arith, h, f.sfits)
either_sign false m h f = large_below m h f

large_power : (a : ℤ) (k : ℕ) → 2 ≤ unsigned_abs a → 128 ≤ k → FitsSigned w128 (int_pow a k) → ⊥
large_power (pos x) k h l f = large_above x k h l f
large_power (negsuc x) k h l f = either_sign (k % 2 == 0) (suc x ^ k) (large_size (suc x) k h l) f

neither : (P Q : Type 0) (u v : ℤ) (o : Option ℤ) → (P → ⊥) → (Q → ⊥) → SomeIff o P u → SomeIff o Q v
neither P Q u v None p q s = q
neither P Q u v (Some x) p q s = absurd (p s.0)

some_power : (a : ℤ) (e n : ℕ) (o : Option ℤ) → 128 ≤ suc e → 128 ≤ suc n → suc e % 2 ≡ suc n % 2
    → SomeIff o (FitsSigned w128 (int_pow a (suc e))) (int_pow a (suc e)) → SomeIff o (FitsSigned w128 (int_pow a (suc n))) (int_pow a (suc n))
some_power a e n o h l p s =
    elim (cases_lt (unsigned_abs a) 2) [
      | inl small ↦ subst (λ (z : ℤ). SomeIff o (FitsSigned w128 z) z) (small_power a e n small p) s
      | inr large ↦ neither _ _ _ _ o (large_power a (suc e) large h) (large_power a (suc n) large l) s
    ]

one_more : (k : ℕ) → 128 + k ≡ suc (127 + k)
one_more k = omega arith

last_bit : (n : ℕ) → suc (127 + n % 2) % 2 ≡ n % 2
last_bit n = omega arith

pub power_is_whole : (a b : ℤ) (o : Option ℤ) → pos 128 ≤ℤ b → SomeIff o (FitsSigned w128 (int_pow a (128 + unsigned_abs b % 2))) (int_pow a (128 + unsigned_abs b % 2))
    → IsWhole (exact Pow a b) (Ok o)
power_is_whole a (negsuc n) o h s = absurd (omega (arith, ints))
power_is_whole a (pos zero) o h s = absurd (omega (arith, ints))
power_is_whole a (pos (suc n)) o h s =
    some_power a (127 + suc n % 2) n o (omega arith) (omega (arith, ints)) (last_bit (suc n))
    (subst (λ (k : ℕ). SomeIff o (FitsSigned w128 (int_pow a k)) (int_pow a k)) (one_more (suc n % 2)) s)
