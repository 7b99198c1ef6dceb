-- Residues of numbers by sign and size.
use Rattle.std.proofs.Common.{◌≡◌, refl, sym, ◌∙◌, ap, ap₂, ℕ, zero, suc, ◌+◌, ◌-◌, ◌*◌, ◌%◌, ◌^◌, ◌<◌, ◌≤◌, ◌⊎◌, inl, inr, arith, Bool, true, false, not, Result, Ok, Err, ℤ, pos, negsuc, neg_ℤ, ◌+ℤ◌, ◌*ℤ◌, ◌≤ℤ◌}
use Rattle.std.specs.Prelude.{cond, ◌&&◌, ◌==◌, unsigned_abs, int_lt}
use Rattle.std.specs.Int.{int_rem_euclid, int_pow}
use Rattle.std.proofs.Math.Bool.{beq}
use Rattle.std.proofs.Math.Nat.{add-mod, mod-mod, zero-mod}
use Rattle.std.proofs.Math.IntN.{pos-*ℤ-pos, negsuc-*ℤ-pos, pos-*ℤ-negsuc, negsuc-*ℤ-negsuc}
use Rattle.std.proofs.lemmas.Nat.{mod_below, mul-mod_first, mul-mod_second, pow-mod}
use Rattle.std.proofs.lemmas.Int.{ints, int_rem_euclid_is}
use Rattle.ada_values.specs.Combine.{floor_mod, exact, wrapped}
use Rattle.ada_values.specs.Residues.{from_sign, turned, IsExactly, IsLike, whole}
use Rattle.ada_values.specs.declared.scalars.OpFault.{OpFault}
use Rattle.ada_values.specs.declared.modular.SignedSize.{SignedSize}
use Rattle.ada_values.specs.declared.scalars.Op.TheVariants.{Pow}
use Rattle.ada_values.proofs.Division.{Turns, turns}

-- ---- one number
turned_by : (q r n : ℕ) → Turns q r n → suc n - 1 - q ≡ turned (suc n) r
turned_by q zero n (inl t) = omega (arith, t.1)
turned_by q (suc r) n (inl t) = absurd (omega (arith, t.0))
turned_by q zero n (inr t) = absurd (omega (arith, t.0))
turned_by q (suc r) n (inr t) = omega (arith, t.0, t.1)

below_is : (s n : ℕ) → floor_mod (neg_ℤ (pos s)) (pos (suc n)) ≡ pos (turned (suc n) (s % suc n))
below_is zero n = let none : 0 % suc n ≡ 0 = zero-mod (suc n) in ap pos none ∙ sym (ap (λ (r : ℕ). pos (turned (suc n) r)) none)
below_is (suc s) n = ap pos (turned_by (s % suc n) (suc s % suc n) n (turns s n))

pub residue_above : (w : SignedSize) (n : ℕ) → w.is_below ≡ false → pos (w.size % n) ≡ floor_mod (whole w) (pos n)
residue_above w n e = ap (λ (b : Bool). floor_mod (from_sign b w.size) (pos n)) (sym e)

pub residue_below : (w : SignedSize) (n : ℕ) → 0 < n → w.is_below ≡ true → pos (turned n (w.size % n)) ≡ floor_mod (whole w) (pos n)
residue_below w zero h e = absurd (omega arith)
residue_below w (suc n) h e = sym (below_is w.size n) ∙ ap (λ (b : Bool). floor_mod (from_sign b w.size) (pos (suc n))) (sym e)

-- a size may be changed by a multiple
pub like_size : (b : Bool) (s t n : ℕ) → 0 < n → s % n ≡ t % n → floor_mod (from_sign b s) (pos n) ≡ floor_mod (from_sign b t) (pos n)
like_size false s t n h e = ap pos e
like_size true s t zero h e = absurd (omega arith)
like_size true s t (suc n) h e = below_is s n ∙ ap (λ r. pos (turned (suc n) r)) e ∙ sym (below_is t n)

-- ---- sums

-- a number, raised by n times its size
abbrev raised : ℤ → ℕ → ℕ
raised (pos i) n = i + i * n
raised (negsuc i) n = suc i * n - suc i

times_more : (i n : ℕ) → i ≤ i * suc n
times_more i n = omega arith

raised_is : (a : ℤ) (n : ℕ) → (a +ℤ pos (unsigned_abs a * suc n)) ≡ pos (raised a (suc n))
raised_is (pos i) n = refl
raised_is (negsuc i) n = let m = times_more (suc i) n in omega (arith, ints, m)

floor_raised : (a : ℤ) (n : ℕ) → floor_mod a (pos (suc n)) ≡ pos (raised a (suc n) % suc n)
floor_raised a n = int_rem_euclid_is a (pos (suc n)) (suc n) (unsigned_abs a) (raised a (suc n)) (omega arith) refl (raised_is a n)

both_raised : (a b x y : ℤ) (i j k : ℕ) → (a +ℤ pos i) ≡ x → (b +ℤ pos j) ≡ y → k ≡ i + j → ((a +ℤ b) +ℤ pos k) ≡ (x +ℤ y)
both_raised a b x y i j k e d f = omega (arith, ints)

sum_raised : (a b : ℤ) (n : ℕ) → floor_mod (a +ℤ b) (pos (suc n)) ≡ pos ((raised a (suc n) + raised b (suc n)) % suc n)
sum_raised a b n =
    int_rem_euclid_is (a +ℤ b) (pos (suc n)) (suc n) (unsigned_abs a + unsigned_abs b) (raised a (suc n) + raised b (suc n)) (omega arith) refl
    (both_raised a b _ _ _ _ _ (raised_is a n) (raised_is b n) (omega arith))

pos_same : (x y : ℕ) → pos x ≡ pos y → x ≡ y
pos_same x y e = cc

pub sum_like : (a b : ℤ) (x y n : ℕ) → 0 < n → pos x ≡ floor_mod a (pos n) → pos y ≡ floor_mod b (pos n)
    → floor_mod (from_sign false (x + y)) (pos n) ≡ floor_mod (a +ℤ b) (pos n)
sum_like a b x y zero h d e = absurd (omega arith)
sum_like a b x y (suc n) h d e =
    let i = pos_same x (raised a (suc n) % suc n) (d ∙ floor_raised a n) in
    let j = pos_same y (raised b (suc n) % suc n) (e ∙ floor_raised b n) in
    ap₂ (λ (p q : ℕ). pos ((p + q) % suc n)) i j
    ∙ ap pos (sym (add-mod (raised a (suc n)) (raised b (suc n)) (suc n)))
    ∙ sym (sum_raised a b n)

-- ---- products
abbrev pub differ : Bool → Bool → Bool
differ false b = b
differ true b = not b

pub differs : (p q : Bool) → not (beq p q) ≡ differ p q
differs false false = refl
differs false true = refl
differs true false = refl
differs true true = refl

-- 0 has no sign
none_below : (k : ℕ) (z : ℤ) → k ≡ 0 → z ≡ neg_ℤ (pos k) → pos k ≡ z
none_below k z h e = ap pos h ∙ sym (e ∙ ap (λ (x : ℕ). neg_ℤ (pos x)) h)

none_above : (k : ℕ) (z : ℤ) → k ≡ 0 → z ≡ pos k → neg_ℤ (pos k) ≡ z
none_above k z h e = ap (λ (x : ℕ). neg_ℤ (pos x)) h ∙ sym (e ∙ ap pos h)

product_size : (p q : Bool) (x y : ℕ) → from_sign (differ p q) (x * y) ≡ (from_sign p x *ℤ from_sign q y)
product_size false false x y = sym (pos-*ℤ-pos x y)
product_size false true x zero = none_above (x * 0) (pos x *ℤ pos 0) (omega arith) (pos-*ℤ-pos x 0)
product_size false true x (suc y) = sym (pos-*ℤ-negsuc x y)
product_size true false zero y = none_above (0 * y) (pos 0 *ℤ pos y) (omega arith) (pos-*ℤ-pos 0 y)
product_size true false (suc x) y = sym (negsuc-*ℤ-pos x y)
product_size true true zero zero = sym (pos-*ℤ-pos 0 0)
product_size true true zero (suc y) = none_below (0 * suc y) (pos 0 *ℤ negsuc y) (omega arith) (pos-*ℤ-negsuc 0 y)
product_size true true (suc x) zero = none_below (suc x * 0) (negsuc x *ℤ pos 0) (omega arith) (negsuc-*ℤ-pos x 0)
product_size true true (suc x) (suc y) = sym (negsuc-*ℤ-negsuc x y)

rest_product : (x y n : ℕ) → (x % n * (y % n)) % n ≡ (x * y) % n
rest_product x y n = mul-mod_first x (y % n) n ∙ mul-mod_second x y n

pub product_like : (p q r : Bool) (x y n : ℕ) → 0 < n → r ≡ differ p q
    → floor_mod (from_sign r (x % n * (y % n))) (pos n) ≡ floor_mod (from_sign p x *ℤ from_sign q y) (pos n)
product_like p q r x y n h e =
    ap (λ (b : Bool). floor_mod (from_sign b (x % n * (y % n))) (pos n)) e
    ∙ like_size (differ p q) (x % n * (y % n)) (x * y) n h (rest_product x y n)
    ∙ ap (λ (z : ℤ). floor_mod z (pos n)) (product_size p q x y)

-- ---- powers
odd_or_even : (e r : ℕ) → e % 2 ≡ r → r < 2 → (e % 2 ≡ 0) ⊎ (e % 2 ≡ 1)
odd_or_even e zero h l = inl h
odd_or_even e (suc zero) h l = inr h
odd_or_even e (suc (suc r)) h l = absurd (omega arith)

not_below : (x : ℕ) → int_lt (pos x) (pos 0) ≡ false
not_below x = grind (arith, ints)

power_size : (a : ℤ) (e : ℕ) → from_sign (int_lt a (pos 0) && (e % 2 == 1)) (unsigned_abs a ^ e) ≡ int_pow a e
power_size (pos x) e = ap (λ (b : Bool). from_sign (b && (e % 2 == 1)) (x ^ e)) (not_below x)
power_size (negsuc x) e =
    elim (odd_or_even e (e % 2) refl (mod_below e 2 (omega arith))) [
      | inl z ↦ rw z refl
      | inr o ↦ rw o refl
    ]

pub power_like : (a : ℤ) (e s n : ℕ) → 0 < n → s ≡ ((unsigned_abs a % n) ^ e) % n
    → floor_mod (from_sign (int_lt a (pos 0) && (e % 2 == 1)) s) (pos n) ≡ floor_mod (int_pow a e) (pos n)
power_like a e s n h is =
    like_size (int_lt a (pos 0) && (e % 2 == 1)) s (unsigned_abs a ^ e) n h (ap (λ (k : ℕ). k % n) is ∙ mod-mod ((unsigned_abs a % n) ^ e) n ∙ pow-mod (unsigned_abs a) e n)
    ∙ ap (λ (z : ℤ). floor_mod z (pos n)) (power_size a e)

pub power_is_like : (a b : ℤ) (n i e : ℕ) (t : Bool) (s : ℕ) → 0 < n → pos 0 ≤ℤ b → i ≡ unsigned_abs a → e ≡ unsigned_abs b
    → t ≡ (int_lt a (pos 0) && (e % 2 == 1)) → s ≡ ((i % n) ^ e) % n → IsLike n (exact Pow a b) (Ok (record { is_below = t; size = s }))
power_is_like a (negsuc k) n i e t s h l d f g is = absurd (omega (arith, ints))
power_is_like a (pos k) n i e t s h l d f g is =
    ap (λ (b : Bool). floor_mod (from_sign b s) (pos n)) (g ∙ ap (λ (x : ℕ). int_lt a (pos 0) && (x % 2 == 1)) f)
    ∙ power_like a k s n h (is ∙ ap₂ (λ (x y : ℕ). ((x % n) ^ y) % n) d f)

-- ---- results
pub wrapped_from : (m : ℤ) (x : Result ℤ OpFault) (w : SignedSize) (r : ℕ) → pos 2 ≤ℤ m → IsLike (unsigned_abs m) x (Ok w)
    → pos r ≡ floor_mod (whole w) (pos (unsigned_abs m)) → Ok (pos r) ≡ wrapped m x
wrapped_from (negsuc k) x w r h l e = absurd (omega (arith, ints))
wrapped_from (pos n) (Ok z) w r h l e = ap Ok (e ∙ l)
wrapped_from (pos n) (Err f) w r h l e = absurd l

pub exactly_like : (n : ℕ) (x : Result ℤ OpFault) (r : Result SignedSize OpFault) → IsExactly x r → IsLike n x r
exactly_like n (Ok z) (Ok w) h = ap (λ (k : ℤ). floor_mod k (pos n)) h
exactly_like n (Err e) (Err f) h = h
exactly_like n (Ok z) (Err f) h = absurd h
exactly_like n (Err e) (Ok w) h = absurd h
