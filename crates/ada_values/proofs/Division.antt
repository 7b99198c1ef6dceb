-- The laws of the integer divisions, and the remainder that the code computes.
use Rattle.std.proofs.Common.{◌≡◌, ◌≢◌, refl, sym, ◌∙◌, ap, ℕ, zero, suc, ◌+◌, ◌-◌, ◌*◌, ◌%◌, ◌<◌, ◌⊎◌, inl, inr, arith, ℤ, pos, negsuc, neg_ℤ, ◌+ℤ◌, ◌-ℤ◌, ◌*ℤ◌, ◌≤ℤ◌, ◌<ℤ◌}
use Rattle.std.proofs.Math.Nat.{mod-eq_of_lt, mod_self, suc-mod}
use Rattle.std.proofs.lemmas.Nat.{mod_below}
use Rattle.std.proofs.lemmas.Bool.{cases_lt}
use Rattle.std.proofs.lemmas.Int.{ints, quot-rem, rem_below, by_lt_z}
use borrow.Author.Differences.{up, down}
use Rattle.std.specs.Int.RustNames.{int_div, int_rem, unsigned_abs}
use Rattle.ada_values.specs.Combine.{floor_mod}
use Rattle.ada_values.specs.Division.{ModuloLaw, QuotientLaw}

-- how a remainder q by suc n goes on at the next number, where it is r
abbrev pub Turns : ℕ → ℕ → ℕ → Type 0
Turns q r n = ((r ≡ 0) × (q ≡ n)) ⊎ ((r ≡ suc q) × (q < n))

turns_at : (q n : ℕ) → q < suc n → Turns q (suc q % suc n) n
turns_at q n h =
    elim (cases_lt q n) [
      | inl less ↦ (let small : suc q < suc n = omega arith in inr (mod-eq_of_lt small, less))
      | inr more ↦ (let same : q ≡ n = omega arith in inl (ap (λ k. suc k % suc n) same ∙ mod_self (suc n), same))
    ]

pub turns : (x n : ℕ) → Turns (x % suc n) (suc x % suc n) n
turns x n = rw suc-mod (turns_at (x % suc n) n (mod_below x (suc n) (omega arith)))

rises_by : (q r n : ℕ) → Turns q r n → neg_ℤ (pos r) <ℤ pos 0 → (neg_ℤ (pos r) +ℤ pos (suc n)) ≡ pos (suc n - 1 - q)
rises_by q r n (inl t) h = absurd (omega (arith, ints))
rises_by q r n (inr t) h = omega (arith, ints)

falls_by : (q r n : ℕ) → Turns q r n → pos 0 <ℤ pos r → (pos r +ℤ negsuc n) ≡ neg_ℤ (pos (suc n - 1 - q))
falls_by q r n (inl t) h = absurd (omega (arith, ints))
falls_by q r n (inr t) h = omega (arith, ints)

-- a remainder below 0 by a divisor above 0
pub rises : (a b : ℤ) → int_rem a b <ℤ pos 0 → pos 0 <ℤ b → (int_rem a b +ℤ b) ≡ floor_mod a b
rises (pos x) b h g = absurd (omega (arith, ints))
rises (negsuc x) (pos zero) h g = absurd (omega (arith, ints))
rises (negsuc x) (pos (suc n)) h g = rises_by _ _ n (turns x n) h
rises (negsuc x) (negsuc n) h g = absurd (omega (arith, ints))

-- a remainder above 0 by a divisor below 0
pub falls : (a b : ℤ) → pos 0 <ℤ int_rem a b → b <ℤ pos 0 → (int_rem a b +ℤ b) ≡ floor_mod a b
falls a (pos n) h g = absurd (omega (arith, ints))
falls (negsuc x) (negsuc n) h g = absurd (omega (arith, ints))
falls (pos zero) (negsuc n) h g = absurd (omega (arith, ints))
falls (pos (suc x)) (negsuc n) h g = falls_by _ _ n (turns x n) h

stays_up : (q r n : ℕ) → Turns q r n → pos 0 ≤ℤ neg_ℤ (pos r) → neg_ℤ (pos r) ≡ pos (suc n - 1 - q)
stays_up q r n (inl t) h = omega (arith, ints)
stays_up q r n (inr t) h = absurd (omega (arith, ints))

stays_down : (q r n : ℕ) → Turns q r n → pos r ≤ℤ pos 0 → pos r ≡ neg_ℤ (pos (suc n - 1 - q))
stays_down q r n (inl t) h = omega (arith, ints)
stays_down q r n (inr t) h = absurd (omega (arith, ints))

-- any other remainder
pub stays_above : (a b : ℤ) → pos 0 ≤ℤ int_rem a b → pos 0 <ℤ b → int_rem a b ≡ floor_mod a b
stays_above a (negsuc n) h g = absurd (omega (arith, ints))
stays_above a (pos zero) h g = absurd (omega (arith, ints))
stays_above (pos x) (pos (suc n)) h g = refl
stays_above (negsuc x) (pos (suc n)) h g = stays_up _ _ n (turns x n) h

pub stays_below : (a b : ℤ) → int_rem a b ≤ℤ pos 0 → b <ℤ pos 0 → int_rem a b ≡ floor_mod a b
stays_below a (pos n) h g = absurd (omega (arith, ints))
stays_below (negsuc x) (negsuc n) h g = refl
stays_below (pos zero) (negsuc n) h g = omega (arith, ints)
stays_below (pos (suc x)) (negsuc n) h g = stays_down _ _ n (turns x n) h

quotient_above : (a b : ℤ) → pos 0 ≤ℤ a → pos 0 ≤ℤ int_rem a b
quotient_above (pos x) b h = omega (arith, ints)
quotient_above (negsuc x) b h = absurd (omega (arith, ints))

quotient_below : (a b : ℤ) → a ≤ℤ pos 0 → int_rem a b ≤ℤ pos 0
quotient_below (pos zero) b h = omega (arith, ints)
quotient_below (pos (suc x)) b h = absurd (omega (arith, ints))
quotient_below (negsuc x) b h = omega (arith, ints)

nonzero_size : (b : ℤ) → b ≢ pos 0 → 0 < unsigned_abs b
nonzero_size (pos zero) n = absurd (n refl)
nonzero_size (pos (suc k)) n = omega arith
nonzero_size (negsuc k) n = omega arith

pub quotient_law : QuotientLaw
quotient_law a b n = record {
  sum = sym (quot-rem a b);
  smaller = rem_below a b (nonzero_size b n);
  above = quotient_above a b;
  below = quotient_below a b;
}

-- ---- the law of `mod`
with_rem : (a b q r : ℤ) → ((q *ℤ b) +ℤ r) ≡ a → (a -ℤ r) ≡ (q *ℤ b)
with_rem a b q r e = omega (arith, ints)

with_sum : (a b q r : ℤ) → ((q *ℤ b) +ℤ r) ≡ a → (a -ℤ (r +ℤ b)) ≡ ((q -ℤ pos 1) *ℤ b)
with_sum a b q r e =
    let less : up (q -ℤ pos 1) + (down q + 1) ≡ down (q -ℤ pos 1) + up q = omega (arith, ints) in
    omega (arith, ints, ap (λ k. k * up b) less, ap (λ k. k * down b) less)

abbrev Multiple : ℤ → ℤ → ℤ → Type 0
Multiple a b m = (k : ℤ) × ((a -ℤ m) ≡ (k *ℤ b))

multiple_rem : (a b m : ℤ) → int_rem a b ≡ m → Multiple a b m
multiple_rem a b m e = (int_div a b, rw (← e) (with_rem a b _ _ (quot-rem a b)))

multiple_sum : (a b m : ℤ) → (int_rem a b +ℤ b) ≡ m → Multiple a b m
multiple_sum a b m e = (int_div a b -ℤ pos 1, rw (← e) (with_sum a b _ _ (quot-rem a b)))

multiple_up : (a b : ℤ) → pos 0 <ℤ b → Multiple a b (floor_mod a b)
multiple_up a b h = by_lt_z (int_rem a b) (pos 0) (λ l. multiple_sum a b _ (rises a b l h)) (λ l. multiple_rem a b _ (stays_above a b l h))

multiple_down : (a b : ℤ) → b <ℤ pos 0 → Multiple a b (floor_mod a b)
multiple_down a b h = by_lt_z (pos 0) (int_rem a b) (λ l. multiple_sum a b _ (falls a b l h)) (λ l. multiple_rem a b _ (stays_below a b l h))

multiple_of : (a b : ℤ) → b ≢ pos 0 → Multiple a b (floor_mod a b)
multiple_of a (pos zero) n = absurd (n refl)
multiple_of a (pos (suc k)) n = multiple_up a (pos (suc k)) (omega (arith, ints))
multiple_of a (negsuc k) n = multiple_down a (negsuc k) (omega (arith, ints))

pub floor_above : (a b : ℤ) → pos 0 <ℤ b → (pos 0 ≤ℤ floor_mod a b) × (floor_mod a b <ℤ b)
floor_above a (negsuc n) h = absurd (omega (arith, ints))
floor_above a (pos zero) h = absurd (omega (arith, ints))
floor_above (pos x) (pos (suc n)) h =
    let r : x % suc n < suc n = mod_below x (suc n) (omega arith) in (omega (arith, ints), omega (arith, ints))
floor_above (negsuc x) (pos (suc n)) h =
    let r : x % suc n < suc n = mod_below x (suc n) (omega arith) in (omega (arith, ints), omega (arith, ints))

pub floor_below : (a b : ℤ) → b <ℤ pos 0 → (b <ℤ floor_mod a b) × (floor_mod a b ≤ℤ pos 0)
floor_below a (pos n) h = absurd (omega (arith, ints))
floor_below (negsuc x) (negsuc n) h =
    let r : suc x % suc n < suc n = mod_below (suc x) (suc n) (omega arith) in (omega (arith, ints), omega (arith, ints))
floor_below (pos zero) (negsuc n) h =
    let r : 0 % suc n < suc n = mod_below 0 (suc n) (omega arith) in (omega (arith, ints), omega (arith, ints))
floor_below (pos (suc x)) (negsuc n) h =
    let r : x % suc n < suc n = mod_below x (suc n) (omega arith) in (omega (arith, ints), omega (arith, ints))

pub modulo_law : ModuloLaw
modulo_law a b n = record { multiple = multiple_of a b n; above = floor_above a b; below = floor_below a b }

-- ---- the remainder that the code computes
pub falls_at : (a b r : ℤ) → r ≡ int_rem a b → pos 0 <ℤ r → b <ℤ pos 0 → (r +ℤ b) ≡ floor_mod a b
falls_at a b r e h g = rw e (falls a b (rw e at h) g)

pub rises_at : (a b r : ℤ) → r ≡ int_rem a b → r <ℤ pos 0 → pos 0 <ℤ b → (r +ℤ b) ≡ floor_mod a b
rises_at a b r e h g = rw e (rises a b (rw e at h) g)

pub stays_above_at : (a b r : ℤ) → r ≡ int_rem a b → pos 0 ≤ℤ r → pos 0 <ℤ b → r ≡ floor_mod a b
stays_above_at a b r e h g = e ∙ stays_above a b (rw e at h) g

pub stays_below_at : (a b r : ℤ) → r ≡ int_rem a b → r ≤ℤ pos 0 → b <ℤ pos 0 → r ≡ floor_mod a b
stays_below_at a b r e h g = e ∙ stays_below a b (rw e at h) g
