-- Values that stop at 2^128 - 1.
use Rattle.std.proofs.Common.{◌≡◌, ℕ, zero, suc, ◌+◌, ◌-◌, ◌*◌, ◌^◌, ◌<◌, ◌≤◌, Bool, true, false, List, [], ◌∷◌, length, get_or, drop, refl, sym, ap, ◌∙◌, arith, inl, inr}
use Rattle.std.specs.Prelude.{min, filter, if◌then◌else◌}
use Rattle.std.specs.Char.{digit_value}
use Rattle.std.specs.Str.Parse.{digits_value_after}
use Rattle.std.proofs.Math.Nat.{min-eq_left, min-eq_right, le-mul_of_pos_right, one-le-pow, pow-le-pow_left, pow-le-pow_right, pow-suc, mul-le-mul, mul_assoc, min-le_left, le_refl}
use Rattle.std.proofs.lemmas.Bool.{cases_lt}
use Rattle.std.proofs.lemmas.List.{at_drop_more}
use Rattle.ada_text.specs.Numbers.{is_written}

-- a cap before a step changes nothing after it
cap_step : (n r d m : ℕ) → 1 ≤ r → min (min n m * r + d) m ≡ min (n * r + d) m
cap_step n r d m h = elim (cases_lt n m) [
  | inl low ↦ let e : min n m ≡ n = min-eq_left (omega arith) in ap (λ k. min (k * r + d) m) e
  | inr high ↦
      let e : min n m ≡ m = min-eq_right high in
      let a : m ≤ m * r = le-mul_of_pos_right m h in
      let b : n ≤ n * r = le-mul_of_pos_right n h in
      let x : min (m * r + d) m ≡ m = min-eq_right (omega arith) in
      let y : min (n * r + d) m ≡ m = min-eq_right (omega arith) in
      ap (λ k. min (k * r + d) m) e ∙ x ∙ sym y
]

cap_twice : (n d m : ℕ) → min (min n m + d) m ≡ min (n + d) m
cap_twice n d m = elim (cases_lt n m) [
  | inl low ↦ let e : min n m ≡ n = min-eq_left (omega arith) in ap (λ k. min (k + d) m) e
  | inr high ↦
      let e : min n m ≡ m = min-eq_right high in
      let x : min (m + d) m ≡ m = min-eq_right (omega arith) in
      let y : min (n + d) m ≡ m = min-eq_right (omega arith) in
      ap (λ k. min (k + d) m) e ∙ x ∙ sym y
]

cap_cap : (n m : ℕ) → min (min n m) m ≡ min n m
cap_cap n m = elim (cases_lt n m) [
  | inl low ↦ let e : min n m ≡ n = min-eq_left (omega arith) in ap (λ k. min k m) e
  | inr high ↦
      let e : min n m ≡ m = min-eq_right high in
      let x : min m m ≡ m = min-eq_right (omega arith) in
      ap (λ k. min k m) e ∙ x ∙ sym e
]

after_cap : (r n m : ℕ) (cs : List ℕ) → 1 ≤ r → min (digits_value_after r (min n m) cs) m ≡ min (digits_value_after r n cs) m
after_cap r n m [] h = cap_cap n m
after_cap r n m (c ∷ cs) h =
    sym (after_cap r (min n m * r + digit_value c) m cs h)
    ∙ ap (λ k. min (digits_value_after r k cs) m) (cap_step n r (digit_value c) m h)
    ∙ after_cap r (n * r + digit_value c) m cs h

-- the value after one byte more
abbrev pub stepped : ℕ → ℕ → ℕ → ℕ → ℕ
stepped r v b m = if is_written b then min (min (v * r) m + digit_value b) m else v

byte_more : (r v b m : ℕ) (rest : List ℕ) (t : Bool) → 1 ≤ r → is_written b ≡ t → min (digits_value_after r (stepped r v b m) (filter is_written rest)) m ≡ min (digits_value_after r v (filter is_written (b ∷ rest))) m
byte_more r v b m rest true h e =
    rw (e) (ap (λ k. min (digits_value_after r k (filter is_written rest)) m) (cap_twice (v * r) (digit_value b) m)
    ∙ after_cap r (v * r + digit_value b) m (filter is_written rest) h)
byte_more r v b m rest false h e = rw (e) refl

pub numeral_more : (r v i m : ℕ) (text : List ℕ) → 1 ≤ r → i < length text → min (digits_value_after r (stepped r v (get_or text i 0) m) (filter is_written (drop (i + 1) text))) m ≡ min (digits_value_after r v (filter is_written (drop i text))) m
numeral_more r v i m text h within =
    byte_more r v (get_or text i 0) m (drop (i + 1) text) (is_written (get_or text i 0)) h refl
    ∙ sym (at_drop_more (λ (l : List ℕ). min (digits_value_after r v (filter is_written l)) m) text i 0 within)

power_next : (d r k : ℕ) → d * r ^ k * r + 0 ≡ d * r ^ (k + 1)
power_next d r k =
    let a : k + 1 ≡ suc k = omega arith in
    let b : d * r ^ k * r + 0 ≡ d * r ^ k * r = omega arith in
    b ∙ mul_assoc d (r ^ k) r ∙ ap (λ n. d * n) (sym (pow-suc r k)) ∙ ap (λ n. d * r ^ n) (sym a)

-- one power more
pub power_more : (d r k m : ℕ) → 1 ≤ r → min (min (d * r ^ k) m * r) m ≡ min (d * r ^ (k + 1)) m
power_more d r k m h =
    let a : min (d * r ^ k) m * r ≡ min (d * r ^ k) m * r + 0 = omega arith in
    ap (λ n. min n m) a ∙ cap_step (d * r ^ k) r 0 m h ∙ ap (λ n. min n m) (power_next d r k)

-- 128 doublings pass the cap
high_power : (d r e : ℕ) → 1 ≤ d → 2 ≤ r → 128 ≤ e → 2 ^ 128 - 1 ≤ d * r ^ e
high_power d r e some base long =
    let a : 2 ^ 128 ≤ r ^ 128 = pow-le-pow_left base 128 in
    let positive : 0 < r = omega arith in
    let b : r ^ 128 ≤ r ^ e = pow-le-pow_right positive long in
    let c : 1 * r ^ e ≤ d * r ^ e = mul-le-mul some (le_refl (r ^ e)) in
    omega arith

-- further turns change nothing
pub power_end : (d r e : ℕ) → 2 ≤ r → min (d * r ^ min e 128) (2 ^ 128 - 1) ≡ min (d * r ^ e) (2 ^ 128 - 1)
power_end zero r e h = let a : zero * r ^ min e 128 ≡ 0 = omega arith in let b : zero * r ^ e ≡ 0 = omega arith in ap (λ n. min n (2 ^ 128 - 1)) (a ∙ sym b)
power_end (suc d) r e h = elim (cases_lt e 128) [
  | inl low ↦ let same : min e 128 ≡ e = min-eq_left (omega arith) in ap (λ k. min (suc d * r ^ k) (2 ^ 128 - 1)) same
  | inr high ↦
      let same : min e 128 ≡ 128 = min-eq_right high in
      ap (λ k. min (suc d * r ^ k) (2 ^ 128 - 1)) same
      ∙ min-eq_right (high_power (suc d) r 128 (omega arith) h (omega arith))
      ∙ sym (min-eq_right (high_power (suc d) r e (omega arith) h high))
]

cap_left : (d p m : ℕ) → 1 ≤ p → min (min d m * p) m ≡ min (d * p) m
cap_left d p m h =
    let a : min d m * p ≡ min d m * p + 0 = omega arith in
    let b : d * p + 0 ≡ d * p = omega arith in
    ap (λ n. min n m) a ∙ cap_step d p 0 m h ∙ ap (λ n. min n m) b

cap_exponent : (d r e : ℕ) → 2 ≤ r → min (d * r ^ min e (2 ^ 128 - 1)) (2 ^ 128 - 1) ≡ min (d * r ^ e) (2 ^ 128 - 1)
cap_exponent d r e h = elim (cases_lt e (2 ^ 128 - 1)) [
  | inl low ↦ let same : min e (2 ^ 128 - 1) ≡ e = min-eq_left (omega arith) in ap (λ k. min (d * r ^ k) (2 ^ 128 - 1)) same
  | inr high ↦
      let same : min e (2 ^ 128 - 1) ≡ 2 ^ 128 - 1 = min-eq_right high in
      let long : 128 ≤ 2 ^ 128 - 1 = omega arith in
      let x : min (2 ^ 128 - 1) 128 ≡ 128 = min-eq_right long in
      let y : min e 128 ≡ 128 = min-eq_right (omega arith) in
      ap (λ k. min (d * r ^ k) (2 ^ 128 - 1)) same
      ∙ sym (power_end d r (2 ^ 128 - 1) h)
      ∙ ap (λ k. min (d * r ^ k) (2 ^ 128 - 1)) (x ∙ sym y)
      ∙ power_end d r e h
]

-- the value of capped parts, under the cap
pub parts_capped : (d r e : ℕ) → 2 ≤ r → min (min d (2 ^ 128 - 1) * r ^ min e (2 ^ 128 - 1)) (2 ^ 128 - 1) ≡ min (d * r ^ e) (2 ^ 128 - 1)
parts_capped d r e h =
    cap_left d (r ^ min e (2 ^ 128 - 1)) (2 ^ 128 - 1) (one-le-pow (min e (2 ^ 128 - 1)) r (omega arith)) ∙ cap_exponent d r e h

-- a value under the cap is the value itself
pub below_cap : (v n : ℕ) → v ≡ min n (2 ^ 128 - 1) → v < 2 ^ 128 - 1 → n ≡ v
below_cap v n e h = elim (cases_lt n (2 ^ 128 - 1)) [
  | inl low ↦ let same : min n (2 ^ 128 - 1) ≡ n = min-eq_left (omega arith) in sym (e ∙ same)
  | inr high ↦ let same : min n (2 ^ 128 - 1) ≡ 2 ^ 128 - 1 = min-eq_right high in absurd (omega (arith, e ∙ same))
]

-- and what a capped value passes, the value passes
pub above_cap : (v n k : ℕ) → v ≡ min n (2 ^ 128 - 1) → k ≤ v → k ≤ n
above_cap v n k e h = let a : min n (2 ^ 128 - 1) ≤ n = min-le_left n (2 ^ 128 - 1) in omega arith
