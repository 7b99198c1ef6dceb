-- Numbers in decimal digits, read from the left.
use Rattle.std.proofs.Common.{◌≡◌, refl, sym, ◌∙◌, ap, ap₂, ℕ, zero, suc, ◌+◌, ◌*◌, ◌-◌, ◌<◌, ◌≤◌, ◌/◌, ◌%◌, Bool, true, false, List, [], ◌∷◌, ◌++◌, arith, map, append_assoc, inl, inr}
use Rattle.std.specs.Prelude.{◌==◌, if◌then◌else◌}
use Rattle.std.specs.Int.Digits.{digits_of}
use Rattle.std.proofs.lemmas.Int.Digits.{digits_of_step}
use Rattle.std.proofs.lemmas.Bool.{and_parts, and_from, true≢false, eqb-true, leb-true, le-leb, cond-true, cond-false, cond_both, cases_lt}
use Rattle.std.proofs.lemmas.List.{map-append}
use Rattle.logic_terms.specs.Text.{number_text}
use Rattle.term_reader.specs.Bytes.{is_digit, first, Ends, Stuck}

pub same_head : (c d : ℕ) (xs ys : List ℕ) → c ∷ xs ≡ d ∷ ys → c ≡ d
same_head c d xs ys h = cc

pub same_tail : (c d : ℕ) (xs ys : List ℕ) → c ∷ xs ≡ d ∷ ys → xs ≡ ys
same_tail c d xs ys h = cc

-- ---- digits

pub digit_low : (c : ℕ) → is_digit c ≡ true → 48 ≤ c
digit_low c h = leb-true 48 c (and_parts _ _ h).0

pub digit_high : (c : ℕ) → is_digit c ≡ true → c ≤ 57
digit_high c h = leb-true c 57 (and_parts _ _ h).1

pub is_a_digit : (d : ℕ) → d < 10 → is_digit (48 + d) ≡ true
is_a_digit d h = and_from _ _ (le-leb 48 (48 + d) (omega arith)) (le-leb (48 + d) 57 (omega arith))

-- ---- the last digit of a number

glyph : ℕ → ℕ
glyph d = 48 + d

other_number : (b : Bool) (n : ℕ) (xs ys : List ℕ) → (b ≡ true → n ≡ 0) → 0 < n → (if b then xs else ys) ≡ ys
other_number true n xs ys z h = absurd (let e : n ≡ 0 = z refl in omega arith)
other_number false n xs ys z h = refl

above_zero : (n : ℕ) → 0 < n → number_text n ≡ map (λ d. 48 + d) (digits_of 10 n)
above_zero n h = other_number (n == 0) n _ _ (eqb-true n 0) h

ends_with : (n : ℕ) → 0 < n → number_text n ≡ map (λ d. 48 + d) (digits_of 10 (n / 10)) ++ ((48 + n % 10) ∷ [])
ends_with n h = above_zero n h ∙ ap (map (λ d. 48 + d)) (digits_of_step 10 n (omega arith) h) ∙ map-append (λ d. 48 + d) (digits_of 10 (n / 10)) (n % 10 ∷ [])

alone : (q r n : ℕ) → q ≡ 0 → r ≡ n → map (λ d. 48 + d) (digits_of 10 q) ++ ((48 + r) ∷ []) ≡ (48 + n) ∷ []
alone q r n e f =
    ap (λ (x : ℕ). map (λ d. 48 + d) (digits_of 10 x) ++ ((48 + r) ∷ [])) e ∙ ap (λ (x : ℕ). (48 + x) ∷ []) f

pub one_digit : (n : ℕ) → n < 10 → number_text n ≡ (48 + n) ∷ []
one_digit zero h = refl
one_digit (suc n) h = ends_with (suc n) (omega arith) ∙ alone (suc n / 10) (suc n % 10) (suc n) (grind arith) (grind arith)

pub more_digits : (n : ℕ) → 10 ≤ n → number_text n ≡ number_text (n / 10) ++ ((48 + n % 10) ∷ [])
more_digits n h =
    ends_with n (omega arith) ∙ ap (λ (xs : List ℕ). xs ++ ((48 + n % 10) ∷ [])) (sym (above_zero (n / 10) (grind arith)))

-- a digit more
pub next_digit : (n d : ℕ) → 0 < n → d < 10 → number_text (10 * n + d) ≡ number_text n ++ ((48 + d) ∷ [])
next_digit n d h k =
    let q : (10 * n + d) / 10 ≡ n = grind arith in
    let r : (10 * n + d) % 10 ≡ d = grind arith in
    more_digits (10 * n + d) (omega arith) ∙ ap₂ (λ (x y : ℕ). number_text x ++ ((48 + y) ∷ [])) q r

quotient_below : (n fuel : ℕ) → 10 ≤ n → n < suc fuel → n / 10 < fuel
quotient_below n fuel h k = grind arith

-- ---- what digits say

-- the number of some digits and the digits at the front of a text
abbrev pub value : ℕ → List ℕ → ℕ
value n [] = n
value n (c ∷ cs) = if is_digit c then value (10 * n + (c - 48)) cs else n

value_digit : (n c : ℕ) (cs : List ℕ) → is_digit c ≡ true → value n (c ∷ cs) ≡ value (10 * n + (c - 48)) cs
value_digit n c cs h = cond-true (is_digit c) _ _ h

value_ends : (n : ℕ) (k : List ℕ) → Ends k → value n k ≡ n
value_ends n [] h = refl
value_ends n (c ∷ cs) h = cond-false (is_digit c) _ _ h

value_grows : (n : ℕ) (cs : List ℕ) → n ≤ value n cs
value_grows n [] = omega arith
value_grows n (c ∷ cs) =
    cond_both (is_digit c) (value (10 * n + (c - 48)) cs) n (λ (x : ℕ). n ≤ x)
    (λ h. let k : 10 * n + (c - 48) ≤ value (10 * n + (c - 48)) cs = value_grows (10 * n + (c - 48)) cs in omega arith)
    (λ h. omega arith)

value_glyph : (n d : ℕ) (cs : List ℕ) → d < 10 → value n ((48 + d) ∷ cs) ≡ value (10 * n + d) cs
value_glyph n d cs h =
    let e : (48 + d) - 48 ≡ d = omega arith in
    value_digit n (48 + d) cs (is_a_digit d h) ∙ ap (λ (x : ℕ). value (10 * n + x) cs) e

value_by : (fuel n : ℕ) (xs : List ℕ) → n < fuel → value 0 (number_text n ++ xs) ≡ value n xs
value_by zero n xs h = absurd (omega arith)
value_by (suc fuel) n xs h = elim (cases_lt n 10) [
  | inl k ↦ let e : 10 * 0 + n ≡ n = omega arith in
      ap (λ (ds : List ℕ). value 0 (ds ++ xs)) (one_digit n k) ∙ value_glyph 0 n xs k ∙ ap (λ (x : ℕ). value x xs) e
  | inr k ↦ let d : n % 10 < 10 = grind arith in
      let e : 10 * (n / 10) + n % 10 ≡ n = grind arith in
      ap (λ (ds : List ℕ). value 0 (ds ++ xs)) (more_digits n k)
      ∙ ap (value 0) (append_assoc (number_text (n / 10)) ((48 + n % 10) ∷ []) xs)
      ∙ value_by fuel (n / 10) ((48 + n % 10) ∷ xs) (quotient_below n fuel k h)
      ∙ value_glyph (n / 10) (n % 10) xs d
      ∙ ap (λ (x : ℕ). value x xs) e
]

pub value_text : (n : ℕ) (xs : List ℕ) → value 0 (number_text n ++ xs) ≡ value n xs
value_text n xs = value_by (suc n) n xs (omega arith)

pub value_is : (n : ℕ) (k : List ℕ) → Ends k → value 0 (number_text n ++ k) ≡ n
value_is n k h = value_text n k ∙ value_ends n k h

-- ---- the digits at the front

abbrev pub digits_over : List ℕ → List ℕ
digits_over [] = []
digits_over (c ∷ cs) = if is_digit c then digits_over cs else c ∷ cs

over_ends : (k : List ℕ) → Ends k → digits_over k ≡ k
over_ends [] h = refl
over_ends (c ∷ cs) h = cond-false (is_digit c) _ _ h

over_glyph : (d : ℕ) (cs : List ℕ) → d < 10 → digits_over ((48 + d) ∷ cs) ≡ digits_over cs
over_glyph d cs h = cond-true (is_digit (48 + d)) _ _ (is_a_digit d h)

over_by : (fuel n : ℕ) (xs : List ℕ) → n < fuel → digits_over (number_text n ++ xs) ≡ digits_over xs
over_by zero n xs h = absurd (omega arith)
over_by (suc fuel) n xs h = elim (cases_lt n 10) [
  | inl k ↦ ap (λ (ds : List ℕ). digits_over (ds ++ xs)) (one_digit n k) ∙ over_glyph n xs k
  | inr k ↦ let d : n % 10 < 10 = grind arith in
      ap (λ (ds : List ℕ). digits_over (ds ++ xs)) (more_digits n k)
      ∙ ap digits_over (append_assoc (number_text (n / 10)) ((48 + n % 10) ∷ []) xs)
      ∙ over_by fuel (n / 10) ((48 + n % 10) ∷ xs) (quotient_below n fuel k h)
      ∙ over_glyph (n % 10) xs d
]

pub over_number : (n : ℕ) (k : List ℕ) → Ends k → digits_over (number_text n ++ k) ≡ k
over_number n k h = over_by (suc n) n k (omega arith) ∙ over_ends k h

-- ---- the first digit

record Begins (n : ℕ) (xs : List ℕ) : Type 0 where
  a_digit : is_digit (first (number_text n ++ xs)) ≡ true
  no_zero : 0 < n → first (number_text n ++ xs) ≡ 48 → ⊥

begins_from : (n m : ℕ) (xs ys : List ℕ) → first (number_text n ++ xs) ≡ first (number_text m ++ ys) → (0 < n → 0 < m) → Begins m ys → Begins n xs
begins_from n m xs ys e p b = record {
  a_digit = ap is_digit e ∙ b.a_digit;
  no_zero = λ h f. b.no_zero (p h) (sym e ∙ f);
}

begins_by : (fuel n : ℕ) (xs : List ℕ) → n < fuel → Begins n xs
begins_by zero n xs h = absurd (omega arith)
begins_by (suc fuel) n xs h = elim (cases_lt n 10) [
  | inl k ↦ let e : first (number_text n ++ xs) ≡ 48 + n = ap (λ (ds : List ℕ). first (ds ++ xs)) (one_digit n k) in record {
    a_digit = ap is_digit e ∙ is_a_digit n k;
    no_zero = λ p f. let g : 48 + n ≡ 48 = sym e ∙ f in omega arith;
  }
  | inr k ↦ let p : 0 < n / 10 = grind arith in
      begins_from n (n / 10) xs ((48 + n % 10) ∷ xs)
      (ap (λ (ds : List ℕ). first (ds ++ xs)) (more_digits n k) ∙ ap first (append_assoc (number_text (n / 10)) ((48 + n % 10) ∷ []) xs))
      (λ q. p)
      (begins_by fuel (n / 10) ((48 + n % 10) ∷ xs) (quotient_below n fuel k h))
]

pub digit_first : (n : ℕ) (xs : List ℕ) → is_digit (first (number_text n ++ xs)) ≡ true
digit_first n xs = (begins_by (suc n) n xs (omega arith)).a_digit

pub zero_first : (n : ℕ) (xs : List ℕ) → first (number_text n ++ xs) ≡ 48 → n ≡ 0
zero_first zero xs h = refl
zero_first (suc n) xs h = absurd ((begins_by (suc (suc n)) (suc n) xs (omega arith)).no_zero (omega arith) h)

-- ---- where numbers stop

-- no number begins with another byte
pub no_number : (P : ℕ → Type 0) (c : ℕ) → is_digit c ≡ false → Stuck P number_text [] c
no_number P c h = λ n k rest p q e.
    true≢false (sym (digit_first n k) ∙ ap (λ (t : List ℕ). is_digit (first t)) e ∙ h)

zero_stops : (n c : ℕ) (k rest : List ℕ) → is_digit c ≡ true → Ends k → number_text n ++ k ≡ 48 ∷ (c ∷ rest) → ⊥
zero_stops n c k rest h q e =
    let z : n ≡ 0 = zero_first n k (ap first e) in
    let t : k ≡ c ∷ rest = same_tail 48 48 _ _ (sym (ap (λ (x : ℕ). number_text x ++ k) z) ∙ e) in
    true≢false (sym h ∙ sym (ap (λ (t : List ℕ). is_digit (first t)) t) ∙ q)

-- a digit that makes a number too great
pub great_stops : (n most c : ℕ) → is_digit c ≡ true → most < 10 * n + (c - 48) → Stuck (λ m. m ≤ most) number_text (number_text n) c
great_stops n most c h g = λ m k rest p q e.
    let v : m ≡ value (10 * n + (c - 48)) rest =
    sym (value_is m k q) ∙ ap (value 0) e ∙ value_text n (c ∷ rest) ∙ value_digit n c rest h in
    let w : 10 * n + (c - 48) ≤ value (10 * n + (c - 48)) rest = value_grows (10 * n + (c - 48)) rest in
    omega arith

-- a digit after a 0
pub zero_ends : (P : ℕ → Type 0) (c : ℕ) → is_digit c ≡ true → Stuck P number_text (number_text 0) c
zero_ends P c h = λ m k rest p q e. zero_stops m c k rest h q e
