-- The digits of numbers.
use Rattle.std.proofs.Common.{◌≡◌, refl, sym, ◌∙◌, ap, ℕ, zero, suc, ◌+◌, ◌<◌, ◌≤◌, ◌/◌, ◌%◌, ◌^◌, Bool, true, false, List, [], ◌∷◌, ◌++◌, arith, map}
use Rattle.std.specs.Prelude.{◌==◌, not, ℤ, pos, negsuc, if◌then◌else◌, codes}
use Rattle.std.specs.List.{AllByRecursion}
use Rattle.std.specs.Int.Digits.{digits_of, number_from_digits}
use Rattle.std.proofs.lemmas.Int.Digits.{number_digits_of, all_below_base_digits_of, digits_of_step}
use Rattle.std.proofs.lemmas.Fmt.{decimal_by_steps_wide}
use Rattle.std.proofs.lemmas.Bool.{and_from, eqb-true}
use Rattle.std.proofs.lemmas.Bool.Decides.{nat_tests}
use Rattle.std.proofs.lemmas.List.{map-append}
use Rattle.std.specs.Fmt.{decimal, signed_decimal}
use Rattle.std.specs.Prelude.{FitsSigned}
use Rattle.std.specs.Int.{w128}
use Rattle.std.proofs.lemmas.Int.{ints}
use Rattle.logic_terms.specs.Text.{number_text, whole_text}
use Rattle.logic_terms.proofs.Words.{is_end, is_word, same_head, same_tail}

abbrev glyphs : List ℕ → List ℕ
glyphs ds = map (λ d. 48 + d) ds

longer : (x y : ℕ) (xs ys : List ℕ) → 48 + x ≡ 48 + y → xs ≡ ys → x ∷ xs ≡ y ∷ ys
longer x y xs ys h t = let k : x ≡ y = omega arith in cc

none_some : (y : ℕ) (ys : List ℕ) → [] ≡ y ∷ ys → ⊥
none_some y ys e = cc

glyphs_same : (xs ys : List ℕ) → glyphs xs ≡ glyphs ys → xs ≡ ys
glyphs_same [] [] e = refl
glyphs_same [] (y ∷ ys) e = absurd (none_some _ _ e)
glyphs_same (x ∷ xs) [] e = absurd (none_some _ _ (sym e))
glyphs_same (x ∷ xs) (y ∷ ys) e = longer x y xs ys (same_head _ _ _ _ e) (glyphs_same xs ys (same_tail _ _ _ _ e))

-- ---- the digits that are shown

abbrev shown : Bool → List ℕ → List ℕ
shown b ds = if b then 0 ∷ [] else ds

glyphs_shown : (b : Bool) (ds : List ℕ) → glyphs (shown b ds) ≡ (if b then codes "0" else glyphs ds)
glyphs_shown true ds = refl
glyphs_shown false ds = refl

value_by : (b : Bool) (n : ℕ) (ds : List ℕ) → (b ≡ true → n ≡ 0) → number_from_digits 10 ds ≡ n → number_from_digits 10 (shown b ds) ≡ n
value_by true n ds z e = sym (z refl)
value_by false n ds z e = e

value_shown : (n : ℕ) → number_from_digits 10 (shown (n == 0) (digits_of 10 n)) ≡ n
value_shown n = value_by (n == 0) n (digits_of 10 n) (eqb-true n 0) (number_digits_of 10 n (omega arith))

-- numbers with one text are one number
pub number_same : (m n : ℕ) → number_text m ≡ number_text n → m ≡ n
number_same m n e =
    sym (value_shown m)
    ∙ ap (number_from_digits 10) (glyphs_same (shown (m == 0) (digits_of 10 m)) (shown (n == 0) (digits_of 10 n)) (glyphs_shown (m == 0) _ ∙ e ∙ sym (glyphs_shown (n == 0) _)))
    ∙ value_shown n

-- ---- digits are bytes from 48 to 57

digit_goes_on : (d : ℕ) → d < 10 → not (is_end (48 + d)) ≡ true
digit_goes_on d h = grind (arith, nat_tests)

glyphs_word : (ds : List ℕ) → AllByRecursion (λ (d : ℕ). d < 10) ds → is_word (glyphs ds) ≡ true
glyphs_word [] h = refl
glyphs_word (d ∷ ds) h = and_from _ _ (digit_goes_on d h.0) (glyphs_word ds h.1)

either_word : (b : Bool) (ds : List ℕ) → is_word ds ≡ true → is_word (if b then codes "0" else ds) ≡ true
either_word true ds h = refl
either_word false ds h = h

pub number_word : (n : ℕ) → is_word (number_text n) ≡ true
number_word n = either_word (n == 0) _ (glyphs_word (digits_of 10 n) (all_below_base_digits_of 10 n (omega arith)))

pub whole_word : (z : ℤ) → is_word (whole_text z) ≡ true
whole_word (pos n) = number_word n
whole_word (negsuc n) = number_word (suc n)

-- the first byte, which is a digit
abbrev pub first_byte : List ℕ → ℕ
first_byte [] = 48
first_byte (c ∷ cs) = c

abbrev pub IsDigitByte : ℕ → Type 0
IsDigitByte c = (48 ≤ c) × (c ≤ 57)

glyphs_first : (ds : List ℕ) → AllByRecursion (λ (d : ℕ). d < 10) ds → IsDigitByte (first_byte (glyphs ds))
glyphs_first [] h = (omega arith, omega arith)
glyphs_first (d ∷ ds) h = let k : d < 10 = h.0 in (omega arith, omega arith)

either_first : (b : Bool) (ds : List ℕ) → IsDigitByte (first_byte ds) → IsDigitByte (first_byte (if b then codes "0" else ds))
either_first true ds h = (omega arith, omega arith)
either_first false ds h = h

pub number_first : (n : ℕ) → IsDigitByte (first_byte (number_text n))
number_first n = either_first (n == 0) _ (glyphs_first (digits_of 10 n) (all_below_base_digits_of 10 n (omega arith)))

no_minus : (xs ys : List ℕ) → IsDigitByte (first_byte xs) → xs ≡ 45 ∷ ys → ⊥
no_minus xs ys h e =
    let k : first_byte xs ≡ 45 = ap first_byte e in
    let l = h.0 in omega arith

-- ---- what std writes

other_number : (b : Bool) (n : ℕ) (xs ys : List ℕ) → (b ≡ true → n ≡ 0) → 0 < n → (if b then xs else ys) ≡ ys
other_number true n xs ys z h = absurd (let e : n ≡ 0 = z refl in omega arith)
other_number false n xs ys z h = refl

above_zero : (n : ℕ) → 0 < n → number_text n ≡ glyphs (digits_of 10 n)
above_zero n h = other_number (n == 0) n _ _ (eqb-true n 0) h

ends_with : (n : ℕ) → 0 < n → number_text n ≡ glyphs (digits_of 10 (n / 10)) ++ ((48 + n % 10) ∷ [])
ends_with n h = above_zero n h ∙ ap glyphs (digits_of_step 10 n (omega arith) h) ∙ map-append (λ d. 48 + d) (digits_of 10 (n / 10)) (n % 10 ∷ [])

alone : (q r n : ℕ) → q ≡ 0 → r ≡ n → glyphs (digits_of 10 q) ++ ((48 + r) ∷ []) ≡ (48 + n) ∷ []
alone q r n e f =
    ap (λ (x : ℕ). glyphs (digits_of 10 x) ++ ((48 + r) ∷ [])) e ∙ ap (λ (x : ℕ). (48 + x) ∷ []) f

front : (us vs : List ℕ) (c : ℕ) → first_byte ((us ++ (c ∷ [])) ++ vs) ≡ first_byte (us ++ (c ∷ []))
front [] vs c = refl
front (u ∷ us) vs c = refl

-- a number has a first byte of its own
pub number_front : (n : ℕ) (xs : List ℕ) → first_byte (number_text n ++ xs) ≡ first_byte (number_text n)
number_front zero xs = refl
number_front (suc n) xs =
    let e = ends_with (suc n) (omega arith) in
    ap (λ (t : List ℕ). first_byte (t ++ xs)) e ∙ front (glyphs (digits_of 10 (suc n / 10))) xs (48 + suc n % 10) ∙ sym (ap first_byte e)

below_ten : (n : ℕ) → n < 10 → (48 + n) ∷ [] ≡ number_text n
below_ten zero h = refl
below_ten (suc n) h = sym (ends_with (suc n) (omega arith) ∙ alone (suc n / 10) (suc n % 10) (suc n) (grind arith) (grind arith))

more_digits : (n : ℕ) (ds : List ℕ) → 10 ≤ n → ds ≡ number_text (n / 10) → ds ++ ((48 + n % 10) ∷ []) ≡ number_text n
more_digits n ds h e =
    ap (λ (xs : List ℕ). xs ++ ((48 + n % 10) ∷ [])) (e ∙ above_zero (n / 10) (grind arith))
    ∙ sym (ends_with n (omega arith))

pub decimal_is : (n : ℕ) → n < 10 ^ 64 → decimal n ≡ number_text n
decimal_is n h = decimal_by_steps_wide (λ m ds. ds ≡ number_text m) below_ten more_digits n h

pub signed_is : (z : ℤ) → FitsSigned w128 z → signed_decimal z ≡ whole_text z
signed_is (pos n) h = decimal_is n (grind (arith, ints))
signed_is (negsuc n) h = ap (λ (xs : List ℕ). 45 ∷ xs) (decimal_is (suc n) (grind (arith, ints)))

pub whole_same : (y z : ℤ) → whole_text y ≡ whole_text z → y ≡ z
whole_same (pos m) (pos n) e = ap pos (number_same m n e)
whole_same (negsuc m) (negsuc n) e =
    let k : suc m ≡ suc n = number_same (suc m) (suc n) (same_tail 45 45 _ _ e) in
    let h : m ≡ n = omega arith in ap negsuc h
whole_same (pos m) (negsuc n) e = absurd (no_minus _ _ (number_first m) e)
whole_same (negsuc m) (pos n) e = absurd (no_minus _ _ (number_first n) (sym e))
