-- Where a number in a text ends and stops.
use Rattle.std.proofs.Common.{◌≡◌, refl, sym, ◌∙◌, ap, subst, ℕ, ◌+◌, ◌*◌, ◌-◌, ◌<◌, ◌≤◌, ◌/◌, true, false, List, [], ◌∷◌, ◌++◌, arith, append_assoc}
use Rattle.std.proofs.lemmas.List.{append-nil}
use Rattle.logic_terms.specs.Text.{number_text}
use Rattle.term_reader.specs.Bytes.{is_digit, first, IsFault}
use Rattle.term_reader.specs.Reads.{Between}
use Rattle.term_reader.proofs.Digits.{one_digit, next_digit, is_a_digit, no_number, great_stops, zero_ends, zero_first}

-- no digit
pub no_digit_fault : (least most : ℕ) (s : List ℕ) → least ≤ 1 → 1 ≤ most → is_digit (first s) ≡ false → IsFault (Between least most) number_text s s
no_digit_fault least most s l m h = record {
  front = [];
  is_front = refl;
  goes = (1, number_text 1, (l, m), refl);
  stuck = no_number (Between least most) (first s) h;
}

-- a 0 where none may be
zero_refused : (most : ℕ) (s r : List ℕ) → 1 ≤ most → s ≡ 48 ∷ r → IsFault (Between 1 most) number_text s s
zero_refused most s r m e = record {
  front = [];
  is_front = refl;
  goes = (1, number_text 1, (omega arith, m), refl);
  stuck = λ n k rest p f x.
      let z : n ≡ 0 = zero_first n k (ap first x ∙ ap first e) in
      let q = p.0 in omega arith;
}

pub zero_fault : (least most : ℕ) (s r : List ℕ) → least ≡ 1 → 1 ≤ most → s ≡ 48 ∷ r → IsFault (Between least most) number_text s s
zero_fault least most s r l m e = subst (λ (x : ℕ). IsFault (Between x most) number_text s s) (sym l) (zero_refused most s r m e)

-- a digit after a 0
after_zero : (most : ℕ) (s r : List ℕ) → s ≡ 48 ∷ r → is_digit (first r) ≡ true → IsFault (Between 0 most) number_text s r
after_zero most s r e h = record {
  front = number_text 0;
  is_front = e;
  goes = (0, [], (omega arith, omega arith), refl);
  stuck = zero_ends (Between 0 most) (first r) h;
}

pub after_zero_fault : (least most : ℕ) (s r : List ℕ) → least ≡ 0 → s ≡ 48 ∷ r → is_digit (first r) ≡ true → IsFault (Between least most) number_text s r
after_zero_fault least most s r l e h = subst (λ (x : ℕ). IsFault (Between x most) number_text s r) (sym l) (after_zero most s r e h)

digit_back : (d : ℕ) → (48 + d) - 48 ≡ d
digit_back d = omega arith

-- a digit that makes the number too great
pub great_fault : (least most n d : ℕ) (s r q : List ℕ) → least ≤ 1 → 0 < n → n ≤ most → d < 10 → s ≡ number_text n ++ r → r ≡ (48 + d) ∷ q → most < 10 * n + d → IsFault (Between least most) number_text s r
great_fault least most n d s r q l z m h e f g =
    let c : first r ≡ 48 + d = ap first f in
    let v : first r - 48 ≡ d = ap (λ (x : ℕ). x - 48) c ∙ digit_back d in
    let w : most < 10 * n + (first r - 48) = omega arith in
    let b = great_stops n most (first r) (ap is_digit c ∙ is_a_digit d h) w in record {
      front = number_text n;
      is_front = e;
      goes = (n, [], (omega arith, m), sym (append-nil (number_text n)));
      stuck = λ x k rest p a y. b x k rest p.1 a y;
    }

-- the first digit, and one digit more
pub first_digit : (d : ℕ) (s r : List ℕ) → d < 10 → s ≡ (48 + d) ∷ r → s ≡ number_text d ++ r
first_digit d s r h e = e ∙ ap (λ (t : List ℕ). t ++ r) (sym (one_digit d h))

pub one_more_digit : (n d : ℕ) (s r q : List ℕ) → 0 < n → d < 10 → s ≡ number_text n ++ r → r ≡ (48 + d) ∷ q → s ≡ number_text (n * 10 + d) ++ q
one_more_digit n d s r q z h e f =
    let c : 10 * n + d ≡ n * 10 + d = omega arith in
    e ∙ ap (λ (t : List ℕ). number_text n ++ t) f
    ∙ sym (append_assoc (number_text n) ((48 + d) ∷ []) q)
    ∙ ap (λ (t : List ℕ). t ++ q) (sym (next_digit n d z h) ∙ ap number_text c)

pub too_great : (n d most : ℕ) → d ≤ most → (most - d) / 10 < n → most < 10 * n + d
too_great n d most h l = grind arith

pub not_too_great : (n d most : ℕ) → d ≤ most → n ≤ (most - d) / 10 → n * 10 + d ≤ most
not_too_great n d most h l = grind arith

pub zero_text : (s r : List ℕ) → s ≡ 48 ∷ r → s ≡ number_text 0 ++ r
zero_text s r e = e
