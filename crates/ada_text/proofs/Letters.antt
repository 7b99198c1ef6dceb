-- A reserved word is found among those of its first letter.
use Rattle.std.proofs.Common.{◌≡◌, ℕ, zero, suc, ◌+◌, ◌-◌, ◌<◌, Bool, true, false, List, [], ◌∷◌, length, get_or, Some, refl, sym, ap, ◌∙◌, arith}
use Rattle.std.specs.Prelude.{◌==◌, nat_eq, nat_le, map, if◌then◌else◌}
use Rattle.std.specs.Char.{to_ascii_lowercase}
use Rattle.std.specs.List.{list_all}
use Rattle.std.specs.Str.{str_eq_ignore_ascii_case, str_to_ascii_lowercase, bytes_eq}
use Rattle.std.proofs.lemmas.Bool.{false≢true}
use Rattle.std.proofs.lemmas.Bool.Decides.{nat_tests}
use Rattle.ada_text.specs.declared.reserved.Reserved.{Reserved}
use Rattle.ada_text.specs.Words.{letter_of, is_letter, row_of, words_by_letter, words_of, reserved_words, word_among}
use Rattle.ada_text.proofs.Reading.{and_left, and_right}

-- texts that are one but for case begin with one letter
same_letter : (a b : List ℕ) → str_eq_ignore_ascii_case a b ≡ true → letter_of a ≡ letter_of b
same_letter [] [] e = refl
same_letter [] (c ∷ cs) e = absurd (false≢true e)
same_letter (c ∷ cs) [] e = absurd (false≢true e)
same_letter (c ∷ cs) (d ∷ ds) e =
    let first : nat_eq (to_ascii_lowercase c) (to_ascii_lowercase d) ≡ true = and_left (nat_eq (to_ascii_lowercase c) (to_ascii_lowercase d)) (bytes_eq (str_to_ascii_lowercase cs) (str_to_ascii_lowercase ds)) e in
    grind (arith, nat_tests)

-- those of these words that begin with a letter
abbrev of_letter : ℕ → List (List ℕ × Reserved) → List (List ℕ × Reserved)
of_letter k [] = []
of_letter k (w ∷ ws) = if letter_of w.0 == k then w ∷ of_letter k ws else of_letter k ws

same_test : (a b : ℕ) → a ≡ b → (a == b) ≡ true
same_test a b e = grind (arith, nat_tests)

-- the first of these words that a text is begins with its letter
among_tests : (w : List ℕ × Reserved) (ws ls : List (List ℕ × Reserved)) (text : List ℕ) (is here : Bool) → str_eq_ignore_ascii_case w.0 text ≡ is → (is ≡ true → here ≡ true)
    → word_among ls text ≡ word_among ws text → word_among (if here then w ∷ ls else ls) text ≡ (if is then Some w.1 else word_among ws text)
among_tests w ws ls text true true e h more = rw (e) refl
among_tests w ws ls text true false e h more = absurd (false≢true (h refl))
among_tests w ws ls text false true e h more = rw (e) more
among_tests w ws ls text false false e h more = more

among_letter : (ws : List (List ℕ × Reserved)) (text : List ℕ) → word_among (of_letter (letter_of text) ws) text ≡ word_among ws text
among_letter [] text = refl
among_letter (w ∷ ws) text =
    among_tests w ws (of_letter (letter_of text) ws) text (str_eq_ignore_ascii_case w.0 text) (letter_of w.0 == letter_of text) refl
    (λ e. same_test (letter_of w.0) (letter_of text) (same_letter w.0 text e)) (among_letter ws text)

-- the rows of so many letters
abbrev rows_from : ℕ → ℕ → List (List (List ℕ × Reserved))
rows_from zero k = []
rows_from (suc n) k = of_letter k reserved_words ∷ rows_from n (suc k)

row_from : (n k i : ℕ) → i < n → row_of (rows_from n k) i ≡ of_letter (k + i) reserved_words
row_from zero k i h = absurd (omega arith)
row_from (suc n) k zero h = let e : k ≡ k + 0 = omega arith in ap (λ j. of_letter j reserved_words) e
row_from (suc n) k (suc i) h = let e : suc k + i ≡ k + suc i = omega arith in row_from n (suc k) i (omega arith) ∙ ap (λ j. of_letter j reserved_words) e

-- the table has all words
all_rows : rows_from 26 97 ≡ words_by_letter
unfolding reserved_words words_by_letter
all_rows = refl

all_letters : list_all (λ w. is_letter (letter_of w.0)) reserved_words ≡ true
unfolding reserved_words
all_letters = refl

none_tests : (j k : ℕ) (w : List ℕ × Reserved) (ls : List (List ℕ × Reserved)) (b : Bool) → (j == k) ≡ b → is_letter j ≡ true → is_letter k ≡ false → ls ≡ [] → (if b then w ∷ ls else ls) ≡ []
none_tests j k w ls true same is n more = let e : j ≡ k = grind (arith, nat_tests) in absurd (false≢true (sym n ∙ ap is_letter (sym e) ∙ is))
none_tests j k w ls false same is n more = more

none_of : (k : ℕ) (ws : List (List ℕ × Reserved)) → is_letter k ≡ false → list_all (λ w. is_letter (letter_of w.0)) ws ≡ true → of_letter k ws ≡ []
none_of k [] n e = refl
none_of k (w ∷ ws) n e = none_tests (letter_of w.0) k w (of_letter k ws) (letter_of w.0 == k) refl (and_left _ _ e) n (none_of k ws n (and_right _ _ e))

words_are : (k : ℕ) → words_of k ≡ of_letter k reserved_words
unfolding words_of
words_are k = by_test (is_letter k) refl
  where
    by_test : (b : Bool) → is_letter k ≡ b → (if b then row_of words_by_letter (k - 97) else []) ≡ of_letter k reserved_words
    by_test false e = sym (none_of k reserved_words e all_letters)
    by_test true e =
        let low : nat_le 97 k ≡ true = and_left (nat_le 97 k) (nat_le k 122) e in
        let high : nat_le k 122 ≡ true = and_right (nat_le 97 k) (nat_le k 122) e in
        let within : k - 97 < 26 = grind (arith, nat_tests) in
        let back : 97 + (k - 97) ≡ k = grind (arith, nat_tests) in
        ap (λ rs. row_of rs (k - 97)) (sym all_rows) ∙ row_from 26 97 (k - 97) within ∙ ap (λ j. of_letter j reserved_words) back

-- a reserved word is one of those of its letter
pub word_of_letter : (text : List ℕ) → word_among (words_of (letter_of text)) text ≡ word_among reserved_words text
word_of_letter text = ap (λ ws. word_among ws text) (words_are (letter_of text)) ∙ among_letter reserved_words text

-- a row of a table
pub row_at : {A : Type 0} (rows : List A) (k : ℕ) (d : A) (words : A → List (List ℕ × Reserved)) → k < length rows → words (get_or rows k d) ≡ row_of (map words rows) k
row_at [] k d words h = absurd (omega arith)
row_at (r ∷ rows) zero d words h = refl
row_at (r ∷ rows) (suc k) d words h = row_at rows k d words (omega arith)
