-- Delimiters are found by their bytes.
use Rattle.std.proofs.Common.{◌≡◌, ◌≤◌, ℕ, Bool, true, false, List, [], ◌∷◌, ◌++◌, length, Option, Some, refl, sym, ap, ◌∙◌, arith}
use Rattle.std.specs.Prelude.{◌==◌, ◌&&◌, nat_eq, nat_lt, slice_index, IfSome, if◌then◌else◌}
use Rattle.std.specs.List.{starts_with, list_all}
use Rattle.std.proofs.lemmas.Bool.{false≢true}
use Rattle.std.proofs.lemmas.Bool.Decides.{nat_tests}
use Rattle.ada_text.specs.declared.delimiters.Delimiter.{Delimiter}
use Rattle.ada_text.specs.declared.delimiters.TheConstants.{PAIRS, SINGLES}
use Rattle.ada_text.specs.declared.item.Item.{Item}
use Rattle.ada_text.specs.declared.token.TokenKind.TheVariants as kind
use Rattle.ada_text.specs.Delimiters.{delimiters, either_mark, mark_among, mark_at, mark_by, pair_among, marked, single_among, single_mark}
use Rattle.ada_text.proofs.Reading.{and_left, and_right}

-- a text that begins with two bytes, of which the second isn't 0
pub starts_two : (x y : ℕ) (bytes : List ℕ) → nat_lt 0 y ≡ true → starts_with nat_eq bytes (x ∷ y ∷ []) ≡ (x == slice_index bytes 0 && y == slice_index bytes 1)
starts_two x y [] h = grind (arith, nat_tests)
starts_two x y (a ∷ []) h = grind (arith, nat_tests)
starts_two x y (a ∷ b ∷ bs) h = grind (arith, nat_tests)

-- a text that begins with a byte other than 0
starts_one : (x : ℕ) (bytes : List ℕ) → nat_lt 0 x ≡ true → starts_with nat_eq bytes (x ∷ []) ≡ (x == slice_index bytes 0)
starts_one x [] h = grind (arith, nat_tests)
starts_one x (a ∷ bs) h = grind (arith, nat_tests)

either_test : (t : Bool) (m : Delimiter) (p s : Option Delimiter) → (if t then Some (marked 2 m) else either_mark p s) ≡ either_mark (if t then Some m else p) s
either_test true m p s = refl
either_test false m p s = refl

single_test : (t : Bool) (m : Delimiter) (s : Option Delimiter) → (if t then Some (marked 1 m) else single_mark s) ≡ single_mark (if t then Some m else s)
single_test true m s = refl
single_test false m s = refl

abbrev pair_texts : List (ℕ × ℕ × Delimiter) → List (List ℕ × Delimiter)
pair_texts [] = []
pair_texts (m ∷ ms) = (m.0 ∷ m.1 ∷ [], m.2) ∷ pair_texts ms

abbrev single_texts : List (ℕ × Delimiter) → List (List ℕ × Delimiter)
single_texts [] = []
single_texts (m ∷ ms) = (m.0 ∷ [], m.1) ∷ single_texts ms

singles_found : (ms : List (ℕ × Delimiter)) (bytes : List ℕ) → list_all (λ m. nat_lt 0 m.0) ms ≡ true → mark_among (single_texts ms) bytes ≡ single_mark (single_among ms (slice_index bytes 0))
singles_found [] bytes h = refl
singles_found (m ∷ ms) bytes h =
    let test : starts_with nat_eq bytes (m.0 ∷ []) ≡ (m.0 == slice_index bytes 0) = starts_one m.0 bytes (and_left _ _ h) in
    let more : mark_among (single_texts ms) bytes ≡ single_mark (single_among ms (slice_index bytes 0)) = singles_found ms bytes (and_right _ _ h) in
    ap (λ t. if t then Some (marked 1 m.1) else mark_among (single_texts ms) bytes) test
    ∙ ap (λ r. if m.0 == slice_index bytes 0 then Some (marked 1 m.1) else r) more
    ∙ single_test (m.0 == slice_index bytes 0) m.1 (single_among ms (slice_index bytes 0))

pairs_found : (ps : List (ℕ × ℕ × Delimiter)) (rest : List (List ℕ × Delimiter)) (single : Option Delimiter) (bytes : List ℕ) → list_all (λ m. nat_lt 0 m.1) ps ≡ true
    → mark_among rest bytes ≡ single_mark single → mark_among (pair_texts ps ++ rest) bytes ≡ either_mark (pair_among ps (slice_index bytes 0) (slice_index bytes 1)) single
pairs_found [] rest single bytes h last = last
pairs_found (m ∷ ps) rest single bytes h last =
    let test : starts_with nat_eq bytes (m.0 ∷ m.1 ∷ []) ≡ (m.0 == slice_index bytes 0 && m.1 == slice_index bytes 1) = starts_two m.0 m.1 bytes (and_left _ _ h) in
    let more : mark_among (pair_texts ps ++ rest) bytes ≡ either_mark (pair_among ps (slice_index bytes 0) (slice_index bytes 1)) single = pairs_found ps rest single bytes (and_right _ _ h) last in
    ap (λ t. if t then Some (marked 2 m.2) else mark_among (pair_texts ps ++ rest) bytes) test
    ∙ ap (λ r. if m.0 == slice_index bytes 0 && m.1 == slice_index bytes 1 then Some (marked 2 m.2) else r) more
    ∙ either_test (m.0 == slice_index bytes 0 && m.1 == slice_index bytes 1) m.2 (pair_among ps (slice_index bytes 0) (slice_index bytes 1)) single

all_texts : pair_texts PAIRS ++ single_texts SINGLES ≡ delimiters
unfolding delimiters
all_texts = refl

-- the delimiter at the front is told by two bytes
pub mark_told : (bytes : List ℕ) → mark_by (slice_index bytes 0) (slice_index bytes 1) ≡ mark_at bytes
unfolding mark_by mark_at
mark_told bytes =
    sym (ap (λ ms. mark_among ms bytes) (sym all_texts)
    ∙ pairs_found PAIRS (single_texts SINGLES) (single_among SINGLES (slice_index bytes 0)) bytes refl (singles_found SINGLES bytes refl))

starts_within : (text bytes : List ℕ) → starts_with nat_eq bytes text ≡ true → length text ≤ length bytes
starts_within [] bytes h = omega arith
starts_within (t ∷ text) [] h = absurd (false≢true h)
starts_within (t ∷ text) (b ∷ bytes) h = let rest : length text ≤ length bytes = starts_within text bytes (and_right (nat_eq t b) (starts_with nat_eq bytes text) h) in omega arith

within_test : (t : Bool) (n : ℕ) (i : Item) (r : Option Item) → (t ≡ true → i.length ≤ n) → IfSome r (λ j. j.length ≤ n) → IfSome (if t then Some i else r) (λ j. j.length ≤ n)
within_test true n i r h k = h refl
within_test false n i r h k = k

marks_within : (ms : List (List ℕ × Delimiter)) (bytes : List ℕ) → IfSome (mark_among ms bytes) (λ i. i.length ≤ length bytes)
marks_within [] bytes = tt
marks_within (m ∷ ms) bytes =
    within_test (starts_with nat_eq bytes m.0) (length bytes) (record { kind = Some (kind.Mark m.1); length = length m.0 }) (mark_among ms bytes) (starts_within m.0 bytes) (marks_within ms bytes)

pub mark_within : (bytes : List ℕ) → IfSome (mark_at bytes) (λ i. i.length ≤ length bytes)
unfolding mark_at
mark_within bytes = marks_within delimiters bytes
