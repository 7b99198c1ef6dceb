-- An operator is known by its word and its number.
use Rattle.std.proofs.Common.{◌≡◌, refl, sym, ◌∙◌, ap, ap₂, ℕ, Bool, true, false, List, [], ◌∷◌, ◌++◌, append_assoc}
use Rattle.std.specs.Prelude.{◌||◌, codes, if◌then◌else◌, nat_eq}
use Rattle.std.specs.Cmp.Lexicographic.{pointwise}
use Rattle.logic_terms.specs.Node.{add, sub, mul, quo, rem, mod_by, pow, Op1, bit, tru, neg, fst, lst, fld, Op2, arith as compute_by, le, eq, conj, disj, iff, sel, upd, Op3, ite, sto, fill, OpN, fields, call, Quant, all, any}
use Rattle.logic_terms.specs.Text.{number_text, arith_text, op1_text, op2_text, op3_text, opn_text, quant_text}
use Rattle.logic_terms.proofs.Words.{Ends, is_word, split, same_tail}
use Rattle.logic_terms.proofs.Numerals.{number_word, number_same}

-- the operators of all kinds
pub data Operator : Type 0 where
  one : Op1 → Operator
  two : Op2 → Operator
  three : Op3 → Operator
  many : OpN → Operator
  over : Quant → Operator

abbrev pub operator_text : Operator → List ℕ
operator_text (one o) = op1_text o
operator_text (two o) = op2_text o
operator_text (three o) = op3_text o
operator_text (many o) = opn_text o
operator_text (over q) = quant_text q

-- the word in front
abbrev pub word : Operator → List ℕ
word (one bit) = codes "bit"
word (one tru) = codes "tru"
word (one neg) = codes "not"
word (one fst) = codes "fst"
word (one lst) = codes "lst"
word (one (fld k)) = codes "fld"
word (two (compute_by o)) = arith_text o
word (two le) = codes "<="
word (two eq) = codes "="
word (two conj) = codes "and"
word (two disj) = codes "or"
word (two iff) = codes "iff"
word (two sel) = codes "sel"
word (two (upd k)) = codes "upd"
word (three ite) = codes "ite"
word (three sto) = codes "sto"
word (three fill) = codes "fill"
word (many fields) = codes "rec"
word (many (call k)) = codes "call"
word (over all) = codes "all"
word (over any) = codes "any"

-- the number after it, 0 where there is none
abbrev pub index : Operator → ℕ
index (one (fld k)) = k
index (two (upd k)) = k
index (many (call k)) = k
index _ = 0

abbrev same : List ℕ → List ℕ → Bool
same a b = pointwise nat_eq a b

-- whether a number follows the word
abbrev numbered : List ℕ → Bool
numbered w = same w (codes "fld") || (same w (codes "upd") || same w (codes "call"))

abbrev tail_by : Bool → ℕ → List ℕ
tail_by b k = if b then 32 ∷ number_text k else []

-- the operators, with a number for those that have one
abbrev operators : ℕ → List Operator
operators k =
    one bit ∷ one tru ∷ one neg ∷ one fst ∷ one lst ∷ one (fld k)
    ∷ two (compute_by add) ∷ two (compute_by sub) ∷ two (compute_by mul) ∷ two (compute_by quo) ∷ two (compute_by rem) ∷ two (compute_by mod_by) ∷ two (compute_by pow)
    ∷ two le ∷ two eq ∷ two conj ∷ two disj ∷ two iff ∷ two sel ∷ two (upd k)
    ∷ three ite ∷ three sto ∷ three fill ∷ many fields ∷ many (call k) ∷ over all ∷ over any ∷ []

-- the operator of a word and a number
abbrev found_in : List Operator → List ℕ → Operator
found_in [] w = over any
found_in (o ∷ os) w = if same (word o) w then o else found_in os w

back : (o : Operator) → found_in (operators (index o)) (word o) ≡ o
back (one bit) = refl
back (one tru) = refl
back (one neg) = refl
back (one fst) = refl
back (one lst) = refl
back (one (fld k)) = refl
back (two (compute_by add)) = refl
back (two (compute_by sub)) = refl
back (two (compute_by mul)) = refl
back (two (compute_by quo)) = refl
back (two (compute_by rem)) = refl
back (two (compute_by mod_by)) = refl
back (two (compute_by pow)) = refl
back (two le) = refl
back (two eq) = refl
back (two conj) = refl
back (two disj) = refl
back (two iff) = refl
back (two sel) = refl
back (two (upd k)) = refl
back (three ite) = refl
back (three sto) = refl
back (three fill) = refl
back (many fields) = refl
back (many (call k)) = refl
back (over all) = refl
back (over any) = refl

record Spelled (o : Operator) : Type 0 where
  is_text : operator_text o ≡ word o ++ tail_by (numbered (word o)) (index o)
  a_word : is_word (word o) ≡ true
  no_number : numbered (word o) ≡ false → index o ≡ 0

plain : (o : Operator) → operator_text o ≡ word o ++ tail_by (numbered (word o)) (index o) → is_word (word o) ≡ true → index o ≡ 0 → Spelled o
plain o e f g = record { is_text = e; a_word = f; no_number = λ _. g }

spelled : (o : Operator) → Spelled o
spelled (one bit) = plain _ refl refl refl
spelled (one tru) = plain _ refl refl refl
spelled (one neg) = plain _ refl refl refl
spelled (one fst) = plain _ refl refl refl
spelled (one lst) = plain _ refl refl refl
spelled (one (fld k)) = record { is_text = refl; a_word = refl; no_number = λ e. cc }
spelled (two (compute_by add)) = plain _ refl refl refl
spelled (two (compute_by sub)) = plain _ refl refl refl
spelled (two (compute_by mul)) = plain _ refl refl refl
spelled (two (compute_by quo)) = plain _ refl refl refl
spelled (two (compute_by rem)) = plain _ refl refl refl
spelled (two (compute_by mod_by)) = plain _ refl refl refl
spelled (two (compute_by pow)) = plain _ refl refl refl
spelled (two le) = plain _ refl refl refl
spelled (two eq) = plain _ refl refl refl
spelled (two conj) = plain _ refl refl refl
spelled (two disj) = plain _ refl refl refl
spelled (two iff) = plain _ refl refl refl
spelled (two sel) = plain _ refl refl refl
spelled (two (upd k)) = record { is_text = refl; a_word = refl; no_number = λ e. cc }
spelled (three ite) = plain _ refl refl refl
spelled (three sto) = plain _ refl refl refl
spelled (three fill) = plain _ refl refl refl
spelled (many fields) = plain _ refl refl refl
spelled (many (call k)) = record { is_text = refl; a_word = refl; no_number = λ e. cc }
spelled (over all) = plain _ refl refl refl
spelled (over any) = plain _ refl refl refl

-- a number, or nothing, is known by its text
numbers_same : (b : Bool) (j k : ℕ) (xs ys : List ℕ) → Ends xs → Ends ys → tail_by b j ++ xs ≡ tail_by b k ++ ys → (b ≡ false → j ≡ 0) → (b ≡ false → k ≡ 0) → (j ≡ k) × (xs ≡ ys)
numbers_same true j k xs ys f g e h i =
    let s = split (number_text j) (number_text k) xs ys (number_word j) (number_word k) f g (same_tail 32 32 _ _ e) in
    (number_same j k s.0, s.1)
numbers_same false j k xs ys f g e h i = (h refl ∙ sym (i refl), e)

tail_ends : (b : Bool) (k : ℕ) (xs : List ℕ) → Ends xs → Ends (tail_by b k ++ xs)
tail_ends true k xs h = refl
tail_ends false k xs h = h

spread : (o : Operator) (xs : List ℕ) → operator_text o ++ xs ≡ word o ++ (tail_by (numbered (word o)) (index o) ++ xs)
spread o xs = ap (λ (ws : List ℕ). ws ++ xs) (spelled o).is_text ∙ append_assoc (word o) (tail_by (numbered (word o)) (index o)) xs

-- operators with one text are one operator
pub operators_same : (o q : Operator) (xs ys : List ℕ) → Ends xs → Ends ys → operator_text o ++ xs ≡ operator_text q ++ ys → (o ≡ q) × (xs ≡ ys)
operators_same o q xs ys f g e =
    let s = split (word o) (word q) _ _ (spelled o).a_word (spelled q).a_word (tail_ends (numbered (word o)) (index o) xs f) (tail_ends (numbered (word q)) (index q) ys g) (sym (spread o xs) ∙ e ∙ spread q ys) in
    let n = numbers_same (numbered (word o)) (index o) (index q) xs ys f g
    (s.1 ∙ ap (λ (w : List ℕ). tail_by (numbered w) (index q) ++ ys) (sym s.0))
    (spelled o).no_number (λ z. (spelled q).no_number (ap numbered (sym s.0) ∙ z)) in
    (sym (back o) ∙ ap₂ (λ (k : ℕ) (w : List ℕ). found_in (operators k) w) n.0 s.0 ∙ back q, n.1)
