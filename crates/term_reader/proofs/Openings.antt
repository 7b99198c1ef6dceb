-- What stands after a bracket, and where nothing goes on so.
use Rattle.std.proofs.Common.{◌≡◌, refl, sym, ◌∙◌, ap, ap₂, ℕ, ◌<◌, ◌≤◌, Bool, true, false, List, ◌∷◌, ◌++◌, length, get_or, arith, append_assoc}
use Rattle.std.proofs.lemmas.Bool.{false≢true, true≢false, ltb-true, lt-ltb}
use Rattle.std.proofs.lemmas.List.{append_cancel_left, append-nil}
use Rattle.std.specs.Prelude.{◌^◌, nat_lt}
use Rattle.logic_terms.specs.Node.{bit, tru, neg, fst, lst, fld, arith as compute_by, le, eq, conj, disj, iff, sel, upd, fields, call}
use Rattle.logic_terms.specs.Text.{number_text}
use Rattle.term_reader.specs.declared.part.Side.{Side}
use Rattle.term_reader.specs.Bytes.{first, IsFault}
use Rattle.term_reader.specs.Reads.{Between}
use Rattle.term_reader.specs.Trees.{Build, one, two, three, many, over, an_array, a_record, build_text, gives, fits, ends_in_number}
use Rattle.term_reader.specs.Operators.{with_index}
use Rattle.term_reader.specs.Words.{builds, word, words, word_at, IsNoWord, IsBuild}
use Rattle.term_reader.proofs.Spelling.{place, index, tail_by, placed, same_place, words_apart}
use Rattle.term_reader.proofs.SideWords.{build_at, word_is}

-- ---- builds with a number

-- the same with another number
record Numbered (o : Build) (k : ℕ) : Type 0 where
  given : gives (with_index o k) ≡ gives o
  text : build_text (with_index o k) ≡ word o ++ number_text k
  fit : fits (with_index o k) ≡ nat_lt k (2 ^ 32)
  numbered : ends_in_number (with_index o k) ≡ true

all_numbered : (o : Build) (k : ℕ) → ends_in_number o ≡ true → Numbered o k
all_numbered (one (fld j)) k h = record { given = refl; text = refl; fit = refl; numbered = refl }
all_numbered (two (upd j)) k h = record { given = refl; text = refl; fit = refl; numbered = refl }
all_numbered (many (call j)) k h = record { given = refl; text = refl; fit = refl; numbered = refl }
all_numbered _ k h = absurd (false≢true h)

number_fits : (k : ℕ) → k ≤ 4294967295 → nat_lt k (2 ^ 32) ≡ true
number_fits k h = lt-ltb k (2 ^ 32) (omega arith)

number_of : (o : Build) → ends_in_number o ≡ true → fits o ≡ true → Between 0 4294967295 (index o)
number_of (one (fld k)) h f = let l : k < 2 ^ 32 = ltb-true k (2 ^ 32) f in (omega arith, omega arith)
number_of (two (upd k)) h f = let l : k < 2 ^ 32 = ltb-true k (2 ^ 32) f in (omega arith, omega arith)
number_of (many (call k)) h f = let l : k < 2 ^ 32 = ltb-true k (2 ^ 32) f in (omega arith, omega arith)
number_of _ h f = absurd (false≢true h)

no_tail : (o : Build) → ends_in_number o ≡ false → build_text o ≡ word o
no_tail o h = let p = placed (gives o) o refl in p.is_text ∙ ap (λ (b : Bool). word o ++ tail_by b (index o)) h ∙ append-nil (word o)

a_tail : (o : Build) → ends_in_number o ≡ true → build_text o ≡ word o ++ number_text (index o)
a_tail o h = let p = placed (gives o) o refl in p.is_text ∙ ap (λ (b : Bool). word o ++ tail_by b (index o)) h

-- ---- what is read

pub plain_opening : (o : Build) (s r : List ℕ) → ends_in_number o ≡ false → s ≡ word o ++ r → s ≡ build_text o ++ r
plain_opening o s r h e = e ∙ ap (λ (x : List ℕ). x ++ r) (sym (no_tail o h))

pub fits_plain : (s : Side) (o : Build) → gives o ≡ s → ends_in_number o ≡ false → fits o ≡ true → IsBuild s o
fits_plain s o g h f = record { given = g; fit = f }

plain_fits : (o : Build) → ends_in_number o ≡ false → fits o ≡ true
plain_fits (one bit) h = refl
plain_fits (one tru) h = refl
plain_fits (one neg) h = refl
plain_fits (one fst) h = refl
plain_fits (one lst) h = refl
plain_fits (one (fld k)) h = absurd (true≢false h)
plain_fits (two (compute_by o)) h = refl
plain_fits (two le) h = refl
plain_fits (two eq) h = refl
plain_fits (two conj) h = refl
plain_fits (two disj) h = refl
plain_fits (two iff) h = refl
plain_fits (two sel) h = refl
plain_fits (two (upd k)) h = absurd (true≢false h)
plain_fits (three o) h = refl
plain_fits (many fields) h = refl
plain_fits (many (call k)) h = absurd (true≢false h)
plain_fits (over q) h = refl
plain_fits an_array h = refl
plain_fits a_record h = refl

pub plain_build : (s : Side) (o : Build) → gives o ≡ s → ends_in_number o ≡ false → IsBuild s o
plain_build s o g h = record { given = g; fit = plain_fits o h }

pub numbered_opening : (o p : Build) (k : ℕ) (s r q : List ℕ) → ends_in_number o ≡ true → p ≡ with_index o k → s ≡ word o ++ r → r ≡ number_text k ++ q → s ≡ build_text p ++ q
numbered_opening o p k s r q h f e g =
    let n = all_numbered o k h in
    e ∙ ap (λ (x : List ℕ). word o ++ x) g ∙ sym (append_assoc (word o) (number_text k) q)
    ∙ ap (λ (x : List ℕ). x ++ q) (sym n.text ∙ ap build_text (sym f))

pub numbered_build : (s : Side) (o p : Build) (k : ℕ) → gives o ≡ s → ends_in_number o ≡ true → p ≡ with_index o k → k ≤ 4294967295 → IsBuild s p
numbered_build s o p k g h f l =
    let n = all_numbered o k h in record {
      given = ap gives f ∙ n.given ∙ g;
      fit = ap fits f ∙ n.fit ∙ number_fits k l;
    }

-- ---- what is not

spread : (s : Side) (o : Build) (k : List ℕ) → gives o ≡ s → build_text o ++ k ≡ word_at (words s) (place o) ++ (tail_by (ends_in_number o) (index o) ++ k)
spread s o k g =
    let p = placed s o g in
    ap (λ (x : List ℕ). x ++ k) p.is_text
    ∙ append_assoc (word o) (tail_by (ends_in_number o) (index o)) k
    ∙ ap (λ (x : List ℕ). x ++ (tail_by (ends_in_number o) (index o) ++ k)) (sym p.is_word)

-- some build with the word at a place
record Sampled (s : Side) (i : ℕ) : Type 0 where
  build : Build
  rest : List ℕ
  right : IsBuild s build
  text : build_text build ≡ word_at (words s) i ++ rest

sampled : (s : Side) (i : ℕ) → i < length (words s) → Sampled s i
sampled s i h =
    let o = get_or (builds s 0) i an_array in
    let b = build_at s i h in
    let p = placed s o b.0 in record {
      build = o;
      rest = tail_by (ends_in_number o) (index o);
      right = record { given = b.0; fit = b.1 };
      text = p.is_text ∙ ap (λ (w : List ℕ). w ++ tail_by (ends_in_number o) (index o)) (sym (word_is s i h));
    }

pub word_fault : (side : Side) (s r : List ℕ) → IsNoWord (words side) s r → IsFault (IsBuild side) build_text s r
word_fault side s r f =
    let g = f.goes in
    let b = sampled side g.0 g.2 in record {
      front = f.front;
      is_front = f.is_front;
      goes = (
        b.build,
        g.1 ++ b.rest,
        b.right,
        b.text ∙ ap (λ (x : List ℕ). x ++ b.rest) g.3 ∙ append_assoc f.front g.1 b.rest,
      );
      stuck = λ o k rest h e x.
          f.stuck (place o) (tail_by (ends_in_number o) (index o) ++ k) rest (placed side o h.given).inside
          (sym (spread side o k h.given) ∙ x);
    }

same_tails : (side : Side) (o p : Build) (xs ys : List ℕ) → gives o ≡ side → gives p ≡ side → ends_in_number o ≡ true → build_text p ++ xs ≡ word o ++ ys → (ends_in_number p ≡ true) × (number_text (index p) ++ xs ≡ ys)
same_tails side o p xs ys g h n e =
    let a = placed side o g in
    let b = placed side p h in
    let x : word_at (words side) (place p) ++ (tail_by (ends_in_number p) (index p) ++ xs) ≡ word_at (words side) (place o) ++ ys =
    sym (spread side p xs h) ∙ e ∙ ap (λ (w : List ℕ). w ++ ys) (sym a.is_word) in
    let i : place p ≡ place o = same_place (words side) (place p) (place o) _ _ (words_apart side) b.inside a.inside x in
    let m : ends_in_number p ≡ true = b.numbered ∙ ap (λ (k : ℕ). ends_in_number (get_or (builds side 0) k an_array)) i ∙ sym a.numbered ∙ n in (
      m,
      append_cancel_left (word_at (words side) (place o)) _ _
          (ap₂ (λ (k : ℕ) (c : Bool). word_at (words side) k ++ (tail_by c (index p) ++ xs)) (sym i) (sym m) ∙ x),
    )

pub index_fault : (side : Side) (o : Build) (s r q : List ℕ) → gives o ≡ side → ends_in_number o ≡ true → s ≡ word o ++ r → IsFault (Between 0 4294967295) number_text r q → IsFault (IsBuild side) build_text s q
index_fault side o s r q g n e f =
    let u = f.goes in
    let m = all_numbered o u.0 n in record {
      front = word o ++ f.front;
      is_front = e ∙ ap (λ (x : List ℕ). word o ++ x) f.is_front ∙ sym (append_assoc (word o) f.front q);
      goes = (
        with_index o u.0,
        u.1,
        record { given = m.given ∙ g; fit = m.fit ∙ number_fits u.0 u.2.1 },
        m.text ∙ ap (λ (x : List ℕ). word o ++ x) u.3 ∙ sym (append_assoc (word o) f.front u.1),
      );
      stuck = λ p k rest h d x.
          let t = same_tails side o p k (f.front ++ (first q ∷ rest)) g h.given n (x ∙ append_assoc (word o) f.front (first q ∷ rest)) in
          f.stuck (index p) k rest (number_of p t.0 h.fit) d t.1;
    }
