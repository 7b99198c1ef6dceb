-- Parts without brackets, and where none goes on.
use Rattle.std.proofs.Common.{◌≡◌, refl, sym, ◌∙◌, ap, subst, ℕ, suc, ◌+◌, ◌-◌, ◌<◌, ◌≤◌, Bool, true, false, List, [], ◌∷◌, ◌++◌, length, drop, arith}
use Rattle.std.specs.Prelude.{◌==◌, ◌^◌, nat_lt, ℤ, pos, negsuc}
use Rattle.std.proofs.lemmas.Bool.{false≢true, true≢false, eqb-false, ltb-true, lt-ltb}
use Rattle.logic_terms.specs.Node.{Node, num, flag, sym as symbol, bound}
use Rattle.logic_terms.specs.Value.{Kind, numbers, truths}
use Rattle.logic_terms.specs.Text.{number_text, whole_text}
use Rattle.term_reader.specs.declared.part.Side.{Side}
use Rattle.term_reader.specs.declared.part.Side.TheVariants.{Term, Formula, Sort}
use Rattle.term_reader.specs.Bytes.{is_digit, first, Ends, IsFault}
use Rattle.term_reader.specs.Reads.{Between, IsRead, IsUnread}
use Rattle.term_reader.specs.Trees.{Tree, of_node, of_kind, tree_text, IsOf}
use Rattle.term_reader.specs.Values.{same_side, IsNumber}
use Rattle.term_reader.proofs.Digits.{digit_first}
use Rattle.term_reader.proofs.Fronts.{front_first}
use Rattle.term_reader.proofs.Skipping.{ended_whole, solid_whole, kind_whole}
use Rattle.term_reader.proofs.Builds.{Branch, a_number, a_negative, a_symbol, a_bound, a_flag, of_numbers, of_truths, a_branch, view, sample, sample_of}

-- ---- first bytes

abbrev begins : Tree → List ℕ → ℕ → Type 0
begins t k c = first (tree_text t ++ k) ≡ c

begins_as : (t u : Tree) (k : List ℕ) (c : ℕ) → t ≡ u → begins t k c → begins u k c
begins_as t u k c e h = ap (λ (x : Tree). first (tree_text x ++ k)) (sym e) ∙ h

not_number : (n c : ℕ) (k : List ℕ) → is_digit c ≡ false → begins (of_node (num (pos n))) k c → ⊥
not_number n c k h e = true≢false (sym (digit_first n k) ∙ ap is_digit e ∙ h)

not_flag : (b : Bool) (c : ℕ) (k : List ℕ) → (84 == c) ≡ false → (70 == c) ≡ false → begins (of_node (flag b)) k c → ⊥
not_flag true c k f g e = eqb-false 84 c f e
not_flag false c k f g e = eqb-false 70 c g e

not_branch : (s : Side) (t : Tree) (c : ℕ) (k : List ℕ) → (40 == c) ≡ false → Branch s t → begins t k c → ⊥
not_branch s t c k f b e = eqb-false 40 c f (sym (ap first (b.is_text k)) ∙ e)

-- ---- a letter and a number

-- the trees of a side that begin with a letter are those of its numbers
record Lettered (s : Side) (c : ℕ) (P : ℕ → Type 0) (make : ℕ → Tree) : Type 0 where
  right : (n : ℕ) → P n → IsOf s (make n)
  text : (n : ℕ) → P n → tree_text (make n) ≡ c ∷ number_text n
  only : (t : Tree) (k : List ℕ) → IsOf s t → begins t k c → (n : ℕ) × P n × (tree_text t ≡ c ∷ number_text n)

cut : (c : ℕ) (xs ys : List ℕ) → c ∷ xs ≡ c ∷ ys → xs ≡ ys
cut c xs ys e = cc

lettered_unread : (s : Side) (c : ℕ) (P : ℕ → Type 0) (make : ℕ → Tree) (t r q : List ℕ) → Lettered s c P make → t ≡ c ∷ r → IsFault P number_text r q → IsFault (IsOf s) tree_text t q
lettered_unread s c P make t r q l e f =
    let g = f.goes in record {
      front = c ∷ f.front;
      is_front = e ∙ ap (λ (x : List ℕ). c ∷ x) f.is_front;
      goes = (make g.0, g.1, l.right g.0 g.2, l.text g.0 g.2 ∙ ap (λ (x : List ℕ). c ∷ x) g.3);
      stuck = λ u k rest h d x.
          let o = l.only u k h (ap first x) in
          let y : c ∷ (number_text o.0 ++ k) ≡ c ∷ (f.front ++ (first q ∷ rest)) = ap (λ (z : List ℕ). z ++ k) (sym o.2) ∙ x in
          f.stuck o.0 k rest o.1 d (cut c _ _ y);
    }

below_32 : (n : ℕ) → n ≤ 4294967295 → nat_lt n (2 ^ 32) ≡ true
below_32 n h = lt-ltb n (2 ^ 32) (omega arith)

from_32 : (n : ℕ) → nat_lt n (2 ^ 32) ≡ true → Between 0 4294967295 n
from_32 n h = let l : n < 2 ^ 32 = ltb-true n (2 ^ 32) h in (omega arith, omega arith)

only_symbol : (t : Tree) (k : List ℕ) → IsOf Term t → begins t k 115 → (n : ℕ) × Between 0 4294967295 n × (tree_text t ≡ 115 ∷ number_text n)
only_symbol t k h b = elim (view Term t h) [
  | a_number n e i g ↦ absurd (not_number n 115 k refl (begins_as _ _ k 115 g b))
  | a_negative n e i g ↦ absurd (eqb-false 45 115 refl (begins_as _ _ k 115 g b))
  | a_symbol n e i g ↦ (n, from_32 n i, ap tree_text g)
  | a_bound n e i g ↦ absurd (eqb-false 98 115 refl (begins_as _ _ k 115 g b))
  | a_flag f e g ↦ absurd (not_flag f 115 k refl refl (begins_as _ _ k 115 g b))
  | of_numbers e g ↦ absurd (eqb-false 78 115 refl (begins_as _ _ k 115 g b))
  | of_truths e g ↦ absurd (eqb-false 66 115 refl (begins_as _ _ k 115 g b))
  | a_branch f ↦ absurd (not_branch Term t 115 k refl f b)
]

symbols : Lettered Term 115 (Between 0 4294967295) (λ n. of_node (symbol n))
symbols = record {
  right = λ n h. below_32 n h.1;
  text = λ n h. refl;
  only = only_symbol;
}

only_bound : (t : Tree) (k : List ℕ) → IsOf Term t → begins t k 98 → (n : ℕ) × Between 0 4294967295 n × (tree_text t ≡ 98 ∷ number_text n)
only_bound t k h b = elim (view Term t h) [
  | a_number n e i g ↦ absurd (not_number n 98 k refl (begins_as _ _ k 98 g b))
  | a_negative n e i g ↦ absurd (eqb-false 45 98 refl (begins_as _ _ k 98 g b))
  | a_symbol n e i g ↦ absurd (eqb-false 115 98 refl (begins_as _ _ k 98 g b))
  | a_bound n e i g ↦ (n, from_32 n i, ap tree_text g)
  | a_flag f e g ↦ absurd (not_flag f 98 k refl refl (begins_as _ _ k 98 g b))
  | of_numbers e g ↦ absurd (eqb-false 78 98 refl (begins_as _ _ k 98 g b))
  | of_truths e g ↦ absurd (eqb-false 66 98 refl (begins_as _ _ k 98 g b))
  | a_branch f ↦ absurd (not_branch Term t 98 k refl f b)
]

bounds : Lettered Term 98 (Between 0 4294967295) (λ n. of_node (bound n))
bounds = record {
  right = λ n h. below_32 n h.1;
  text = λ n h. refl;
  only = only_bound;
}

-- ---- a whole number

-- a term that begins with no letter and no bracket
only_whole : (t : Tree) (k : List ℕ) (c : ℕ) → (c ≡ 40 → ⊥) → (c ≡ 115 → ⊥) → (c ≡ 98 → ⊥) → IsOf Term t → begins t k c → (z : ℤ) × IsNumber z × (tree_text t ≡ whole_text z)
only_whole t k c f g h p b = elim (view Term t p) [
  | a_number n e w x ↦ (pos n, w, ap tree_text x)
  | a_negative n e w x ↦ (negsuc n, w, ap tree_text x)
  | a_symbol n e w x ↦ absurd (g (sym (begins_as _ _ k c x b)))
  | a_bound n e w x ↦ absurd (h (sym (begins_as _ _ k c x b)))
  | a_flag v e x ↦ absurd (false≢true (ap (same_side Term) (sym e)))
  | of_numbers e x ↦ absurd (false≢true (ap (same_side Term) (sym e)))
  | of_truths e x ↦ absurd (false≢true (ap (same_side Term) (sym e)))
  | a_branch v ↦ absurd (f (sym (sym (ap first (v.is_text k)) ∙ b)))
]

whole_fault : (s q : List ℕ) → (first s ≡ 40 → ⊥) → (first s ≡ 115 → ⊥) → (first s ≡ 98 → ⊥) → IsFault IsNumber whole_text s q → IsFault (IsOf Term) tree_text s q
whole_fault s q f g h w =
    let v = w.goes in record {
      front = w.front;
      is_front = w.is_front;
      goes = (of_node (num v.0), v.1, v.2, v.3);
      stuck = λ u k rest p d x.
          let o = only_whole u k (first s) f g h p (ap first x ∙ front_first w.front q rest ∙ sym (ap first w.is_front)) in
          w.stuck o.0 k rest o.1 d (ap (λ (z : List ℕ). z ++ k) (sym o.2) ∙ x);
    }

-- ---- what is read

pub read_as : (s : Side) (t u : Tree) (bytes : List ℕ) (at m n : ℕ) → t ≡ u → m ≡ n → IsRead s u bytes at n → IsRead s t bytes at m
read_as s t u bytes at m n e f h =
    subst (λ (x : Tree). IsRead s x bytes at m) (sym e) (subst (λ (i : ℕ). IsRead s u bytes at i) (sym f) h)

pub symbol_read : (bytes : List ℕ) (at n to : ℕ) → drop at bytes ≡ 115 ∷ drop (at + 1) bytes → at + 1 < to → to ≤ length bytes → Between 0 4294967295 n → drop (at + 1) bytes ≡ number_text n ++ drop to bytes → Ends (drop to bytes) → IsRead Term (of_node (symbol n)) bytes at to
symbol_read bytes at n to e b i h f d = record {
  before = omega arith;
  inside = i;
  right = below_32 n h.1;
  text = e ∙ ap (λ (x : List ℕ). 115 ∷ x) f;
  whole = ended_whole (of_node (symbol n)) (first (drop to bytes)) d;
}

pub symbol_unread : (bytes : List ℕ) (at to : ℕ) → drop at bytes ≡ 115 ∷ drop (at + 1) bytes → to ≤ length bytes → IsFault (Between 0 4294967295) number_text (drop (at + 1) bytes) (drop to bytes) → IsUnread Term bytes at to
symbol_unread bytes at to e i f = record {
  inside = i;
  fault = lettered_unread Term 115 (Between 0 4294967295) (λ n. of_node (symbol n)) (drop at bytes) (drop (at + 1) bytes) (drop to bytes) symbols e f;
}

pub bound_read : (bytes : List ℕ) (at n to : ℕ) → drop at bytes ≡ 98 ∷ drop (at + 1) bytes → at + 1 < to → to ≤ length bytes → Between 0 4294967295 n → drop (at + 1) bytes ≡ number_text n ++ drop to bytes → Ends (drop to bytes) → IsRead Term (of_node (bound n)) bytes at to
bound_read bytes at n to e b i h f d = record {
  before = omega arith;
  inside = i;
  right = below_32 n h.1;
  text = e ∙ ap (λ (x : List ℕ). 98 ∷ x) f;
  whole = ended_whole (of_node (bound n)) (first (drop to bytes)) d;
}

pub bound_unread : (bytes : List ℕ) (at to : ℕ) → drop at bytes ≡ 98 ∷ drop (at + 1) bytes → to ≤ length bytes → IsFault (Between 0 4294967295) number_text (drop (at + 1) bytes) (drop to bytes) → IsUnread Term bytes at to
bound_unread bytes at to e i f = record {
  inside = i;
  fault = lettered_unread Term 98 (Between 0 4294967295) (λ n. of_node (bound n)) (drop at bytes) (drop (at + 1) bytes) (drop to bytes) bounds e f;
}

pub whole_read : (bytes : List ℕ) (at to : ℕ) (z : ℤ) → at < to → to ≤ length bytes → IsNumber z → drop at bytes ≡ whole_text z ++ drop to bytes → Ends (drop to bytes) → IsRead Term (of_node (num z)) bytes at to
whole_read bytes at to z b i h f d = record {
  before = b;
  inside = i;
  right = h;
  text = f;
  whole = ended_whole (of_node (num z)) (first (drop to bytes)) d;
}

pub whole_unread : (bytes : List ℕ) (at to : ℕ) → (first (drop at bytes) ≡ 40 → ⊥) → (first (drop at bytes) ≡ 115 → ⊥) → (first (drop at bytes) ≡ 98 → ⊥) → to ≤ length bytes → IsFault IsNumber whole_text (drop at bytes) (drop to bytes) → IsUnread Term bytes at to
whole_unread bytes at to f g h i w = record {
  inside = i;
  fault = whole_fault (drop at bytes) (drop to bytes) f g h w;
}

pub flag_read : (bytes : List ℕ) (b : Bool) (at : ℕ) → at < length bytes → drop at bytes ≡ tree_text (of_node (flag b)) ++ drop (at + 1) bytes → IsRead Formula (of_node (flag b)) bytes at (at + 1)
flag_read bytes b at i e = record {
  before = omega arith;
  inside = omega arith;
  right = refl;
  text = e;
  whole = solid_whole (flag b) (first (drop (at + 1) bytes)) refl;
}

pub numbers_read : (bytes : List ℕ) (at : ℕ) → at < length bytes → drop at bytes ≡ 78 ∷ drop (at + 1) bytes → IsRead Sort (of_kind numbers) bytes at (at + 1)
numbers_read bytes at i e = record {
  before = omega arith;
  inside = omega arith;
  right = refl;
  text = e;
  whole = kind_whole numbers (first (drop (at + 1) bytes));
}

pub truths_read : (bytes : List ℕ) (at : ℕ) → at < length bytes → drop at bytes ≡ 66 ∷ drop (at + 1) bytes → IsRead Sort (of_kind truths) bytes at (at + 1)
truths_read bytes at i e = record {
  before = omega arith;
  inside = omega arith;
  right = refl;
  text = e;
  whole = kind_whole truths (first (drop (at + 1) bytes));
}

-- ---- what is not

nothing_begins : (s : Side) (bytes : List ℕ) (at : ℕ) → at ≤ length bytes → ((t : Tree) (k : List ℕ) → IsOf s t → begins t k (first (drop at bytes)) → ⊥) → IsUnread s bytes at at
nothing_begins s bytes at i n = record {
  inside = i;
  fault = record {
    front = [];
    is_front = refl;
    goes = (sample s, tree_text (sample s), sample_of s, refl);
    stuck = λ t k rest h d x. n t k h (ap first x);
  };
}

flag_begins : (v : Bool) (k : List ℕ) (c : ℕ) → (c ≡ 84 → ⊥) → (c ≡ 70 → ⊥) → begins (of_node (flag v)) k c → ⊥
flag_begins true k c f g b = f (sym b)
flag_begins false k c f g b = g (sym b)

no_formula_at : (t : Tree) (k : List ℕ) (c : ℕ) → (c ≡ 40 → ⊥) → (c ≡ 84 → ⊥) → (c ≡ 70 → ⊥) → IsOf Formula t → begins t k c → ⊥
no_formula_at t k c f g h p b = elim (view Formula t p) [
  | a_number n e w x ↦ false≢true (ap (same_side Formula) (sym e))
  | a_negative n e w x ↦ false≢true (ap (same_side Formula) (sym e))
  | a_symbol n e w x ↦ false≢true (ap (same_side Formula) (sym e))
  | a_bound n e w x ↦ false≢true (ap (same_side Formula) (sym e))
  | a_flag v e x ↦ flag_begins v k c g h (begins_as _ _ k c x b)
  | of_numbers e x ↦ false≢true (ap (same_side Formula) (sym e))
  | of_truths e x ↦ false≢true (ap (same_side Formula) (sym e))
  | a_branch v ↦ f (sym (sym (ap first (v.is_text k)) ∙ b))
]

pub no_formula : (bytes : List ℕ) (at : ℕ) → at ≤ length bytes → (first (drop at bytes) ≡ 40 → ⊥) → (first (drop at bytes) ≡ 84 → ⊥) → (first (drop at bytes) ≡ 70 → ⊥) → IsUnread Formula bytes at at
no_formula bytes at i a b c = nothing_begins Formula bytes at i (λ t k p x. no_formula_at t k (first (drop at bytes)) a b c p x)

no_kind_at : (t : Tree) (k : List ℕ) (c : ℕ) → (c ≡ 40 → ⊥) → (c ≡ 78 → ⊥) → (c ≡ 66 → ⊥) → IsOf Sort t → begins t k c → ⊥
no_kind_at t k c f g h p b = elim (view Sort t p) [
  | a_number n e w x ↦ false≢true (ap (same_side Sort) (sym e))
  | a_negative n e w x ↦ false≢true (ap (same_side Sort) (sym e))
  | a_symbol n e w x ↦ false≢true (ap (same_side Sort) (sym e))
  | a_bound n e w x ↦ false≢true (ap (same_side Sort) (sym e))
  | a_flag v e x ↦ false≢true (ap (same_side Sort) (sym e))
  | of_numbers e x ↦ g (sym (begins_as _ _ k c x b))
  | of_truths e x ↦ h (sym (begins_as _ _ k c x b))
  | a_branch v ↦ f (sym (sym (ap first (v.is_text k)) ∙ b))
]

pub no_kind : (bytes : List ℕ) (at : ℕ) → at ≤ length bytes → (first (drop at bytes) ≡ 40 → ⊥) → (first (drop at bytes) ≡ 78 → ⊥) → (first (drop at bytes) ≡ 66 → ⊥) → IsUnread Sort bytes at at
no_kind bytes at i a b c = nothing_begins Sort bytes at i (λ t k p x. no_kind_at t k (first (drop at bytes)) a b c p x)
