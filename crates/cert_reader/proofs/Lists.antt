-- Formulas, hints and steps in a row.
use Rattle.std.proofs.Common.{◌≡◌, refl, sym, ◌∙◌, ap, ap₂, subst, ℕ, suc, ◌+◌, ◌-◌, ◌<◌, ◌≤◌, List, [], ◌∷◌, ◌++◌, length, length-append, drop, map, codes, append_assoc, arith}
use Rattle.std.specs.Prelude.{ℤ}
use Rattle.std.proofs.lemmas.Bool.{eqb-false}
use Rattle.std.proofs.lemmas.List.{length-map}
use Rattle.logic_terms.specs.Node.{Node}
use Rattle.logic_terms.specs.View.{formula as formula_of}
use Rattle.logic_terms.specs.declared.syntax.Formula.{Formula}
use Rattle.cert_lines.specs.Line.{Step, sum_of, tighten}
use Rattle.cert_lines.specs.View.{step as step_of}
use Rattle.cert_lines.specs.declared.step.StepLine.{StepLine}
use Rattle.term_reader.specs.Bytes.{first}
use Rattle.term_reader.specs.declared.fault.ReadFault.{ReadFault}
use Rattle.term_reader.specs.declared.fault.ReadFault.TheVariants as fault
use Rattle.term_reader.proofs.Digits.{same_head, same_tail}
use Rattle.term_reader.proofs.Fronts.{first_is}
use Rattle.term_reader.proofs.Rows.{IsRow, row_more, one_more}
use Rattle.logic_text.specs.Certs.{spaced_number, spaced_whole, spaced_node, nodes_text, numbers_text, literals_text, scaled_text, step_text, steps_text}
use Rattle.term_reader.specs.Phases.{IsUpTo, IsBadAt}
use Rattle.term_reader.proofs.Places.{bad_at, steps_at}
use Rattle.term_reader.proofs.Reaching.{upto_same}
use Rattle.cert_reader.specs.Phases.{Phase, ended, hints, steps, index, whole, formula, times, Has}
use Rattle.cert_reader.proofs.Forms.{put}
use Rattle.cert_reader.proofs.Leaves.{some}

-- ---- formulas

nodes_row : IsRow spaced_node nodes_text
nodes_row = record { none = refl; next = λ n ns. refl }

pub formula_text : (old new : List Formula) (p : Formula) (s m r : List ℕ) → new ≡ old ++ p ∷ [] → s ≡ nodes_text (map formula_of old) ++ m → m ≡ spaced_node (formula_of p) ++ r → s ≡ nodes_text (map formula_of new) ++ r
formula_text old new p s m r e f g = one_more formula_of spaced_node nodes_text nodes_row old new p s m r e g f

-- the next of so many formulas
next_is : (left : ℕ) → 0 < left → suc (left - 1) ≡ left
next_is left h = omega arith

pub formulas_on : (count left : ℕ) (bytes : List ℕ) (at m to : ℕ) → 0 < left → ((p : Phase) → IsUpTo (Has (times count p)) (drop at bytes) (Has (times left p)) (drop m bytes)) → ((p : Phase) → IsUpTo (Has (formula p)) (drop m bytes) (Has p) (drop to bytes)) → (p : Phase) → IsUpTo (Has (times count p)) (drop at bytes) (Has (times (left - 1) p)) (drop to bytes)
formulas_on count left bytes at m to h u v p =
    let w : IsUpTo (Has (times count p)) (drop at bytes) (Has (times (suc (left - 1)) p)) (drop m bytes) =
    subst (λ (k : ℕ). IsUpTo (Has (times count p)) (drop at bytes) (Has (times k p)) (drop m bytes)) (sym (next_is left h)) (u p) in
    steps_at (Has (times count p)) (Has (formula (times (left - 1) p))) (Has (times (left - 1) p)) bytes at m to w (v (times (left - 1) p))

pub formulas_bad : (count left : ℕ) (bytes : List ℕ) (at m : ℕ) (f : ReadFault) → 0 < left → ((p : Phase) → IsUpTo (Has (times count p)) (drop at bytes) (Has (times left p)) (drop m bytes)) → ((p : Phase) → IsBadAt (Has (formula p)) bytes m f) → (p : Phase) → IsBadAt (Has (times count p)) bytes at f
formulas_bad count left bytes at m f h u b p =
    let w : IsUpTo (Has (times count p)) (drop at bytes) (Has (times (suc (left - 1)) p)) (drop m bytes) =
    subst (λ (k : ℕ). IsUpTo (Has (times count p)) (drop at bytes) (Has (times k p)) (drop m bytes)) (sym (next_is left h)) (u p) in
    bad_at (Has (times count p)) (Has (formula (times (left - 1) p))) bytes at m f w (b (times (left - 1) p))

pub formulas_over : (count left : ℕ) (s r : List ℕ) → left ≡ 0 → ((p : Phase) → IsUpTo (Has (times count p)) s (Has (times left p)) r) → (p : Phase) → IsUpTo (Has (times count p)) s (Has p) r
formulas_over count left s r e u p = subst (λ (k : ℕ). IsUpTo (Has (times count p)) s (Has (times k p)) r) e (u p)

pub number_more : (old new : List Formula) (p : Formula) (left count : ℕ) → new ≡ old ++ p ∷ [] → 0 < left → length old + left ≡ count → length new + (left - 1) ≡ count
number_more old new p left count e h f =
    let n : length new ≡ length old + length (p ∷ []) = ap length e ∙ length-append old (p ∷ []) in omega arith

pub literals_are : (ls : List Formula) (n : ℕ) (s m r : List ℕ) → length ls ≡ n → s ≡ spaced_number n ++ m → m ≡ nodes_text (map formula_of ls) ++ r → s ≡ literals_text (map formula_of ls) ++ r
literals_are ls n s m r e f g =
    f ∙ ap (λ (x : List ℕ). spaced_number n ++ x) g
    ∙ sym (append_assoc (spaced_number n) (nodes_text (map formula_of ls)) r)
    ∙ ap (λ (k : ℕ). (spaced_number k ++ nodes_text (map formula_of ls)) ++ r) (sym e ∙ sym (length-map ls formula_of))

-- ---- hints

numbers_row : IsRow spaced_number numbers_text
numbers_row = record { none = refl; next = λ k ks. refl }

pub hint_text : (old new : List ℕ) (k : ℕ) (m r : List ℕ) → new ≡ old ++ k ∷ [] → m ≡ spaced_number k ++ r → (s : List ℕ) → s ≡ numbers_text old ++ m → s ≡ numbers_text new ++ r
hint_text old new k m r e g s f = row_more spaced_number numbers_text numbers_row old new k s m r e g f

hints_in : (x : List ℕ) → Has (index hints) x → Has hints x
hints_in x (k, u, f, (ks, y, g, h, e), d) =
    (k ∷ ks, y, (f, g), h, d ∙ ap (λ (z : List ℕ). spaced_number k ++ z) e ∙ sym (append_assoc (spaced_number k) (numbers_text ks) (10 ∷ y)))

hints_out : (x : List ℕ) → first x ≡ 32 → Has hints x → Has (index hints) x
hints_out x n ([], y, f, h, e) = absurd (eqb-false 10 32 refl (sym (ap first e) ∙ n))
hints_out x n (k ∷ ks, y, f, h, e) =
    (k, numbers_text ks ++ (10 ∷ y), f.0, (ks, y, f.1, h, refl), e ∙ append_assoc (spaced_number k) (numbers_text ks) (10 ∷ y))

hints_front : (bytes : List ℕ) (at : ℕ) → first (drop at bytes) ≡ 32 → IsUpTo (Has hints) (drop at bytes) (Has (index hints)) (drop at bytes)
hints_front bytes at e = upto_same (Has hints) (Has (index hints)) (drop at bytes) hints_in (λ x f. hints_out x (f ∙ e))

pub hint_on : (bytes : List ℕ) (at to : ℕ) → first (drop at bytes) ≡ 32 → ((p : Phase) → IsUpTo (Has (index p)) (drop at bytes) (Has p) (drop to bytes)) → IsUpTo (Has hints) (drop at bytes) (Has hints) (drop to bytes)
hint_on bytes at to e u = steps_at (Has hints) (Has (index hints)) (Has hints) bytes at at to (hints_front bytes at e) (u hints)

pub hint_bad : (bytes : List ℕ) (at : ℕ) (f : ReadFault) → first (drop at bytes) ≡ 32 → ((p : Phase) → IsBadAt (Has (index p)) bytes at f) → IsBadAt (Has hints) bytes at f
hint_bad bytes at f e b = bad_at (Has hints) (Has (index hints)) bytes at at f (hints_front bytes at e) (b hints)

hints_over_in : (x : List ℕ) → Has ended x → Has hints x
hints_over_in x (y, h, e) = ([], y, tt, h, e)

hints_over_out : (x : List ℕ) → (first x ≡ 32 → ⊥) → Has hints x → Has ended x
hints_over_out x n ([], y, f, h, e) = (y, h, e)
hints_over_out x n (k ∷ ks, y, f, h, e) = absurd (n (ap first e))

pub hints_over : (bytes : List ℕ) (at to : ℕ) → (first (drop to bytes) ≡ 32 → ⊥) → IsUpTo (Has hints) (drop at bytes) (Has hints) (drop to bytes) → IsUpTo (Has hints) (drop at bytes) (Has ended) (drop to bytes)
hints_over bytes at to n u =
    steps_at (Has hints) (Has hints) (Has ended) bytes at to to u
    (upto_same (Has hints) (Has ended) (drop to bytes) hints_over_in (λ x f h. hints_over_out x (λ e. n (sym f ∙ e)) h))

-- ---- steps

pub scaled_is : (i : ℕ) (z y : ℤ) (s m r : List ℕ) → y ≡ z → s ≡ spaced_number i ++ m → m ≡ spaced_whole z ++ r → s ≡ scaled_text i y ++ r
scaled_is i z y s m r d e f =
    e ∙ ap (λ (x : List ℕ). spaced_number i ++ x) f ∙ sym (append_assoc (spaced_number i) (spaced_whole z) r)
    ∙ ap (λ (x : ℤ). scaled_text i x ++ r) (sym d)

pub sum_is : (i : ℕ) (a x : ℤ) (j : ℕ) (b y : ℤ) (t s m r : List ℕ) → x ≡ a → y ≡ b → t ≡ codes " +" ++ s → s ≡ scaled_text i a ++ m → m ≡ scaled_text j b ++ r → t ≡ step_text (sum_of i x j y) ++ r
sum_is i a x j b y t s m r c d g e f =
    g ∙ ap (λ (u : List ℕ). codes " +" ++ u) (e ∙ ap (λ (u : List ℕ). scaled_text i a ++ u) f ∙ sym (append_assoc (scaled_text i a) (scaled_text j b) r))
    ∙ ap₂ (λ (u v : ℤ). step_text (sum_of i u j v) ++ r) (sym c) (sym d)

pub tightened_is : (i : ℕ) (t s r : List ℕ) → t ≡ codes " t" ++ s → s ≡ spaced_number i ++ r → t ≡ step_text (tighten i) ++ r
tightened_is i t s r g e = g ∙ ap (λ (x : List ℕ). codes " t" ++ x) e

-- a mark after a space
two_on : (n : ℕ) → (n + 1) + 1 ≡ n + 2
two_on n = omega arith

pub mark_at : (bytes : List ℕ) (at c : ℕ) → drop at bytes ≡ 32 ∷ drop (at + 1) bytes → first (drop (at + 1) bytes) ≡ c → c < 256 → (at + 2 ≤ length bytes) × (drop at bytes ≡ 32 ∷ (c ∷ drop (at + 2) bytes))
mark_at bytes at c e f h =
    let r = first_is bytes (at + 1) c f h in
    let l = r.0 in
    (omega arith, e ∙ ap (λ (x : List ℕ). 32 ∷ x) (r.1 ∙ ap (λ (i : ℕ). c ∷ drop i bytes) (two_on at)))

steps_row : IsRow step_text steps_text
steps_row = record { none = refl; next = λ t ss. refl }

pub next_step_text : (old new : List StepLine) (t : StepLine) (s m r : List ℕ) → new ≡ old ++ t ∷ [] → s ≡ steps_text (map step_of old) ++ m → m ≡ step_text (step_of t) ++ r → s ≡ steps_text (map step_of new) ++ r
next_step_text old new t s m r e f g = one_more step_of step_text steps_text steps_row old new t s m r e g f

-- what follows the mark of a sum
abbrev pub sums : Phase → Phase
sums p = index (whole (index (whole p)))

next_step : (t : Step) (ss : List Step) (y : List ℕ) → steps_text (t ∷ ss) ++ y ≡ step_text t ++ (steps_text ss ++ y)
next_step t ss y = append_assoc (step_text t) (steps_text ss) y

sum_then : (i : ℕ) (a : ℤ) (j : ℕ) (b : ℤ) (y : List ℕ) → step_text (sum_of i a j b) ++ y ≡ codes " +" ++ (spaced_number i ++ (spaced_whole a ++ (spaced_number j ++ (spaced_whole b ++ y))))
sum_then i a j b y =
    ap (λ (x : List ℕ). codes " +" ++ x)
    (append_assoc (scaled_text i a) (scaled_text j b) y ∙ append_assoc (spaced_number i) (spaced_whole a) (scaled_text j b ++ y)
    ∙ ap (λ (x : List ℕ). spaced_number i ++ (spaced_whole a ++ x)) (append_assoc (spaced_number j) (spaced_whole b) y))

sum_in : (x : List ℕ) → Has (sums steps) x → Has steps (codes " +" ++ x)
sum_in x (i, u, f, (a, v, g, (j, w, o, (b, z, q, (ss, y, r, h, e), d), c), n), m) = (
  sum_of i a j b ∷ ss,
  y,
  ((f, g, o, q), r),
  h,
  put (codes " +") _ _ (m ∙ put (spaced_number i) _ _ (n ∙ put (spaced_whole a) _ _ (c ∙ put (spaced_number j) _ _ (d ∙ put (spaced_whole b) _ _ e))))
      ∙ sym (next_step (sum_of i a j b) ss (10 ∷ y) ∙ sum_then i a j b (steps_text ss ++ (10 ∷ y))),
)

sum_out : (x : List ℕ) → Has steps (codes " +" ++ x) → Has (sums steps) x
sum_out x ([], y, f, h, e) = absurd (eqb-false 32 10 refl (same_head 32 10 _ _ e))
sum_out x (tighten i ∷ ss, y, f, h, e) = absurd (eqb-false 43 116 refl (same_head 43 116 _ _ (same_tail 32 32 _ _ e)))
sum_out x (sum_of i a j b ∷ ss, y, f, h, e) =
    let z = steps_text ss ++ (10 ∷ y) in
    let s = f.0 in (
      i,
      spaced_whole a ++ (spaced_number j ++ (spaced_whole b ++ z)),
      s.0,
      (
        a,
        spaced_number j ++ (spaced_whole b ++ z),
        s.1,
        (j, spaced_whole b ++ z, s.2, (b, z, s.3, (ss, y, f.1, h, refl), refl), refl),
        refl,
      ),
      same_tail 43 43 _ _ (same_tail 32 32 _ _ (e ∙ next_step (sum_of i a j b) ss (10 ∷ y) ∙ sum_then i a j b z)),
    )

tighten_in : (x : List ℕ) → Has (index steps) x → Has steps (codes " t" ++ x)
tighten_in x (i, u, f, (ss, y, r, h, e), d) = (
  tighten i ∷ ss,
  y,
  (f, r),
  h,
  put (codes " t") _ _ (d ∙ put (spaced_number i) _ _ e) ∙ sym (next_step (tighten i) ss (10 ∷ y)),
)

tighten_out : (x : List ℕ) → Has steps (codes " t" ++ x) → Has (index steps) x
tighten_out x ([], y, f, h, e) = absurd (eqb-false 32 10 refl (same_head 32 10 _ _ e))
tighten_out x (sum_of i a j b ∷ ss, y, f, h, e) = absurd (eqb-false 116 43 refl (same_head 116 43 _ _ (same_tail 32 32 _ _ e)))
tighten_out x (tighten i ∷ ss, y, f, h, e) = (
  i,
  steps_text ss ++ (10 ∷ y),
  f.0,
  (ss, y, f.1, h, refl),
  same_tail 116 116 _ _ (same_tail 32 32 _ _ (e ∙ next_step (tighten i) ss (10 ∷ y))),
)

sum_front : (bytes : List ℕ) (at m : ℕ) → drop at bytes ≡ codes " +" ++ drop m bytes → IsUpTo (Has steps) (drop at bytes) (Has (sums steps)) (drop m bytes)
sum_front bytes at m e = record { front = codes " +"; is_front = e; into = λ x h. sum_in x h; out = λ x n f h. sum_out x h }

tighten_front : (bytes : List ℕ) (at m : ℕ) → drop at bytes ≡ codes " t" ++ drop m bytes → IsUpTo (Has steps) (drop at bytes) (Has (index steps)) (drop m bytes)
tighten_front bytes at m e = record { front = codes " t"; is_front = e; into = λ x h. tighten_in x h; out = λ x n f h. tighten_out x h }

pub sum_on : (bytes : List ℕ) (at m to : ℕ) → drop at bytes ≡ codes " +" ++ drop m bytes → ((p : Phase) → IsUpTo (Has (sums p)) (drop m bytes) (Has p) (drop to bytes)) → IsUpTo (Has steps) (drop at bytes) (Has steps) (drop to bytes)
sum_on bytes at m to e u = steps_at (Has steps) (Has (sums steps)) (Has steps) bytes at m to (sum_front bytes at m e) (u steps)

pub sum_bad : (bytes : List ℕ) (at m : ℕ) (f : ReadFault) → drop at bytes ≡ codes " +" ++ drop m bytes → ((p : Phase) → IsBadAt (Has (sums p)) bytes m f) → IsBadAt (Has steps) bytes at f
sum_bad bytes at m f e b = bad_at (Has steps) (Has (sums steps)) bytes at m f (sum_front bytes at m e) (b steps)

pub tighten_on : (bytes : List ℕ) (at m to : ℕ) → drop at bytes ≡ codes " t" ++ drop m bytes → ((p : Phase) → IsUpTo (Has (index p)) (drop m bytes) (Has p) (drop to bytes)) → IsUpTo (Has steps) (drop at bytes) (Has steps) (drop to bytes)
tighten_on bytes at m to e u = steps_at (Has steps) (Has (index steps)) (Has steps) bytes at m to (tighten_front bytes at m e) (u steps)

pub tighten_bad : (bytes : List ℕ) (at m : ℕ) (f : ReadFault) → drop at bytes ≡ codes " t" ++ drop m bytes → ((p : Phase) → IsBadAt (Has (index p)) bytes m f) → IsBadAt (Has steps) bytes at f
tighten_bad bytes at m f e b = bad_at (Has steps) (Has (index steps)) bytes at m f (tighten_front bytes at m e) (b steps)

no_mark : (c : ℕ) (rest : List ℕ) → (c ≡ 43 → ⊥) → (c ≡ 116 → ⊥) → Has steps ((32 ∷ []) ++ (c ∷ rest)) → ⊥
no_mark c rest n m ([], y, f, h, e) = eqb-false 32 10 refl (same_head 32 10 _ _ e)
no_mark c rest n m (sum_of i a j b ∷ ss, y, f, h, e) = n (same_head c 43 _ _ (same_tail 32 32 _ _ e))
no_mark c rest n m (tighten i ∷ ss, y, f, h, e) = m (same_head c 116 _ _ (same_tail 32 32 _ _ e))

pub mark_bad : (bytes : List ℕ) (at m : ℕ) → drop at bytes ≡ 32 ∷ drop m bytes → m ≤ length bytes → (first (drop m bytes) ≡ 43 → ⊥) → (first (drop m bytes) ≡ 116 → ⊥) → IsBadAt (Has steps) bytes at (fault.BadText m)
mark_bad bytes at m e i n k =
    let r = some (index steps) in (
      i,
      record {
        front = 32 ∷ [];
        is_front = e;
        goes = (116 ∷ r.0, tighten_in r.0 r.1);
        stuck = λ rest h. no_mark (first (drop m bytes)) rest n k h;
      },
    )

steps_over_in : (x : List ℕ) → Has ended x → Has steps x
steps_over_in x (y, h, e) = ([], y, tt, h, e)

steps_over_out : (x : List ℕ) → (first x ≡ 32 → ⊥) → Has steps x → Has ended x
steps_over_out x n ([], y, f, h, e) = (y, h, e)
steps_over_out x n (sum_of i a j b ∷ ss, y, f, h, e) = absurd (n (ap first e))
steps_over_out x n (tighten i ∷ ss, y, f, h, e) = absurd (n (ap first e))

pub steps_over : (bytes : List ℕ) (at to : ℕ) → (first (drop to bytes) ≡ 32 → ⊥) → IsUpTo (Has steps) (drop at bytes) (Has steps) (drop to bytes) → IsUpTo (Has steps) (drop at bytes) (Has ended) (drop to bytes)
steps_over bytes at to n u =
    steps_at (Has steps) (Has steps) (Has ended) bytes at to to u
    (upto_same (Has steps) (Has ended) (drop to bytes) steps_over_in (λ x f h. steps_over_out x (λ e. n (sym f ∙ e)) h))
