-- What is so of each state of the run: its steps run, to forms of which those that stand are some. So where it ends with a
-- refutation, the lines refute the inputs.
use Rattle.std.proofs.Common.{◌≡◌, refl, sym, ◌∙◌, ap, ap₂, subst, ℕ, zero, suc, ◌+◌, ◌*◌, ◌/◌, ◌%◌, ◌<◌, ◌≤◌, inl, inr, Bool, true, false, List, [], ◌∷◌, ◌++◌, map, length, arith, append_assoc, length-append, eq-eqb}
use Rattle.std.specs.Prelude.{if◌then◌else◌, ◌&&◌, ◌==◌, ◌-◌, ℤ, pos, negsuc, int_lt, int_le, unsigned_abs, Option, Some, None, slice_get, remove}
use Rattle.std.specs.List.{filter}
use Rattle.std.proofs.lemmas.Int.{ints}
use Rattle.std.proofs.lemmas.List.{append-nil}
use Rattle.std.proofs.lemmas.Bool.{and_parts, and_from, eqb-true, false≢true}
use Rattle.logic_terms.specs.Node.{Node}
use Rattle.logic_terms.specs.Sorting.{nth}
use Rattle.linear_forms.specs.Form.{Monomial, monomial, Form, combined, tightened, divides_all, greatest_to, total, divisor}
use Rattle.linear_forms.specs.Fits.{fits, combining_fits}
use Rattle.linear_forms.proofs.Tightening.{greatest_divides}
use Rattle.cert_lines.specs.Line.{Step, sum_of, tighten}
use Rattle.cert_rules.specs.Judged.{Judged, yields, refused, too_wide, when, fitting}
use Rattle.cert_rules.specs.Judged.{and_then as judged_then}
use Rattle.cert_rules.specs.Linear.{found_form, stepped, run_steps, has_no_monomials}
use Rattle.linear_prover.specs.Forms.{coefficient, is_constant, same_form, factor, variables_of}
use Rattle.linear_prover.specs.Machine.{Made, made, Aside, aside, State, Answer, refuted, point, gap, wide, steps_out, Running, goes_on, ends, and_then, each, next, with_line, repeats, placed, appended}
use Rattle.linear_prover.specs.Elimination.{is_positive, is_negative, is_free, positives, negatives, summed, paired, all_paired, set_aside, eliminate, eliminate_at, fewest, eliminate_next, rounds}
use Rattle.linear_prover.specs.Values.{Known, known, value_in, Range, range, bounded_by_all, nearest, with_nearest, with_range, chosen}
use Rattle.linear_prover.specs.Decided.{Decided, decided, numbered_from, at_start, entered, finished, decide_of}
use Rattle.linear_prover.specs.Points.{AreAll}
use Rattle.linear_prover.specs.Refuting.{Refutes}
use Rattle.linear_prover.proofs.Holding.{all_append, same_form-is, kept_constant, kept_form}
use Rattle.linear_prover.proofs.Pointing.{all_of_filter, all_along}
use Rattle.linear_prover.proofs.Pruning.{nth_front, nth_at, not_refused, not_wide}
use Rattle.linear_prover.proofs.Refuting.{Newest, lines_refute}

-- gs has the form x under its number
abbrev pub Has : List Form → Made → Type 0
Has gs x = nth gs x.number ≡ Some x.body

-- the steps lead from the inputs fs to the forms gs
pub record Traced (fs gs : List Form) (s : State) : Type 0 where
  pub inputs : s.inputs ≡ length fs
  pub run : run_steps fs s.steps ≡ yields gs
  pub count : length gs ≡ s.inputs + length s.steps
  pub standing : AreAll (Has gs) s.standing

abbrev pub Good : List Form → List Form → Running → Type 0
Good fs gs (goes_on t) = (more : List Form) × Traced fs (gs ++ more) t
Good fs gs (ends (refuted ls) b) = Refutes fs ls
Good fs gs (ends (point ns) b) = Unit {0}
Good fs gs (ends gap b) = Unit {0}
Good fs gs (ends wide b) = Unit {0}
Good fs gs (ends steps_out b) = Unit {0}

same_forms : (fs gs : List Form) (t : State) → Traced fs gs t → Good fs gs (goes_on t)
same_forms fs gs t h = ([], subst (λ (hs : List Form). Traced fs hs t) (sym (append-nil gs)) h)

from_fewer : (fs gs more : List Form) (r : Running) → Good fs (gs ++ more) r → Good fs gs r
from_fewer fs gs more (goes_on t) h = (more ++ h.0, subst (λ (hs : List Form). Traced fs hs t) (append_assoc gs more h.0) h.1)
from_fewer fs gs more (ends (refuted ls) b) h = h
from_fewer fs gs more (ends (point ns) b) h = tt
from_fewer fs gs more (ends gap b) h = tt
from_fewer fs gs more (ends wide b) h = tt
from_fewer fs gs more (ends steps_out b) h = tt

then_good : (fs gs : List Form) (r : Running) (f : State → Running) → Good fs gs r → ((more : List Form) (t : State) → Traced fs (gs ++ more) t → Good fs (gs ++ more) (f t)) → Good fs gs (and_then r f)
then_good fs gs (goes_on t) f h k = from_fewer fs gs h.0 (f t) (k h.0 t h.1)
then_good fs gs (ends a b) f h k = h

all_more : (gs more : List Form) (xs : List Made) → AreAll (Has gs) xs → AreAll (Has (gs ++ more)) xs
all_more gs more [] a = tt
all_more gs more (x ∷ xs) a = (nth_front gs more x.number x.body a.0, all_more gs more xs a.1)

-- ---- a form is placed

constant_has_none : (ms : List Monomial) → is_constant ms ≡ true → has_no_monomials ms ≡ true
constant_has_none [] e = refl
constant_has_none (m ∷ ms) e = absurd (false≢true e)

constant_good : (b : Bool) (fs gs : List Form) (x : Made) (s : State) → int_lt x.body.constant (pos 0) ≡ b → is_constant x.body.monomials ≡ true → Has gs x → Newest s.inputs (length s.steps) x.number → Traced fs gs s → Good fs gs (kept_constant b x s)
constant_good true fs gs x s e c h w t =
    lines_refute fs s.inputs x.number s.steps gs x.body t.inputs t.run h w (and_from _ _ (constant_has_none x.body.monomials c) e)
constant_good false fs gs x s e c h w t = same_forms fs gs s t

form_good : (b : Bool) (fs gs : List Form) (x : Made) (s : State) → Has gs x → Traced fs gs s → Good fs gs (kept_form b x s)
form_good true fs gs x s h t = same_forms fs gs s t
form_good false fs gs x s h t =
    same_forms fs gs (record s { standing = s.standing ++ x ∷ [] }) (record { inputs = t.inputs; run = t.run; count = t.count; standing = all_append (Has gs) s.standing (x ∷ []) t.standing (h, tt) })

placed_by : (b : Bool) (fs gs : List Form) (x : Made) (s : State) → is_constant x.body.monomials ≡ b → Has gs x → Newest s.inputs (length s.steps) x.number → Traced fs gs s → Good fs gs (if b then kept_constant (int_lt x.body.constant (pos 0)) x s else kept_form (repeats x.body s.standing) x s)
placed_by true fs gs x s c h w t = constant_good (int_lt x.body.constant (pos 0)) fs gs x s refl c h w t
placed_by false fs gs x s c h w t = form_good (repeats x.body s.standing) fs gs x s h t

placed_good : (fs gs : List Form) (x : Made) (s : State) → Has gs x → Newest s.inputs (length s.steps) x.number → Traced fs gs s → Good fs gs (placed x s)
placed_good fs gs x s h w t = placed_by (is_constant x.body.monomials) fs gs x s refl h w t

-- ---- a step is noted

yielded : (xs ys : List Form) → yields xs ≡ yields ys → xs ≡ ys
yielded xs ys e = cc

judged_more : (j : Judged Form) (fs gs : List Form) (ss : List Step) (l : Step) (f : Form) → ((g : Form) → run_steps (fs ++ g ∷ []) ss ≡ yields gs → run_steps (fs ++ g ∷ []) (ss ++ l ∷ []) ≡ yields (gs ++ f ∷ [])) → judged_then j (λ g. run_steps (fs ++ g ∷ []) ss) ≡ yields gs → judged_then j (λ g. run_steps (fs ++ g ∷ []) (ss ++ l ∷ [])) ≡ yields (gs ++ f ∷ [])
judged_more (yields g) fs gs ss l f ih u = ih g u
judged_more refused fs gs ss l f ih u = not_refused gs u
judged_more too_wide fs gs ss l f ih u = not_wide gs u

run_more : (fs gs : List Form) (ss : List Step) (l : Step) (f : Form) → run_steps fs ss ≡ yields gs → stepped gs l ≡ yields f → run_steps fs (ss ++ l ∷ []) ≡ yields (gs ++ f ∷ [])
run_more fs gs [] l f u e =
    ap (λ (hs : List Form). judged_then (stepped hs l) (λ y. yields (hs ++ y ∷ []))) (yielded fs gs u)
    ∙ ap (λ (j : Judged Form). judged_then j (λ y. yields (gs ++ y ∷ []))) e
run_more fs gs (s ∷ ss) l f u e = judged_more (stepped fs s) fs gs ss l f (λ g v. run_more (fs ++ g ∷ []) gs ss l f v e) u

noted : (fs gs : List Form) (l : Step) (f : Form) (s : State) → Traced fs gs s → stepped gs l ≡ yields f → Traced fs (gs ++ f ∷ []) (with_line l s)
noted fs gs l f s t e = record {
  inputs = t.inputs;
  run = run_more fs gs s.steps l f t.run e;
  count = longer (length gs) _ s.inputs (length s.steps) _ (length-append gs (f ∷ [])) (length-append s.steps (l ∷ [])) t.count;
  standing = all_more gs (f ∷ []) s.standing t.standing;
}
  where
    longer : (g h i n m : ℕ) → h ≡ g + 1 → m ≡ n + 1 → g ≡ i + n → h ≡ i + m
    longer g h i n m p q r = omega arith

newest_next : (l : Step) (s : State) → Newest s.inputs (length (s.steps ++ l ∷ [])) (next s)
newest_next l s = inr (let e = length-append s.steps (l ∷ []) in omega arith)

appended_by : (b : Bool) (fs gs : List Form) (f : Form) (k : ℕ) (s : State) → same_form (tightened f) f ≡ b → Has gs (made f k) → Newest s.inputs (length s.steps) k → Traced fs gs s → Good fs gs (if b then placed (made (tightened f) k) s else placed (made (tightened f) (next s)) (with_line (tighten k) s))
appended_by true fs gs f k s e h w t = placed_good fs gs (made (tightened f) k) s (h ∙ ap Some (sym (same_form-is (tightened f) f e))) w t
appended_by false fs gs f k s e h w t =
    from_fewer fs gs (tightened f ∷ []) (placed (made (tightened f) (next s)) (with_line (tighten k) s))
    (placed_good fs (gs ++ tightened f ∷ []) (made (tightened f) (next s)) (with_line (tighten k) s) (nth_at gs (tightened f) (next s) (sym t.count)) (newest_next (tighten k) s)
    (noted fs gs (tighten k) (tightened f) s t (ap (λ (o : Option Form). judged_then (found_form o) (λ y. yields (tightened y))) h)))

appended_good : (fs gs : List Form) (f : Form) (k : ℕ) (s : State) → Has gs (made f k) → Newest s.inputs (length s.steps) k → Traced fs gs s → Good fs gs (appended f k s)
appended_good fs gs f k s h w t = appended_by (same_form (tightened f) f) fs gs f k s refl h w t

-- ---- pairs

sum_stepped : (gs : List Form) (m : ℤ) (x : Made) (n : ℤ) (y : Made) → int_le (pos 1) m ≡ true → int_le (pos 1) n ≡ true → Has gs x → Has gs y → combining_fits m x.body n y.body ≡ true → stepped gs (sum_of x.number m y.number n) ≡ yields (combined m x.body n y.body)
sum_stepped gs m x n y a b h k c =
    ap (λ (t : Bool). when t (judged_then (found_form (nth gs x.number)) (λ f. judged_then (found_form (nth gs y.number)) (λ g. fitting (combining_fits m f n g) (combined m f n g))))) (and_from _ _ a b)
    ∙ ap₂ (λ (o p : Option Form). judged_then (found_form o) (λ f. judged_then (found_form p) (λ g. fitting (combining_fits m f n g) (combined m f n g)))) h k
    ∙ ap (λ (t : Bool). fitting t (combined m x.body n y.body)) c

summed_by : (b : Bool) (fs gs : List Form) (m : ℤ) (x : Made) (n : ℤ) (y : Made) (s : State) → (fits m && (fits n && combining_fits m x.body n y.body)) ≡ b → int_le (pos 1) m ≡ true → int_le (pos 1) n ≡ true → Has gs x → Has gs y → Traced fs gs s → Good fs gs (if b then appended (combined m x.body n y.body) (next s) (with_line (sum_of x.number m y.number n) s) else ends wide s.budget)
summed_by true fs gs m x n y s e a b h k t =
    let f = combined m x.body n y.body in let l = sum_of x.number m y.number n in
    let c = (and_parts _ _ (and_parts _ _ e).1).1 in
    from_fewer fs gs (f ∷ []) (appended f (next s) (with_line l s))
    (appended_good fs (gs ++ f ∷ []) f (next s) (with_line l s) (nth_at gs f (next s) (sym t.count)) (newest_next l s) (noted fs gs l f s t (sum_stepped gs m x n y a b h k c)))
summed_by false fs gs m x n y s e a b h k t = tt

divides_one : (ms : List Monomial) → divides_all 1 ms ≡ true
divides_one [] = refl
divides_one (m ∷ ms) = and_from _ _ (eq-eqb (unsigned_abs m.coefficient % 1) 0 (none (unsigned_abs m.coefficient))) (divides_one ms)
  where
    none : (x : ℕ) → x % 1 ≡ 0
    none x = omega arith

greater_by : (b : Bool) (n k : ℕ) → 0 < k → 0 < (if b then suc n else k)
greater_by true n k h = omega arith
greater_by false n k h = h

one_by : (b : Bool) → b ≡ true → 0 < (if b then 1 else 0)
one_by true e = omega arith
one_by false e = absurd (false≢true e)

some_divisor : (n : ℕ) (ms : List Monomial) → 0 < greatest_to (suc n) ms
some_divisor zero ms = one_by (divides_all 1 ms) (divides_one ms)
some_divisor (suc n) ms = greater_by (divides_all (suc (suc n)) ms) (suc n) (greatest_to (suc n) ms) (some_divisor n ms)

some_factor : (q m x : ℕ) → x ≡ q * m → 0 < x → 0 < q
some_factor zero m x e h = absurd (omega arith)
some_factor (suc q) m x e h = omega arith

whole_quotient : (x n : ℕ) → x % suc n ≡ 0 → x ≡ x / suc n * suc n
whole_quotient x n e = grind (arith, e)

whole : (x n : ℕ) → x % suc n ≡ 0 → 0 < x → 0 < x / suc n
whole x n e h = some_factor (x / suc n) (suc n) x (whole_quotient x n e) h

quotient_by : (d : ℕ) (v : Node) (a b : ℤ) → divisor (monomial a v ∷ monomial b v ∷ []) ≡ d → 0 < unsigned_abs b → 0 < d → 0 < unsigned_abs b / d
quotient_by zero v a b e h k = absurd (omega arith)
quotient_by (suc n) v a b e h k =
    let ms = monomial a v ∷ monomial b v ∷ [] in
    let p = and_parts _ _ (greatest_divides (total ms) n ms e) in
    let q = and_parts _ _ p.1 in
    whole (unsigned_abs b) n (eqb-true _ _ q.0) h

divisor_some : (t : ℕ) (ms : List Monomial) → 0 < t → 0 < greatest_to t ms
divisor_some zero ms h = absurd (omega arith)
divisor_some (suc t) ms h = some_divisor t ms

at_least_one : (q : ℕ) → 0 < q → int_le (pos 1) (pos q) ≡ true
at_least_one q h = grind (arith, ints)

factor_some : (v : Node) (a b : ℤ) → 0 < unsigned_abs b → int_le (pos 1) (pos (unsigned_abs b / divisor (monomial a v ∷ monomial b v ∷ []))) ≡ true
factor_some v a b h =
    let ms = monomial a v ∷ monomial b v ∷ [] in
    at_least_one _ (quotient_by (divisor ms) v a b refl h (divisor_some (total ms) ms (omega arith)))

positive_some : (a : ℤ) → int_lt (pos 0) a ≡ true → 0 < unsigned_abs a
positive_some (pos n) e = some n e
  where
    some : (n : ℕ) → int_lt (pos 0) (pos n) ≡ true → 0 < n
    some n e = grind (arith, ints, e)
positive_some (negsuc n) e = absurd (false≢true e)

negative_some : (a : ℤ) → int_lt a (pos 0) ≡ true → 0 < unsigned_abs a
negative_some (pos n) e = absurd (none n e)
  where
    none : (n : ℕ) → int_lt (pos n) (pos 0) ≡ true → ⊥
    none n e = grind (arith, ints, e)
negative_some (negsuc n) e = omega arith

abbrev Plus : Node → List Form → Made → Type 0
Plus v gs x = Has gs x × (is_positive v x ≡ true)

abbrev Minus : Node → List Form → Made → Type 0
Minus v gs x = Has gs x × (is_negative v x ≡ true)

paired_by : (b : Bool) (fs gs : List Form) (m : ℤ) (x : Made) (n : ℤ) (y : Made) (k : ℕ) (s : State) → int_le (pos 1) m ≡ true → int_le (pos 1) n ≡ true → Has gs x → Has gs y → Traced fs gs s → Good fs gs (if b then ends steps_out 0 else summed m x n y (record s { budget = k }))
paired_by true fs gs m x n y k s a b h w t = tt
paired_by false fs gs m x n y k s a b h w t =
    summed_by (fits m && (fits n && combining_fits m x.body n y.body)) fs gs m x n y (record s { budget = k }) refl a b h w (record { inputs = t.inputs; run = t.run; count = t.count; standing = t.standing })

paired_good : (fs gs : List Form) (v : Node) (x y : Made) (s : State) → Plus v gs x → Minus v gs y → Traced fs gs s → Good fs gs (paired v x y s)
paired_good fs gs v x y s p q t =
    let a = coefficient v x.body.monomials in let b = coefficient v y.body.monomials in
    paired_by (s.budget == 0) fs gs (factor v x.body y.body) x (factor v y.body x.body) y (s.budget - 1) s (factor_some v a b (negative_some b q.1)) (factor_some v b a (positive_some a p.1)) p.0 q.0 t

plus_more : (v : Node) (gs more : List Form) (xs : List Made) → AreAll (Plus v gs) xs → AreAll (Plus v (gs ++ more)) xs
plus_more v gs more xs a = all_along (Plus v gs) (Plus v (gs ++ more)) (λ x p. (nth_front gs more x.number x.body p.0, p.1)) xs a

minus_more : (v : Node) (gs more : List Form) (xs : List Made) → AreAll (Minus v gs) xs → AreAll (Minus v (gs ++ more)) xs
minus_more v gs more xs a = all_along (Minus v gs) (Minus v (gs ++ more)) (λ x p. (nth_front gs more x.number x.body p.0, p.1)) xs a

each_minus : (fs gs : List Form) (v : Node) (x : Made) (ys : List Made) (s : State) → Plus v gs x → AreAll (Minus v gs) ys → Traced fs gs s → Good fs gs (each (λ y. paired v x y) ys s)
each_minus fs gs v x [] s p a t = same_forms fs gs s t
each_minus fs gs v x (y ∷ ys) s p a t =
    then_good fs gs (paired v x y s) (each (λ y. paired v x y) ys) (paired_good fs gs v x y s p a.0 t)
    (λ more u h. each_minus fs (gs ++ more) v x ys u (nth_front gs more x.number x.body p.0, p.1) (minus_more v gs more ys a.1) h)

each_plus : (fs gs : List Form) (v : Node) (xs ys : List Made) (s : State) → AreAll (Plus v gs) xs → AreAll (Minus v gs) ys → Traced fs gs s → Good fs gs (all_paired v xs ys s)
each_plus fs gs v [] ys s a b t = same_forms fs gs s t
each_plus fs gs v (x ∷ xs) ys s a b t =
    then_good fs gs (each (λ y. paired v x y) ys s) (each (λ x. each (λ y. paired v x y) ys) xs) (each_minus fs gs v x ys s a.0 b t)
    (λ more u h. each_plus fs (gs ++ more) v xs ys u (plus_more v gs more xs a.1) (minus_more v gs more ys b) h)

-- ---- all variables

eliminate_good : (fs gs : List Form) (v : Node) (s : State) → Traced fs gs s → Good fs gs (eliminate v s)
eliminate_good fs gs v s t =
    let free = all_along (λ x. Has gs x × (is_free v x ≡ true)) (Has gs) (λ x p. p.0) (filter (is_free v) s.standing) (all_of_filter (Has gs) (is_free v) s.standing t.standing) in
    let rest : State = record s { standing = filter (is_free v) s.standing } in
    then_good fs gs (all_paired v (positives v s.standing) (negatives v s.standing) rest) (set_aside v (positives v s.standing ++ negatives v s.standing))
    (each_plus fs gs v (positives v s.standing) (negatives v s.standing) rest (all_of_filter (Has gs) (is_positive v) s.standing t.standing) (all_of_filter (Has gs) (is_negative v) s.standing t.standing) (record { inputs = t.inputs; run = t.run; count = t.count; standing = free }))
    (λ more u h. same_forms fs (gs ++ more) (record u { eliminated = aside v (map (λ x. x.body) (positives v s.standing ++ negatives v s.standing)) ∷ u.eliminated }) (record { inputs = h.inputs; run = h.run; count = h.count; standing = h.standing }))

at_good : (fs gs : List Form) (i : ℕ) (o : Option Node) (s : State) → Traced fs gs s → Good fs gs (eliminate_at i o s)
at_good fs gs i None s t = same_forms fs gs s t
at_good fs gs i (Some v) s t = eliminate_good fs gs v (record s { left = remove s.left i }) (record { inputs = t.inputs; run = t.run; count = t.count; standing = t.standing })

rounds_good : (fs gs : List Form) (n : ℕ) (s : State) → Traced fs gs s → Good fs gs (rounds n s)
rounds_good fs gs zero s t = same_forms fs gs s t
rounds_good fs gs (suc n) s t =
    then_good fs gs (eliminate_next s) (rounds n) (at_good fs gs (fewest s) (slice_get s.left (fewest s)) s t) (λ more u h. rounds_good fs (gs ++ more) n u h)

-- ---- the inputs

has_from : (gs fs : List Form) (k : ℕ) → ((i : ℕ) → nth gs (k + i) ≡ nth fs i) → AreAll (Has gs) (numbered_from k fs)
has_from gs [] k h = tt
has_from gs (f ∷ fs) k h = (ap (nth gs) (here k) ∙ h 0, has_from gs fs (suc k) (λ i. ap (nth gs) (later k i) ∙ h (suc i)))
  where
    here : (k : ℕ) → k ≡ k + 0
    here k = omega arith

    later : (k i : ℕ) → suc k + i ≡ k + suc i
    later k i = omega arith

below_from : (n k : ℕ) (fs : List Form) → k + length fs ≤ n → AreAll (λ x. x.number < n) (numbered_from k fs)
below_from n k [] h = tt
below_from n k (f ∷ fs) h = (omega arith, below_from n (suc k) fs (omega arith))

entered_good : (fs gs : List Form) (xs : List Made) (s : State) → AreAll (Has gs) xs → AreAll (λ x. x.number < length fs) xs → Traced fs gs s → Good fs gs (entered xs s)
entered_good fs gs [] s a b t = same_forms fs gs s t
entered_good fs gs (x ∷ xs) s a b t =
    let below : x.number < s.inputs = omega (arith, b.0, t.inputs) in
    then_good fs gs (appended x.body x.number s) (each (λ y. appended y.body y.number) xs) (appended_good fs gs x.body x.number s a.0 (inl below) t)
    (λ more u h. entered_good fs (gs ++ more) xs u (all_more gs more xs a.1) b.1 h)

started : (fs : List Form) (budget : ℕ) → Traced fs fs (at_start fs budget)
started fs budget = record { inputs = refl; run = refl; count = omega arith; standing = tt }

run_good : (fs : List Form) (budget : ℕ) → Good fs fs (and_then (entered (numbered_from 0 fs) (at_start fs budget)) (rounds (length (variables_of fs))))
run_good fs budget =
    then_good fs fs (entered (numbered_from 0 fs) (at_start fs budget)) (rounds (length (variables_of fs)))
    (entered_good fs fs (numbered_from 0 fs) (at_start fs budget) (has_from fs fs 0 (λ i. ap (nth fs) (from_zero i))) (below_from (length fs) 0 fs (omega arith)) (started fs budget))
    (λ more u h. rounds_good fs (fs ++ more) (length (variables_of fs)) u h)
  where
    from_zero : (i : ℕ) → 0 + i ≡ i
    from_zero i = omega arith

-- ---- the answer

no_gap : (ls : List Step) → gap ≡ refuted ls → ⊥
no_gap ls e = cc

no_wide : (ls : List Step) → wide ≡ refuted ls → ⊥
no_wide ls e = cc

no_point : (ns : List ℤ) (ls : List Step) → point ns ≡ refuted ls → ⊥
no_point ns ls e = cc

near_refutes_none : (o : Option ℤ) (f : ℤ → Answer) (ls : List Step) → ((x : ℤ) → f x ≡ refuted ls → ⊥) → with_nearest o f ≡ refuted ls → ⊥
near_refutes_none None f ls k e = no_gap ls e
near_refutes_none (Some x) f ls k e = k x e

range_refutes_none : (o : Option Range) (f : Range → Answer) (ls : List Step) → ((r : Range) → f r ≡ refuted ls → ⊥) → with_range o f ≡ refuted ls → ⊥
range_refutes_none None f ls k e = no_wide ls e
range_refutes_none (Some r) f ls k e = k r e

values_refute_none : (vs : List Node) (es : List Aside) (ks : List Known) (ls : List Step) → chosen vs es ks ≡ refuted ls → ⊥
values_refute_none vs [] ks ls e = no_point (map (value_in ks) vs) ls e
values_refute_none vs (a ∷ es) ks ls e =
    range_refutes_none (bounded_by_all a.variable ks a.forms (range None None)) (λ r. with_nearest (nearest r) (λ x. chosen vs es (ks ++ known a.variable x ∷ []))) ls
    (λ r. near_refutes_none (nearest r) (λ x. chosen vs es (ks ++ known a.variable x ∷ [])) ls (λ x. values_refute_none vs es (ks ++ known a.variable x ∷ []) ls)) e

same_lines : (ms ls : List Step) → refuted ms ≡ refuted ls → ms ≡ ls
same_lines ms ls e = cc

ended : (fs gs : List Form) (a : Answer) (b : ℕ) (ls : List Step) → Good fs gs (ends a b) → a ≡ refuted ls → Refutes fs ls
ended fs gs (refuted ms) b ls g e = subst (Refutes fs) (same_lines ms ls e) g
ended fs gs (point ns) b ls g e = cc
ended fs gs gap b ls g e = cc
ended fs gs wide b ls g e = cc
ended fs gs steps_out b ls g e = cc

pub refutations_refute : (fs : List Form) (budget : ℕ) (ls : List Step) (left : ℕ) → decide_of fs budget ≡ decided (refuted ls) left → Refutes fs ls
refutations_refute fs budget ls left e = by (and_then (entered (numbered_from 0 fs) (at_start fs budget)) (rounds (length (variables_of fs)))) (run_good fs budget) e
  where
    by : (r : Running) → Good fs fs r → finished (variables_of fs) r ≡ decided (refuted ls) left → Refutes fs ls
    by (goes_on s) g d = absurd (values_refute_none (variables_of fs) s.eliminated [] ls (ap (λ (x : Decided). x.answer) d))
    by (ends a b) g d = ended fs fs a b ls g (ap (λ (x : Decided). x.answer) d)
