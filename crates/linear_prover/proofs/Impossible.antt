-- Forms that lines refute are not all at least 0 in any world.
use Rattle.std.proofs.Common.{◌≡◌, refl, sym, subst, ℕ, zero, suc, ◌*◌, Bool, true, false, List, [], ◌∷◌, ◌++◌, arith}
use Rattle.std.specs.Prelude.{◌&&◌, ◌||◌, ℤ, pos, negsuc, ◌+ℤ◌, ◌*ℤ◌, ◌≤ℤ◌, int_le, int_lt, Option, Some, None}
use Rattle.std.proofs.lemmas.Int.{ints}
use Rattle.std.proofs.lemmas.Bool.{and_parts, false≢true}
use Rattle.std.proofs.Math.IntN.{pos-*ℤ-pos}
use Rattle.logic_terms.specs.Sorting.{nth}
use Rattle.logic_terms.specs.Value.{Value}
use Rattle.logic_terms.specs.Meaning.{World}
use Rattle.linear_forms.specs.Form.{Monomial, Form, form, form_value, combined, tightened}
use Rattle.linear_forms.specs.Fits.{combining_fits}
use Rattle.linear_forms.proofs.Values.{combined_value}
use Rattle.linear_forms.proofs.Tightening.{tightened_solutions}
use Rattle.cert_lines.specs.Line.{Step, sum_of, tighten}
use Rattle.cert_rules.specs.Judged.{Judged, yields, refused, too_wide, and_then, when, fitting}
use Rattle.cert_rules.specs.Linear.{found_form, stepped, run_steps, has_no_monomials, is_negative_constant, some_is_negative, last_is_negative, refuted}
use Rattle.linear_prover.specs.Points.{AreAll, IsAtLeastZero}
use Rattle.linear_prover.specs.Refuting.{Refutes}
use Rattle.linear_prover.proofs.Holding.{all_append}
use Rattle.linear_prover.proofs.Pruning.{not_refused, not_wide}

-- ---- sums

no_negative : (n : ℕ) → pos 0 ≤ℤ negsuc n → ⊥
no_negative n h = omega (arith, ints)

sum_of_two : (x y : ℤ) (m n : ℕ) → x ≡ pos m → y ≡ pos n → pos 0 ≤ℤ (x +ℤ y)
sum_of_two x y m n e f = omega (arith, ints)

scaled_sum : (m a k b : ℤ) → int_le (pos 1) m ≡ true → int_le (pos 1) k ≡ true → pos 0 ≤ℤ a → pos 0 ≤ℤ b → pos 0 ≤ℤ ((m *ℤ a) +ℤ (k *ℤ b))
scaled_sum (pos m) (pos a) (pos k) (pos b) e f g h = sum_of_two _ _ (m * a) (k * b) (pos-*ℤ-pos m a) (pos-*ℤ-pos k b)
scaled_sum (negsuc m) a k b e f g h = absurd (false≢true e)
scaled_sum (pos m) a (negsuc k) b e f g h = absurd (false≢true f)
scaled_sum (pos m) (negsuc a) (pos k) b e f g h = absurd (no_negative a g)
scaled_sum (pos m) (pos a) (pos k) (negsuc b) e f g h = absurd (no_negative b h)

combined_holds : (w : World) (vs : List Value) (m : ℤ) (f : Form) (k : ℤ) (g : Form) → int_le (pos 1) m ≡ true → int_le (pos 1) k ≡ true → IsAtLeastZero w vs f → IsAtLeastZero w vs g → IsAtLeastZero w vs (combined m f k g)
combined_holds w vs m f k g d e i j =
    subst (λ (x : ℤ). pos 0 ≤ℤ x) (sym (combined_value w vs m f k g)) (scaled_sum m (form_value w vs f) k (form_value w vs g) d e i j)

-- ---- a step

some_form : (f g : Form) → Some f ≡ Some g → f ≡ g
some_form f g e = cc

yielded_form : (f g : Form) → yields f ≡ yields g → f ≡ g
yielded_form f g e = cc

form_holds : (w : World) (vs : List Value) (fs : List Form) (i : ℕ) (f : Form) → AreAll (IsAtLeastZero w vs) fs → nth fs i ≡ Some f → IsAtLeastZero w vs f
form_holds w vs [] i f a e = cc
form_holds w vs (g ∷ fs) zero f a e = subst (IsAtLeastZero w vs) (some_form g f e) a.0
form_holds w vs (g ∷ fs) (suc i) f a e = form_holds w vs fs i f a.1 e

fitting_holds : (b : Bool) (w : World) (vs : List Value) (f g : Form) → IsAtLeastZero w vs f → fitting b f ≡ yields g → IsAtLeastZero w vs g
fitting_holds true w vs f g h e = subst (IsAtLeastZero w vs) (yielded_form f g e) h
fitting_holds false w vs f g h e = not_wide g e

sum_holds : (b : Bool) (w : World) (vs : List Value) (p q : Option Form) (m k : ℤ) (f : Form) → (b ≡ true → (int_le (pos 1) m ≡ true) × (int_le (pos 1) k ≡ true)) → ((g : Form) → p ≡ Some g → IsAtLeastZero w vs g) → ((g : Form) → q ≡ Some g → IsAtLeastZero w vs g) → when b (and_then (found_form p) (λ x. and_then (found_form q) (λ y. fitting (combining_fits m x k y) (combined m x k y)))) ≡ yields f → IsAtLeastZero w vs f
sum_holds true w vs (Some x) (Some y) m k f l i j e =
    let n = l refl in fitting_holds (combining_fits m x k y) w vs (combined m x k y) f (combined_holds w vs m x k y n.0 n.1 (i x refl) (j y refl)) e
sum_holds true w vs (Some x) None m k f l i j e = not_refused f e
sum_holds true w vs None q m k f l i j e = not_refused f e
sum_holds false w vs p q m k f l i j e = not_refused f e

tighten_holds : (w : World) (vs : List Value) (p : Option Form) (f : Form) → ((g : Form) → p ≡ Some g → IsAtLeastZero w vs g) → and_then (found_form p) (λ x. yields (tightened x)) ≡ yields f → IsAtLeastZero w vs f
tighten_holds w vs (Some x) f i e = subst (IsAtLeastZero w vs) (yielded_form (tightened x) f e) ((tightened_solutions w vs x).0 (i x refl))
tighten_holds w vs None f i e = not_refused f e

step_holds : (w : World) (vs : List Value) (fs : List Form) (s : Step) (f : Form) → AreAll (IsAtLeastZero w vs) fs → stepped fs s ≡ yields f → IsAtLeastZero w vs f
step_holds w vs fs (sum_of i m j k) f a e =
    sum_holds (int_le (pos 1) m && int_le (pos 1) k) w vs (nth fs i) (nth fs j) m k f (and_parts _ _) (λ g. form_holds w vs fs i g a) (λ g. form_holds w vs fs j g a) e
step_holds w vs fs (tighten i) f a e = tighten_holds w vs (nth fs i) f (λ g. form_holds w vs fs i g a) e

-- ---- the run

judged_holds : (j : Judged Form) (w : World) (vs : List Value) (fs gs : List Form) (ss : List Step) → ((f : Form) → j ≡ yields f → run_steps (fs ++ f ∷ []) ss ≡ yields gs → AreAll (IsAtLeastZero w vs) gs) → and_then j (λ f. run_steps (fs ++ f ∷ []) ss) ≡ yields gs → AreAll (IsAtLeastZero w vs) gs
judged_holds (yields f) w vs fs gs ss k e = k f refl e
judged_holds refused w vs fs gs ss k e = not_refused gs e
judged_holds too_wide w vs fs gs ss k e = not_wide gs e

yielded : (xs ys : List Form) → yields xs ≡ yields ys → xs ≡ ys
yielded xs ys e = cc

run_holds : (w : World) (vs : List Value) (ss : List Step) (fs gs : List Form) → AreAll (IsAtLeastZero w vs) fs → run_steps fs ss ≡ yields gs → AreAll (IsAtLeastZero w vs) gs
run_holds w vs [] fs gs a e = subst (AreAll (IsAtLeastZero w vs)) (yielded fs gs e) a
run_holds w vs (s ∷ ss) fs gs a e =
    judged_holds (stepped fs s) w vs fs gs ss
    (λ f t u. run_holds w vs ss (fs ++ f ∷ []) gs (all_append (IsAtLeastZero w vs) fs (f ∷ []) a (step_holds w vs fs s f a t, tt)) u) e

-- ---- the end

below_zero : (z : ℤ) → int_lt z (pos 0) ≡ true → pos 0 ≤ℤ (z +ℤ pos 0) → ⊥
below_zero z h i = grind (arith, ints, h, i)

negative_by : (w : World) (vs : List Value) (z : ℤ) (ms : List Monomial) → (has_no_monomials ms && int_lt z (pos 0)) ≡ true → IsAtLeastZero w vs (form z ms) → ⊥
negative_by w vs z [] h i = below_zero z h i
negative_by w vs z (m ∷ ms) h i = false≢true h

either : (b c : Bool) (P : Type 0) → (b ≡ true → P) → (c ≡ true → P) → (b || c) ≡ true → P
either true c P f g h = f refl
either false c P f g h = g h

some_negative : (w : World) (vs : List Value) (fs : List Form) → some_is_negative fs ≡ true → AreAll (IsAtLeastZero w vs) fs → ⊥
some_negative w vs [] h a = false≢true h
some_negative w vs (f ∷ fs) h a =
    either (is_negative_constant f) (some_is_negative fs) ⊥ (λ e. negative_by w vs f.constant f.monomials e a.0) (λ e. some_negative w vs fs e a.1) h

last_negative : (w : World) (vs : List Value) (fs : List Form) → last_is_negative fs ≡ true → AreAll (IsAtLeastZero w vs) fs → ⊥
last_negative w vs [] h a = false≢true h
last_negative w vs (f ∷ []) h a = negative_by w vs f.constant f.monomials h a.0
last_negative w vs (f ∷ g ∷ fs) h a = last_negative w vs (g ∷ fs) h a.1

none_hold : (w : World) (vs : List Value) (ss : List Step) (fs : List Form) → refuted ss fs ≡ true → AreAll (IsAtLeastZero w vs) fs → ⊥
none_hold w vs [] fs h a = some_negative w vs fs h a
none_hold w vs (s ∷ ss) fs h a = last_negative w vs fs h a

pub impossible : (fs : List Form) (ls : List Step) → Refutes fs ls → (w : World) (vs : List Value) → AreAll (IsAtLeastZero w vs) fs → ⊥
impossible fs ls r w vs a = none_hold w vs ls r.forms r.negative (run_holds w vs ls fs r.forms a r.run)
