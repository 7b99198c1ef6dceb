-- Rule C4: sums of linear forms.
use Rattle.std.proofs.Common.{◌≡◌, refl, sym, ◌∙◌, ap, subst, ℕ, zero, suc, inl, inr, Bool, true, false, not, ◌&&◌, List, [], ◌∷◌, ◌++◌, arith, ℤ, pos, negsuc, ◌+ℤ◌, ◌-ℤ◌, ◌*ℤ◌, ◌*◌, ◌≤ℤ◌}
use Rattle.std.proofs.lemmas.Bool.{and_parts, or_cases, or_parts, true_from_ne_false, false≢true}
use Rattle.std.proofs.lemmas.Int.{ints}
use Rattle.std.proofs.Math.IntN.{pos-*ℤ-pos}
use Rattle.std.specs.Prelude.{int_le, int_lt}
use Rattle.logic_terms.specs.Node.{neg, le, eq, Node, op1, op2}
use Rattle.logic_terms.specs.Value.{as_number}
use Rattle.logic_terms.specs.Sorting.{IsWorldOf}
use Rattle.logic_terms.specs.Meaning.{World, meaning, holds}
use Rattle.logic_terms.specs.Binding.{negated}
use Rattle.linear_forms.specs.Form.{Form, Monomial, form_value, form_of_node, combined, tightened}
use Rattle.linear_forms.specs.Fits.{node_fits, combining_fits}
use Rattle.linear_forms.proofs.Values.{combined_value}
use Rattle.linear_forms.proofs.Terms.{node_value}
use Rattle.linear_forms.proofs.Tightening.{tightened_solutions}
use Rattle.cert_lines.specs.Line.{Step, sum_of, tighten, linear}
use Rattle.cert_rules.specs.Judged.{Judged, yields, refused, too_wide, and_then, when, fitting}
use Rattle.cert_rules.specs.Context.{Context, signature, next_symbol, is_number, all_formulas}
use Rattle.cert_rules.specs.Clause.{clause_holds}
use Rattle.cert_rules.specs.Linear.{minus, terms_of, forms_of_terms, forms_of, form_at, stepped, run_steps, has_no_monomials, is_negative_constant, some_is_negative, last_is_negative, refuted, linear_clause}
use Rattle.cert_rules.specs.Rules.{judge}
use Rattle.cert_rules.proofs.NumberedClauses.{IsSound, when_sound}
use Rattle.cert_rules.proofs.Opposite.{holds-negated}
use Rattle.cert_rules.proofs.Values.{same_value-is}
use Rattle.cert_rules.proofs.Sorting.{formulas_below}

-- ---- what is yielded

abbrev IfYields : {A : Type 0} → (A → Type 0) → Judged A → Type 0
IfYields P (yields a) = P a
IfYields P refused = Unit {0}
IfYields P too_wide = Unit {0}

then-yields : {A B : Type 0} (P : A → Type 0) (Q : B → Type 0) (x : Judged A) (f : A → Judged B) → IfYields P x → ((a : A) → P a → IfYields Q (f a)) → IfYields Q (and_then x f)
then-yields P Q (yields a) f h g = g a h
then-yields P Q refused f h g = tt
then-yields P Q too_wide f h g = tt

when-yields : {A : Type 0} (P : A → Type 0) (b : Bool) (x : Judged A) → (b ≡ true → IfYields P x) → IfYields P (when b x)
when-yields P true x h = h refl
when-yields P false x h = tt

fitting-yields : {A : Type 0} (P : A → Type 0) (b : Bool) (a : A) → P a → IfYields P (fitting b a)
fitting-yields P true a h = h
fitting-yields P false a h = tt

-- ---- terms and forms that are at least 0

module _ (w : World) where
  abbrev IsTermAtLeast0 : Node → Type 0
  IsTermAtLeast0 t = pos 0 ≤ℤ as_number (meaning w [] t)

  abbrev IsAtLeast0 : Form → Type 0
  IsAtLeast0 f = pos 0 ≤ℤ form_value w [] f

  abbrev TermsHold : List Node → Type 0
  TermsHold [] = Unit {0}
  TermsHold (t ∷ ts) = IsTermAtLeast0 t × TermsHold ts

  abbrev FormsHold : List Form → Type 0
  FormsHold [] = Unit {0}
  FormsHold (f ∷ fs) = IsAtLeast0 f × FormsHold fs

  both-hold : (fs gs : List Form) → FormsHold fs → FormsHold gs → FormsHold (fs ++ gs)
  both-hold [] gs h i = i
  both-hold (f ∷ fs) gs h i = (h.0, both-hold fs gs h.1 i)

-- ---- the terms of a formula

no_less : (x y : ℤ) → int_le x y ≡ true → pos 0 ≤ℤ (y -ℤ x)
no_less x y h = grind (arith, ints, h)

is_more : (x y : ℤ) → not (int_le x y) ≡ true → pos 0 ≤ℤ ((x -ℤ y) -ℤ pos 1)
is_more x y h = grind (arith, ints, h)

equal_up : (x y : ℤ) → x ≡ y → pos 0 ≤ℤ (y -ℤ x)
equal_up x y e = omega (arith, ints)

equal_down : (x y : ℤ) → x ≡ y → pos 0 ≤ℤ (x -ℤ y)
equal_down x y e = omega (arith, ints)

terms-hold : (c : Context) (w : World) (p : Node) → holds w [] p ≡ true → IfYields (TermsHold w) (terms_of c p)
terms-hold c w (op2 le a b) h = (no_less (as_number (meaning w [] a)) (as_number (meaning w [] b)) h, tt)
terms-hold c w (op1 neg (op2 le a b)) h = (is_more (as_number (meaning w [] a)) (as_number (meaning w [] b)) h, tt)
terms-hold c w (op2 eq a b) h =
    when-yields (TermsHold w) (is_number c a) (yields (minus b a ∷ minus a b ∷ [])) (λ _.
    let e = ap as_number (same_value-is (meaning w [] a) (meaning w [] b) h) in (equal_up _ _ e, (equal_down _ _ e, tt)))
terms-hold c w _ h = tt

form-holds : (w : World) (t : Node) → IsTermAtLeast0 w t → IsAtLeast0 w (form_of_node t)
form-holds w t h = subst (λ (x : ℤ). pos 0 ≤ℤ x) (sym (node_value w [] t)) h

forms_of_terms-hold : (w : World) (ts : List Node) → TermsHold w ts → IfYields (FormsHold w) (forms_of_terms ts)
forms_of_terms-hold w [] h = tt
forms_of_terms-hold w (t ∷ ts) h =
    then-yields (IsAtLeast0 w) (FormsHold w) (fitting (node_fits t) (form_of_node t)) (λ f. and_then (forms_of_terms ts) (λ fs. yields (f ∷ fs)))
    (fitting-yields (IsAtLeast0 w) (node_fits t) (form_of_node t) (form-holds w t h.0)) (λ f i.
    then-yields (FormsHold w) (FormsHold w) (forms_of_terms ts) (λ fs. yields (f ∷ fs)) (forms_of_terms-hold w ts h.1) (λ fs j. (i, j)))

forms_of-hold : (c : Context) (w : World) (ps : List Node) → clause_holds w ps ≡ false → IfYields (FormsHold w) (forms_of c ps)
forms_of-hold c w [] h = tt
forms_of-hold c w (p ∷ ps) h =
    let e = or_parts (holds w [] p) (clause_holds w ps) h in
    then-yields (TermsHold w) (FormsHold w) (terms_of c (negated p)) (λ ts. and_then (forms_of_terms ts) (λ fs. and_then (forms_of c ps) (λ gs. yields (fs ++ gs))))
    (terms-hold c w (negated p) (holds-negated w [] p ∙ ap not e.0)) (λ ts i.
    then-yields (FormsHold w) (FormsHold w) (forms_of_terms ts) (λ fs. and_then (forms_of c ps) (λ gs. yields (fs ++ gs)))
    (forms_of_terms-hold w ts i) (λ fs j.
    then-yields (FormsHold w) (FormsHold w) (forms_of c ps) (λ gs. yields (fs ++ gs))
    (forms_of-hold c w ps e.1) (λ gs k. both-hold w fs gs j k)))

-- ---- steps

form_at-holds : (w : World) (fs : List Form) (i : ℕ) → FormsHold w fs → IfYields (IsAtLeast0 w) (form_at fs i)
form_at-holds w [] i h = tt
form_at-holds w (f ∷ fs) zero h = h.0
form_at-holds w (f ∷ fs) (suc i) h = form_at-holds w fs i h.1

sum_at_least : (x y : ℤ) (m n : ℕ) → x ≡ pos m → y ≡ pos n → pos 0 ≤ℤ (x +ℤ y)
sum_at_least x y m n e f = omega (arith, ints)

no_negative : (n : ℕ) → pos 0 ≤ℤ negsuc n → ⊥
no_negative n h = omega (arith, ints)

scaled_sum : (m a k b : ℤ) → int_le (pos 1) m ≡ true → int_le (pos 1) k ≡ true → pos 0 ≤ℤ a → pos 0 ≤ℤ b → pos 0 ≤ℤ ((m *ℤ a) +ℤ (k *ℤ b))
scaled_sum (pos m) (pos a) (pos k) (pos b) e f g h = sum_at_least _ _ (m * a) (k * b) (pos-*ℤ-pos m a) (pos-*ℤ-pos k b)
scaled_sum (negsuc m) a k b e f g h = absurd (false≢true e)
scaled_sum (pos m) a (negsuc k) b e f g h = absurd (false≢true f)
scaled_sum (pos m) (negsuc a) (pos k) b e f g h = absurd (no_negative a g)
scaled_sum (pos m) (pos a) (pos k) (negsuc b) e f g h = absurd (no_negative b h)

combined-holds : (w : World) (m : ℤ) (f : Form) (k : ℤ) (g : Form) → int_le (pos 1) m ≡ true → int_le (pos 1) k ≡ true → IsAtLeast0 w f → IsAtLeast0 w g → IsAtLeast0 w (combined m f k g)
combined-holds w m f k g d e i j =
    subst (λ (x : ℤ). pos 0 ≤ℤ x) (sym (combined_value w [] m f k g)) (scaled_sum m (form_value w [] f) k (form_value w [] g) d e i j)

stepped-holds : (w : World) (fs : List Form) (s : Step) → FormsHold w fs → IfYields (IsAtLeast0 w) (stepped fs s)
stepped-holds w fs (sum_of i m j k) h =
    when-yields (IsAtLeast0 w) (int_le (pos 1) m && int_le (pos 1) k) (and_then (form_at fs i) (λ f. and_then (form_at fs j) (λ g. fitting (combining_fits m f k g) (combined m f k g)))) (λ b.
    let p = and_parts (int_le (pos 1) m) (int_le (pos 1) k) b in
    then-yields (IsAtLeast0 w) (IsAtLeast0 w) (form_at fs i) (λ f. and_then (form_at fs j) (λ g. fitting (combining_fits m f k g) (combined m f k g)))
    (form_at-holds w fs i h) (λ f d.
    then-yields (IsAtLeast0 w) (IsAtLeast0 w) (form_at fs j) (λ g. fitting (combining_fits m f k g) (combined m f k g))
    (form_at-holds w fs j h) (λ g e.
    fitting-yields (IsAtLeast0 w) (combining_fits m f k g) (combined m f k g) (combined-holds w m f k g p.0 p.1 d e))))
stepped-holds w fs (tighten i) h =
    then-yields (IsAtLeast0 w) (IsAtLeast0 w) (form_at fs i) (λ f. yields (tightened f)) (form_at-holds w fs i h) (λ f d. (tightened_solutions w [] f).0 d)

steps-hold : (w : World) (ss : List Step) (fs : List Form) → FormsHold w fs → IfYields (FormsHold w) (run_steps fs ss)
steps-hold w [] fs h = h
steps-hold w (s ∷ ss) fs h =
    then-yields (IsAtLeast0 w) (FormsHold w) (stepped fs s) (λ f. run_steps (fs ++ f ∷ []) ss) (stepped-holds w fs s h) (λ f i.
    steps-hold w ss (fs ++ f ∷ []) (both-hold w fs (f ∷ []) h (i, tt)))

-- ---- the end

below_0 : (z : ℤ) → int_lt z (pos 0) ≡ true → pos 0 ≤ℤ (z +ℤ pos 0) → ⊥
below_0 z h i = grind (arith, ints, h, i)

negative-by : (w : World) (z : ℤ) (ms : List Monomial) → (has_no_monomials ms && int_lt z (pos 0)) ≡ true → IsAtLeast0 w (record { constant = z; monomials = ms }) → ⊥
negative-by w z [] h i = below_0 z h i
negative-by w z (m ∷ ms) h i = false≢true h

negative-not : (w : World) (f : Form) → is_negative_constant f ≡ true → IsAtLeast0 w f → ⊥
negative-not w f h i = negative-by w f.constant f.monomials h i

some-not : (w : World) (fs : List Form) → some_is_negative fs ≡ true → FormsHold w fs → ⊥
some-not w [] h i = false≢true h
some-not w (f ∷ fs) h i =
    elim (or_cases (is_negative_constant f) (some_is_negative fs) h) [ inl e ↦ negative-not w f e i.0 | inr e ↦ some-not w fs e i.1 ]

last-not : (w : World) (fs : List Form) → last_is_negative fs ≡ true → FormsHold w fs → ⊥
last-not w [] h i = false≢true h
last-not w (f ∷ []) h i = negative-not w f h i.0
last-not w (f ∷ g ∷ fs) h i = last-not w (g ∷ fs) h i.1

refuted-not : (w : World) (ss : List Step) (fs : List Form) → refuted ss fs ≡ true → FormsHold w fs → ⊥
refuted-not w [] fs h i = some-not w fs h i
refuted-not w (s ∷ ss) fs h i = last-not w fs h i

-- what is yielded in two steps, where each can be taken as known
then-sound : {A : Type 0} (w : World) (d : ℕ) (x : Judged A) (f : A → Judged (List Node)) → ((a : A) → x ≡ yields a → IsSound w d (f a)) → IsSound w d (and_then x f)
then-sound w d (yields a) f h = h a refl
then-sound w d refused f h = tt
then-sound w d too_wide f h = tt

clause-holds : (c : Context) (w : World) (ps : List Node) (ss : List Step) (fs gs : List Form) → forms_of c ps ≡ yields fs → run_steps fs ss ≡ yields gs → refuted ss gs ≡ true → clause_holds w ps ≡ true
clause-holds c w ps ss fs gs e f r =
    true_from_ne_false (clause_holds w ps) (λ no.
    let i : FormsHold w fs = subst (IfYields (FormsHold w)) e (forms_of-hold c w ps no) in
    let j : FormsHold w gs = subst (IfYields (FormsHold w)) f (steps-hold w ss fs i) in
    refuted-not w ss gs r j)

pub linear-sound : (c : Context) (w : World) → IsWorldOf (signature c) w → (ps : List Node) (ss : List Step) → IsSound w (next_symbol c) (judge c (linear ps ss))
linear-sound c w fits ps ss =
    when_sound w (next_symbol c) (all_formulas c ps) (linear_clause c ps ss) (λ a.
    then-sound w (next_symbol c) (forms_of c ps) (λ fs. and_then (run_steps fs ss) (λ gs. when (refuted ss gs) (yields ps))) (λ fs e.
    then-sound w (next_symbol c) (run_steps fs ss) (λ gs. when (refuted ss gs) (yields ps)) (λ gs f.
    when_sound w (next_symbol c) (refuted ss gs) (yields ps) (λ r.
    (clause-holds c w ps ss fs gs e f r, formulas_below c ps a)))))
