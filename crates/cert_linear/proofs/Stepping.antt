-- Steps one after another, and forms that are refuted.
use Rattle.std.proofs.Common.{◌≡◌, refl, sym, ◌∙◌, ap, ℕ, zero, suc, Bool, true, false, List, [], ◌∷◌, ◌++◌, map, length, drop, get_or, ◌<◌, ◌≤◌, ◌+◌, arith, add-one, drop-cons}
use Rattle.std.specs.Prelude.{◌||◌, ◌&&◌}
use Rattle.std.proofs.lemmas.Bool.{false≢true}
use Rattle.std.proofs.Math.ListN.{drop_of_length-le}
use Rattle.linear_forms.specs.Form.{Form}
use Rattle.linear_forms.specs.View.{linear, parts}
use Rattle.linear_forms.specs.declared.form.LinearForm.{LinearForm}
use Rattle.linear_forms.specs.declared.form.Part.{Part}
use Rattle.cert_lines.specs.View.{step}
use Rattle.cert_lines.specs.declared.step.StepLine.{StepLine}
use Rattle.cert_rules.specs.Judged.{Judged, yields, and_then}
use Rattle.cert_rules.specs.Linear.{stepped, run_steps, has_no_monomials, is_negative_constant, some_is_negative, last_is_negative, refuted}
use Rattle.cert_rules.specs.Judges.{IsFault}
use Rattle.cert_rules.specs.declared.fault.LineFault.{LineFault}
use Rattle.cert_linear.specs.Here.{forms}
use Rattle.cert_linear.proofs.Faults.{fault_then, fault_same}
use Rattle.cert_linear.proofs.Gathered.{form_more}

-- with these forms i steps are taken
pub record Taken (start : List Form) (ss : List StepLine) (i : ℕ) (fs : List Form) : Type 0 where
  pub so : run_steps start (map step ss) ≡ run_steps fs (map step (drop i ss))

pub taken_none : (start : List Form) (ss : List StepLine) → Taken start ss 0 start
taken_none start ss = record { so = refl }

module _ (start : List Form) (ss : List StepLine) (i : ℕ) (fs : List LinearForm) (t : Taken start ss i (forms fs)) where
  next : (s : StepLine) → i < length ss → s ≡ get_or ss i s → run_steps start (map step ss) ≡ and_then (stepped (forms fs) (step s)) (λ f. run_steps (forms fs ++ f ∷ []) (map step (drop (i + 1) ss)))
  next s h e =
      let cut : drop i ss ≡ get_or ss i s ∷ drop (i + 1) ss = rw (add-one, drop-cons ss i s) in
      t.so ∙ ap (λ (xs : List StepLine). run_steps (forms fs) (map step xs)) (cut ∙ ap (λ (x : StepLine). x ∷ drop (i + 1) ss) (sym e))

  pub taken_fault : (s : StepLine) (e : LineFault) → i < length ss → s ≡ get_or ss i s → IsFault e (stepped (forms fs) (step s)) → IsFault e (run_steps start (map step ss))
  taken_fault s e h is f = fault_same e _ _ (next s h is) (fault_then e (stepped (forms fs) (step s)) _ f)

  pub taken_more : (s : StepLine) (f : LinearForm) → i < length ss → s ≡ get_or ss i s → stepped (forms fs) (step s) ≡ yields (linear f) → Taken start ss (i + 1) (forms (fs ++ f ∷ []))
  taken_more s f h is y = record {
    so = next s h is ∙ ap (λ (j : Judged Form). and_then j (λ g. run_steps (forms fs ++ g ∷ []) (map step (drop (i + 1) ss)))) y
        ∙ ap (λ (gs : List Form). run_steps gs (map step (drop (i + 1) ss))) (sym (form_more fs f));
  }

  pub taken_all : length ss ≤ i → run_steps start (map step ss) ≡ yields (forms fs)
  taken_all h = t.so ∙ ap (λ (xs : List StepLine). run_steps (forms fs) (map step xs)) (drop_of_length-le ss h)

-- ---- negative constants

pub record Passed (fs : List LinearForm) (i : ℕ) : Type 0 where
  pub so : some_is_negative (forms fs) ≡ some_is_negative (forms (drop i fs))

pub passed_none : (fs : List LinearForm) → Passed fs 0
passed_none fs = record { so = refl }

module _ (fs : List LinearForm) (i : ℕ) (p : Passed fs i) where
  at_form : (f : LinearForm) → i < length fs → f ≡ get_or fs i f → some_is_negative (forms fs) ≡ (is_negative_constant (linear f) || some_is_negative (forms (drop (i + 1) fs)))
  at_form f h e =
      let cut : drop i fs ≡ get_or fs i f ∷ drop (i + 1) fs = rw (add-one, drop-cons fs i f) in
      p.so ∙ ap (λ (xs : List LinearForm). some_is_negative (forms xs)) (cut ∙ ap (λ (x : LinearForm). x ∷ drop (i + 1) fs) (sym e))

  pub passed_here : (f : LinearForm) (b : Bool) → i < length fs → f ≡ get_or fs i f → b ≡ is_negative_constant (linear f) → b ≡ true → true ≡ some_is_negative (forms fs)
  passed_here f b h e is t = sym (at_form f h e ∙ ap (λ (c : Bool). c || some_is_negative (forms (drop (i + 1) fs))) (sym is ∙ t))

  pub passed_more : (f : LinearForm) (b : Bool) → i < length fs → f ≡ get_or fs i f → b ≡ is_negative_constant (linear f) → b ≡ false → Passed fs (i + 1)
  passed_more f b h e is t = record { so = at_form f h e ∙ ap (λ (c : Bool). c || some_is_negative (forms (drop (i + 1) fs))) (sym is ∙ t) }

  pub passed_all : length fs ≤ i → false ≡ some_is_negative (forms fs)
  passed_all h = sym (p.so ∙ ap (λ (xs : List LinearForm). some_is_negative (forms xs)) (drop_of_length-le fs h))

-- whether the last form is a negative constant
pub last_is : (fs : List LinearForm) (k : ℕ) (f : LinearForm) → k + 1 ≡ length fs → f ≡ get_or fs k f → is_negative_constant (linear f) ≡ last_is_negative (forms fs)
last_is [] k f l e = absurd (omega arith)
last_is (g ∷ []) zero f l e = ap (λ (x : LinearForm). is_negative_constant (linear x)) e
last_is (g ∷ []) (suc k) f l e = absurd (omega arith)
last_is (g ∷ h ∷ fs) zero f l e = absurd (omega arith)
last_is (g ∷ h ∷ fs) (suc k) f l e = last_is (h ∷ fs) k f (omega arith) e

-- a form with monomials is no constant
pub no_constant : (ps : List Part) (b : Bool) → (ps ≡ [] → false ≡ true) → false ≡ (has_no_monomials (parts ps) && b)
no_constant [] b n = absurd (false≢true (n refl))
no_constant (p ∷ ps) b n = refl

-- with steps the last form decides
pub some_steps : (ss : List StepLine) (fs : List Form) → (ss ≡ [] → false ≡ true) → last_is_negative fs ≡ refuted (map step ss) fs
some_steps [] fs n = absurd (false≢true (n refl))
some_steps (s ∷ ss) fs n = refl
