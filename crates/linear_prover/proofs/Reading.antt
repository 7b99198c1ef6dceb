-- The steps of loops over monomials and variables.
use Rattle.std.proofs.Common.{◌≡◌, ◌≢◌, refl, sym, ◌∙◌, ap, ap₂, ℕ, suc, ◌+◌, ◌<◌, ◌≤◌, Bool, true, false, List, [], ◌∷◌, ◌++◌, map, length, get_or, drop, arith}
use Rattle.std.specs.Prelude.{if◌then◌else◌, ◌&&◌, ◌||◌, ℤ, pos}
use Rattle.std.proofs.lemmas.List.{drop_all}
use Rattle.logic_terms.specs.Node.{Node}
use Rattle.logic_terms.specs.View.{term}
use Rattle.logic_terms.specs.declared.syntax.Term.{Term}
use Rattle.logic_terms.specs.Value.{same_int}
use Rattle.logic_terms.specs.Same.{same_node}
use Rattle.linear_forms.specs.Form.{Form}
use Rattle.linear_forms.specs.View.{parts, linear}
use Rattle.linear_forms.specs.declared.form.Part.{Part}
use Rattle.linear_forms.specs.declared.form.LinearForm.{LinearForm}
use Rattle.linear_prover.specs.Machine.{repeats}
use Rattle.linear_prover.specs.View.{made_of}
use Rattle.linear_prover.specs.declared.machine.MadeForm.{MadeForm}
use Rattle.linear_prover.specs.Forms.{coefficient, same_form, same_monomials, stands, with_variables, with_all_variables}
use Rattle.linear_prover.proofs.Steps.{dropped, at_next, at_end, if_true, if_false}

pub or_false : (b c : Bool) → b ≡ false → (b || c) ≡ c
or_false b c e = ap (λ (x : Bool). x || c) e

pub or_true : (b c : Bool) → b ≡ true → (b || c) ≡ true
or_true b c e = ap (λ (x : Bool). x || c) e

pub and_true : (b c : Bool) → b ≡ true → (b && c) ≡ c
and_true b c e = ap (λ (x : Bool). x && c) e

pub and_false : (b c : Bool) → b ≡ false → (b && c) ≡ false
and_false b c e = ap (λ (x : Bool). x && c) e

-- ---- coefficients

pub coefficient_next : (v : Node) (ps : List Part) (i : ℕ) (p : Part) (w : ℤ) → i < length ps → p ≡ get_or ps i p → same_node v (term p.variable) ≡ false → coefficient v (parts (drop i ps)) ≡ w → coefficient v (parts (drop (i + 1) ps)) ≡ w
coefficient_next v ps i p w h e t k = sym (if_false _ _ _ t) ∙ at_next (λ (qs : List Part). coefficient v (parts qs)) ps i p w h e k

pub coefficient_here : (v : Node) (ps : List Part) (i : ℕ) (p : Part) (w : ℤ) → i < length ps → p ≡ get_or ps i p → same_node v (term p.variable) ≡ true → coefficient v (parts (drop i ps)) ≡ w → p.coefficient ≡ w
coefficient_here v ps i p w h e t k = sym (if_true _ _ _ t) ∙ at_next (λ (qs : List Part). coefficient v (parts qs)) ps i p w h e k

pub coefficient_none : (v : Node) (ps : List Part) (i : ℕ) (w : ℤ) → length ps ≤ i → coefficient v (parts (drop i ps)) ≡ w → pos 0 ≡ w
coefficient_none v ps i w h k = at_end (λ (qs : List Part). coefficient v (parts qs)) ps i w h k

-- ---- equality

same_at : (ps qs : List Part) (i : ℕ) (p q : Part) (w : Bool) → i < length ps → length ps ≡ length qs → p ≡ get_or ps i p → q ≡ get_or qs i q → same_monomials (parts (drop i ps)) (parts (drop i qs)) ≡ w → same_monomials (parts (p ∷ drop (i + 1) ps)) (parts (q ∷ drop (i + 1) qs)) ≡ w
same_at ps qs i p q w h l e f k =
    ap₂ (λ (xs ys : List Part). same_monomials (parts xs) (parts ys)) (sym (dropped ps i p h e)) (sym (dropped qs i q (omega arith) f)) ∙ k

pub same_next : (ps qs : List Part) (i : ℕ) (p q : Part) (w : Bool) → i < length ps → length ps ≡ length qs → p ≡ get_or ps i p → q ≡ get_or qs i q → (same_int p.coefficient q.coefficient && same_node (term p.variable) (term q.variable)) ≡ true → same_monomials (parts (drop i ps)) (parts (drop i qs)) ≡ w → same_monomials (parts (drop (i + 1) ps)) (parts (drop (i + 1) qs)) ≡ w
same_next ps qs i p q w h l e f t k = sym (and_true _ _ t) ∙ same_at ps qs i p q w h l e f k

pub same_differ : (ps qs : List Part) (i : ℕ) (p q : Part) (w : Bool) → i < length ps → length ps ≡ length qs → p ≡ get_or ps i p → q ≡ get_or qs i q → (same_int p.coefficient q.coefficient && same_node (term p.variable) (term q.variable)) ≡ false → same_monomials (parts (drop i ps)) (parts (drop i qs)) ≡ w → false ≡ w
same_differ ps qs i p q w h l e f t k = sym (and_false _ _ t) ∙ same_at ps qs i p q w h l e f k

pub same_end : (ps qs : List Part) (i : ℕ) (w : Bool) → length ps ≤ i → length ps ≡ length qs → same_monomials (parts (drop i ps)) (parts (drop i qs)) ≡ w → true ≡ w
same_end ps qs i w h l k =
    ap₂ (λ (xs ys : List Part). same_monomials (parts xs) (parts ys)) (sym (drop_all i ps h)) (sym (drop_all i qs (omega arith))) ∙ k

and_none : (b c : Bool) → c ≡ false → (b && c) ≡ false
and_none true c e = e
and_none false c e = refl

pub lengths_differ : (ps qs : List Part) → length ps ≢ length qs → same_monomials (parts ps) (parts qs) ≡ false
lengths_differ [] [] h = absurd (h refl)
lengths_differ [] (q ∷ qs) h = refl
lengths_differ (p ∷ ps) [] h = refl
lengths_differ (p ∷ ps) (q ∷ qs) h = and_none _ _ (lengths_differ ps qs (λ e. h (ap suc e)))

-- ---- variables

pub stands_next : (v : Node) (us : List Term) (i : ℕ) (u : Term) (w : Bool) → i < length us → u ≡ get_or us i u → same_node v (term u) ≡ false → stands v (map term (drop i us)) ≡ w → stands v (map term (drop (i + 1) us)) ≡ w
stands_next v us i u w h e t k = sym (or_false _ _ t) ∙ at_next (λ (xs : List Term). stands v (map term xs)) us i u w h e k

pub stands_here : (v : Node) (us : List Term) (i : ℕ) (u : Term) (w : Bool) → i < length us → u ≡ get_or us i u → same_node v (term u) ≡ true → stands v (map term (drop i us)) ≡ w → true ≡ w
stands_here v us i u w h e t k = sym (or_true _ _ t) ∙ at_next (λ (xs : List Term). stands v (map term xs)) us i u w h e k

pub stands_none : (v : Node) (us : List Term) (i : ℕ) (w : Bool) → length us ≤ i → stands v (map term (drop i us)) ≡ w → false ≡ w
stands_none v us i w h k = at_end (λ (xs : List Term). stands v (map term xs)) us i w h k

pub variables_next : (ps : List Part) (i : ℕ) (p : Part) (us ws : List Node) (w : List Node) → i < length ps → p ≡ get_or ps i p → ws ≡ (if stands (term p.variable) us then us else us ++ term p.variable ∷ []) → with_variables (parts (drop i ps)) us ≡ w → with_variables (parts (drop (i + 1) ps)) ws ≡ w
variables_next ps i p us ws w h e f k =
    ap (with_variables (parts (drop (i + 1) ps))) f ∙ at_next (λ (qs : List Part). with_variables (parts qs) us) ps i p w h e k

pub variables_end : (ps : List Part) (i : ℕ) (us w : List Node) → length ps ≤ i → with_variables (parts (drop i ps)) us ≡ w → us ≡ w
variables_end ps i us w h k = at_end (λ (qs : List Part). with_variables (parts qs) us) ps i w h k

pub all_variables_next : (fs : List LinearForm) (i : ℕ) (f : LinearForm) (us ws : List Node) (w : List Node) → i < length fs → f ≡ get_or fs i f → ws ≡ with_variables (parts f.parts) us → with_all_variables (map linear (drop i fs)) us ≡ w → with_all_variables (map linear (drop (i + 1) fs)) ws ≡ w
all_variables_next fs i f us ws w h e g k =
    ap (with_all_variables (map linear (drop (i + 1) fs))) g ∙ at_next (λ (gs : List LinearForm). with_all_variables (map linear gs) us) fs i f w h e k

pub all_variables_end : (fs : List LinearForm) (i : ℕ) (us w : List Node) → length fs ≤ i → with_all_variables (map linear (drop i fs)) us ≡ w → us ≡ w
all_variables_end fs i us w h k = at_end (λ (gs : List LinearForm). with_all_variables (map linear gs) us) fs i w h k

-- ---- repeats

pub repeats_next : (f : Form) (xs : List MadeForm) (i : ℕ) (x : MadeForm) (w : Bool) → i < length xs → x ≡ get_or xs i x → same_form f (linear x.form) ≡ false → repeats f (map made_of (drop i xs)) ≡ w → repeats f (map made_of (drop (i + 1) xs)) ≡ w
repeats_next f xs i x w h e t k = sym (or_false _ _ t) ∙ at_next (λ (ys : List MadeForm). repeats f (map made_of ys)) xs i x w h e k

pub repeats_here : (f : Form) (xs : List MadeForm) (i : ℕ) (x : MadeForm) (w : Bool) → i < length xs → x ≡ get_or xs i x → same_form f (linear x.form) ≡ true → repeats f (map made_of (drop i xs)) ≡ w → true ≡ w
repeats_here f xs i x w h e t k = sym (or_true _ _ t) ∙ at_next (λ (ys : List MadeForm). repeats f (map made_of ys)) xs i x w h e k

pub repeats_none : (f : Form) (xs : List MadeForm) (i : ℕ) (w : Bool) → length xs ≤ i → repeats f (map made_of (drop i xs)) ≡ w → false ≡ w
repeats_none f xs i w h k = at_end (λ (ys : List MadeForm). repeats f (map made_of ys)) xs i w h k
