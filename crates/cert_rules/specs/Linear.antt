-- A clause that follows because the linear forms of its negated literals can't all be at least 0 (rule C4).
use Rattle.std.specs.Prelude.{ℕ, Bool, true, false, ◌&&◌, ◌||◌, pos, int_le, int_lt, List, [], ◌∷◌, ◌++◌, Option, Some, None}
use Rattle.logic_terms.specs.Node.{arith, sub, le, eq, neg, Node, num, op1, op2}
use Rattle.logic_terms.specs.Sorting.{nth}
use Rattle.logic_terms.specs.Binding.{negated}
use Rattle.linear_forms.specs.Form.{Form, Monomial, form_of_node, combined, tightened}
use Rattle.linear_forms.specs.Fits.{node_fits, combining_fits}
use Rattle.cert_lines.specs.Line.{Step, sum_of, tighten}
use Rattle.cert_rules.specs.Judged.{Judged, yields, refused, and_then, when, fitting}
use Rattle.cert_rules.specs.Context.{Context, is_number}

abbrev pub minus : Node → Node → Node
minus a b = op2 (arith sub) a b

-- the terms that a formula says are at least 0
abbrev pub terms_of : Context → Node → Judged (List Node)
terms_of c (op2 le a b) = yields (minus b a ∷ [])
terms_of c (op1 neg (op2 le a b)) = yields (minus (minus a b) (num (pos 1)) ∷ [])
terms_of c (op2 eq a b) = when (is_number c a) (yields (minus b a ∷ minus a b ∷ []))
terms_of c _ = refused

abbrev pub forms_of_terms : List Node → Judged (List Form)
forms_of_terms [] = yields []
forms_of_terms (t ∷ ts) = and_then (fitting (node_fits t) (form_of_node t)) (λ f. and_then (forms_of_terms ts) (λ fs. yields (f ∷ fs)))

-- the forms that the negations of the literals say are at least 0, in order
abbrev pub forms_of : Context → List Node → Judged (List Form)
forms_of c [] = yields []
forms_of c (p ∷ ps) = and_then (terms_of c (negated p)) (λ ts. and_then (forms_of_terms ts) (λ fs. and_then (forms_of c ps) (λ gs. yields (fs ++ gs))))

abbrev pub found_form : Option Form → Judged Form
found_form (Some f) = yields f
found_form None = refused

abbrev pub form_at : List Form → ℕ → Judged Form
form_at fs i = found_form (nth fs i)

-- the form that a step appends; factors are at least 1
abbrev pub stepped : List Form → Step → Judged Form
stepped fs (sum_of i m j k) =
    when (int_le (pos 1) m && int_le (pos 1) k) (and_then (form_at fs i) (λ f. and_then (form_at fs j) (λ g. fitting (combining_fits m f k g) (combined m f k g))))
stepped fs (tighten i) = and_then (form_at fs i) (λ f. yields (tightened f))

abbrev pub run_steps : List Form → List Step → Judged (List Form)
run_steps fs [] = yields fs
run_steps fs (s ∷ ss) = and_then (stepped fs s) (λ f. run_steps (fs ++ f ∷ []) ss)

abbrev pub has_no_monomials : List Monomial → Bool
has_no_monomials [] = true
has_no_monomials _ = false

abbrev pub is_negative_constant : Form → Bool
is_negative_constant f = has_no_monomials f.monomials && int_lt f.constant (pos 0)

abbrev pub some_is_negative : List Form → Bool
some_is_negative [] = false
some_is_negative (f ∷ fs) = is_negative_constant f || some_is_negative fs

abbrev pub last_is_negative : List Form → Bool
last_is_negative [] = false
last_is_negative (f ∷ []) = is_negative_constant f
last_is_negative (f ∷ g ∷ fs) = last_is_negative (g ∷ fs)

-- the last form is a negative constant, or, without steps, one of them is
abbrev pub refuted : List Step → List Form → Bool
refuted [] fs = some_is_negative fs
refuted (s ∷ ss) fs = last_is_negative fs

abbrev pub linear_clause : Context → List Node → List Step → Judged (List Node)
linear_clause c literals steps =
    and_then (forms_of c literals) (λ fs. and_then (run_steps fs steps) (λ gs. when (refuted steps gs) (yields literals)))
