-- Forms that are made one part after another.
use Rattle.std.proofs.Common.{◌≡◌, refl, sym, ◌∙◌, ap, ℕ, List, [], ◌∷◌, ◌++◌, map, length, drop, get_or, ◌<◌, ◌≤◌, ◌+◌, add-one, drop-cons, append_assoc}
use Rattle.std.proofs.lemmas.List.{append-nil}
use Rattle.std.proofs.Math.ListN.{drop_of_length-le}
use Rattle.logic_terms.specs.View.{term, formula}
use Rattle.logic_terms.specs.Binding.{negated}
use Rattle.logic_terms.specs.declared.goal.Goal.{Goal}
use Rattle.logic_terms.specs.declared.syntax.Term.{Term}
use Rattle.logic_terms.specs.declared.syntax.Formula.{Formula}
use Rattle.linear_forms.specs.Form.{Form, form_of_node}
use Rattle.linear_forms.specs.Fits.{node_fits}
use Rattle.linear_forms.specs.View.{linear}
use Rattle.linear_forms.specs.declared.form.LinearForm.{LinearForm}
use Rattle.cert_rules.specs.Judged.{Judged, yields, refused, too_wide, and_then, fitting}
use Rattle.cert_rules.specs.Linear.{terms_of, forms_of_terms, forms_of}
use Rattle.cert_rules.specs.Judges.{IsFault}
use Rattle.cert_rules.specs.declared.fault.LineFault.{LineFault}
use Rattle.cert_linear.specs.Here.{here, forms}
use Rattle.cert_linear.proofs.Faults.{fault_then, fault_same, then_then}

-- the forms of each part, one after another
abbrev pub IsMadeOf : {X : Type 0} → (X → Judged (List Form)) → (List X → Judged (List Form)) → Type 0
IsMadeOf {X} each all = (all [] ≡ yields []) × ((x : X) (xs : List X) → all (x ∷ xs) ≡ and_then (each x) (λ fs. and_then (all xs) (λ gs. yields (fs ++ gs))))

-- the forms of the first i parts stand
pub record Made {X : Type 0} (all : List X → Judged (List Form)) (xs : List X) (i : ℕ) (made : List Form) : Type 0 where
  pub so : all xs ≡ and_then (all (drop i xs)) (λ gs. yields (made ++ gs))

nothing_before : (j : Judged (List Form)) → j ≡ and_then j (λ gs. yields ([] ++ gs))
nothing_before (yields fs) = refl
nothing_before refused = refl
nothing_before too_wide = refl

pub made_none : {X : Type 0} (all : List X → Judged (List Form)) (xs : List X) → Made all xs 0 []
made_none all xs = record { so = nothing_before (all xs) }

joined : (j : Judged (List Form)) (made fs : List Form) → and_then (and_then j (λ gs. yields (fs ++ gs))) (λ gs. yields (made ++ gs)) ≡ and_then j (λ gs. yields ((made ++ fs) ++ gs))
joined (yields gs) made fs = ap yields (sym (append_assoc made fs gs))
joined refused made fs = refl
joined too_wide made fs = refl

module _ {X : Type 0} (each : X → Judged (List Form)) (all : List X → Judged (List Form)) (of : IsMadeOf each all) (xs : List X) (i : ℕ) (made : List Form) (m : Made all xs i made) where
  at_part : (x : X) → i < length xs → x ≡ get_or xs i x → all xs ≡ and_then (and_then (each x) (λ fs. and_then (all (drop (i + 1) xs)) (λ gs. yields (fs ++ gs)))) (λ gs. yields (made ++ gs))
  at_part x h e =
      let cut : drop i xs ≡ get_or xs i x ∷ drop (i + 1) xs = rw (add-one, drop-cons xs i x) in
      m.so ∙ ap (λ ys. and_then (all ys) (λ gs. yields (made ++ gs))) (cut ∙ ap (λ y. y ∷ drop (i + 1) xs) (sym e))
      ∙ ap (λ j. and_then j (λ gs. yields (made ++ gs))) (of.1 x (drop (i + 1) xs))

  -- a fault of the next part is one of them all
  pub made_fault : (x : X) (e : LineFault) → i < length xs → x ≡ get_or xs i x → IsFault e (each x) → IsFault e (all xs)
  made_fault x e h is f = fault_same e _ _ (at_part x h is) (fault_then e _ _ (fault_then e (each x) _ f))

  pub made_more : (x : X) (fs : List Form) → i < length xs → x ≡ get_or xs i x → each x ≡ yields fs → Made all xs (i + 1) (made ++ fs)
  made_more x fs h is y = record {
    so = at_part x h is ∙ ap (λ j. and_then (and_then j (λ us. and_then (all (drop (i + 1) xs)) (λ gs. yields (us ++ gs)))) (λ gs. yields (made ++ gs))) y ∙ joined (all (drop (i + 1) xs)) made fs;
  }

  pub made_all : length xs ≤ i → all xs ≡ yields made
  made_all h =
      m.so ∙ ap (λ ys. and_then (all ys) (λ gs. yields (made ++ gs))) (drop_of_length-le xs h)
      ∙ ap (λ j. and_then j (λ gs. yields (made ++ gs))) of.0 ∙ ap yields (append-nil made)

-- ---- the forms of terms, and of literals

-- the form of a term, alone
abbrev pub form_alone : Term → Judged (List Form)
form_alone t = and_then (fitting (node_fits (term t)) (form_of_node (term t))) (λ f. yields (f ∷ []))

abbrev pub forms_of_all : List Term → Judged (List Form)
forms_of_all ts = forms_of_terms (map term ts)

pub term_by_term : IsMadeOf form_alone forms_of_all
term_by_term = (refl, λ t ts. then_then (fitting (node_fits (term t)) (form_of_node (term t))) (λ f. yields (f ∷ [])) (λ fs. and_then (forms_of_all ts) (λ gs. yields (fs ++ gs))))

module _ (g : Goal) (n : ℕ) where
  abbrev pub literal_alone : Formula → Judged (List Form)
  literal_alone p = and_then (terms_of (here g n) (negated (formula p))) forms_of_terms

  abbrev pub literals_all : List Formula → Judged (List Form)
  literals_all ps = forms_of (here g n) (map formula ps)

  pub literal_by_literal : IsMadeOf literal_alone literals_all
  literal_by_literal = (refl, λ p ps. then_then (terms_of (here g n) (negated (formula p))) forms_of_terms (λ fs. and_then (literals_all ps) (λ gs. yields (fs ++ gs))))

mapped : {A B : Type 0} (f : A → B) (xs ys : List A) → map f (xs ++ ys) ≡ map f xs ++ map f ys
mapped f [] ys = refl
mapped f (x ∷ xs) ys = ap (λ zs. f x ∷ zs) (mapped f xs ys)

-- one more of the forms, and more of them
pub form_more : (fs : List LinearForm) (f : LinearForm) → forms (fs ++ f ∷ []) ≡ forms fs ++ linear f ∷ []
form_more fs f = mapped linear fs (f ∷ [])

pub forms_more : (fs gs : List LinearForm) → forms (fs ++ gs) ≡ forms fs ++ forms gs
forms_more fs gs = mapped linear fs gs
