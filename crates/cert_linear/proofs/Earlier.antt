-- Rule C4 does not look at the clauses of earlier lines.
use Rattle.std.proofs.Common.{◌≡◌, refl, ◌∙◌, ap, ℕ, List, [], ◌∷◌, ◌++◌}
use Rattle.logic_terms.specs.Node.{le, eq, neg, Node, op1, op2}
use Rattle.logic_terms.specs.Binding.{negated}
use Rattle.logic_terms.specs.declared.goal.Goal.{Goal}
use Rattle.linear_forms.specs.Form.{Form}
use Rattle.cert_lines.specs.Line.{Step}
use Rattle.cert_rules.specs.Judged.{Judged, yields, and_then, when}
use Rattle.cert_rules.specs.Linear.{terms_of, forms_of_terms, forms_of, run_steps, refuted, linear_clause}
use Rattle.cert_linear.specs.Here.{context, here}

module _ (g : Goal) (n : ℕ) (cs : List (List Node)) where
  same_terms : (p : Node) → terms_of (context g n cs) p ≡ terms_of (here g n) p
  same_terms (op2 le a b) = refl
  same_terms (op1 neg (op2 le a b)) = refl
  same_terms (op2 eq a b) = refl
  same_terms _ = refl

  same_forms : (ps : List Node) → forms_of (context g n cs) ps ≡ forms_of (here g n) ps
  same_forms [] = refl
  same_forms (p ∷ ps) =
      ap (λ (j : Judged (List Node)). and_then j (λ ts. and_then (forms_of_terms ts) (λ fs. and_then (forms_of (context g n cs) ps) (λ gs. yields (fs ++ gs))))) (same_terms (negated p))
      ∙ ap (λ (j : Judged (List Form)). and_then (terms_of (here g n) (negated p)) (λ ts. and_then (forms_of_terms ts) (λ fs. and_then j (λ gs. yields (fs ++ gs))))) (same_forms ps)

  pub same_clause : (ps : List Node) (ss : List Step) → linear_clause (context g n cs) ps ss ≡ linear_clause (here g n) ps ss
  same_clause ps ss = ap (λ (j : Judged (List Form)). and_then j (λ fs. and_then (run_steps fs ss) (λ gs. when (refuted ss gs) (yields ps)))) (same_forms ps)
