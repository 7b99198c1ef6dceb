-- The clause of rule C4 from its parts.
use Rattle.std.proofs.Common.{◌≡◌, sym, ◌∙◌, ap, ℕ, Bool, true, false, List}
use Rattle.logic_terms.specs.Node.{Node}
use Rattle.logic_terms.specs.declared.goal.Goal.{Goal}
use Rattle.linear_forms.specs.Form.{Form}
use Rattle.cert_lines.specs.Line.{Step}
use Rattle.cert_rules.specs.Judged.{Judged, yields, refused, and_then, when}
use Rattle.cert_rules.specs.Linear.{forms_of, run_steps, refuted, linear_clause}
use Rattle.cert_rules.specs.Judges.{IsFault}
use Rattle.cert_rules.specs.declared.fault.LineFault.{LineFault}
use Rattle.cert_linear.specs.Here.{context, here}
use Rattle.cert_linear.proofs.Earlier.{same_clause}
use Rattle.cert_linear.proofs.Faults.{fault_then, fault_after, fault_same}

module _ (g : Goal) (n : ℕ) (cs : List (List Node)) (ps : List Node) (ss : List Step) where
  pub fault_of_forms : (e : LineFault) → IsFault e (forms_of (here g n) ps) → IsFault e (linear_clause (context g n cs) ps ss)
  fault_of_forms e h = fault_same e _ _ (same_clause g n cs ps ss) (fault_then e (forms_of (here g n) ps) _ h)

  module _ (fs : List Form) (is : forms_of (here g n) ps ≡ yields fs) where
    pub fault_of_steps : (e : LineFault) → IsFault e (run_steps fs ss) → IsFault e (linear_clause (context g n cs) ps ss)
    fault_of_steps e h =
        fault_same e _ _ (same_clause g n cs ps ss)
        (fault_after e (forms_of (here g n) ps) (λ us. and_then (run_steps us ss) (λ gs. when (refuted ss gs) (yields ps))) fs is (fault_then e (run_steps fs ss) _ h))

    from_steps : (gs : List Form) → run_steps fs ss ≡ yields gs → linear_clause (context g n cs) ps ss ≡ when (refuted ss gs) (yields ps)
    from_steps gs so =
        same_clause g n cs ps ss
        ∙ ap (λ (j : Judged (List Form)). and_then j (λ us. and_then (run_steps us ss) (λ vs. when (refuted ss vs) (yields ps)))) is
        ∙ ap (λ (j : Judged (List Form)). and_then j (λ vs. when (refuted ss vs) (yields ps))) so

    pub is_refuted : (gs : List Form) (b : Bool) → run_steps fs ss ≡ yields gs → b ≡ refuted ss gs → b ≡ true → linear_clause (context g n cs) ps ss ≡ yields ps
    is_refuted gs b so r t = from_steps gs so ∙ ap (λ (x : Bool). when x (yields ps)) (sym r ∙ t)

    pub is_not_refuted : (gs : List Form) (b : Bool) → run_steps fs ss ≡ yields gs → b ≡ refuted ss gs → b ≡ false → linear_clause (context g n cs) ps ss ≡ refused
    is_not_refuted gs b so r t = from_steps gs so ∙ ap (λ (x : Bool). when x (yields ps)) (sym r ∙ t)
