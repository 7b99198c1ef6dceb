-- The way along the assertions.
use Rattle.std.proofs.Common.{◌≡◌, ℕ, ◌+◌, ◌<◌, ◌≤◌, ap, sym, ◌∙◌, Bool, false, Option, List, [], ◌∷◌, ◌++◌, map, drop, get_or, length, append_assoc}
use Rattle.std.specs.Prelude.{◌||◌}
use Rattle.std.proofs.lemmas.List.{map-append, append-nil, at_drop_more, at_drop_all}
use Rattle.logic_terms.specs.Node.{Node}
use Rattle.logic_terms.specs.View.{formula}
use Rattle.logic_terms.specs.declared.syntax.Formula.{Formula}
use Rattle.first_form.specs.declared.form.FirstForm.{FirstForm}
use Rattle.first_form.specs.declared.form.Assertion.{Assertion}
use Rattle.form_prover.specs.declared.verdicts.Verdict.{Verdict}
use Rattle.form_prover.specs.Given.{is_false, some_false}
use Rattle.form_prover.specs.Formulas.{condition_node, static_truth, input_nodes, verdict_on, verdicts_on}
use Rattle.form_prover.proofs.Steps.{computed_static, some_false_more, some_false_inputs}

pub map_more : (hs new : List Formula) (f : Formula) (p : Node) → new ≡ hs ++ f ∷ [] → formula f ≡ p → map formula new ≡ map formula hs ++ p ∷ []
map_more hs new f p e d =
    ap (map formula) e ∙ map-append formula hs (f ∷ []) ∙ ap (λ (q : Node). map formula hs ++ q ∷ []) d

pub told_more : (hs new : List Formula) (f : Formula) (ps : List (List ℕ)) (a : Assertion) (before r : Bool) (t : Option Bool)
    → new ≡ hs ++ f ∷ [] → formula f ≡ condition_node ps a → t ≡ static_truth a → before ≡ some_false (map formula hs) → r ≡ (before || is_false t)
    → r ≡ some_false (map formula new)
told_more hs new f ps a before r t e d s b i =
    let more = ap some_false (map_more hs new f (condition_node ps a) e d) ∙ some_false_more (map formula hs) (condition_node ps a) in
    let truth = ap is_false (computed_static ps a ∙ sym s) in
    i ∙ ap (λ (x : Bool). x || is_false t) b ∙ ap (λ (x : Bool). some_false (map formula hs) || x) (sym truth) ∙ sym more

-- the verdicts on all assertions
abbrev pub all_verdicts : FirstForm → List Verdict
all_verdicts f = verdicts_on f.params (input_nodes (length f.params) 0) f.assertions

-- what holds before the assertion at a place: the verdicts so far, with those that are to come, are all
pub record Passed (f : FirstForm) (verdicts : List Verdict) (hs : List Formula) (refuted : Bool) (k : ℕ) : Type 0 where
  pub told : refuted ≡ some_false (map formula hs)
  pub whole : verdicts ++ verdicts_on f.params (map formula hs) (drop k f.assertions) ≡ all_verdicts f

pub started : (f : FirstForm) (hs : List Formula) → map formula hs ≡ input_nodes (length f.params) 0 → Passed f [] hs false 0
started f hs e = record {
  told = sym (ap some_false e ∙ some_false_inputs (length f.params) 0);
  whole = ap (λ (ps : List Node). verdicts_on f.params ps f.assertions) e;
}

pub passed_one : (f : FirstForm) (verdicts more : List Verdict) (hs new : List Formula) (r s : Bool) (k : ℕ) (items : List Assertion) (a : Assertion)
    → Passed f verdicts hs r k → items ≡ f.assertions → k < length items → a ≡ get_or items k a
    → more ≡ verdicts ++ verdict_on f.params (map formula hs) a ∷ [] → map formula new ≡ map formula hs ++ condition_node f.params a ∷ [] → s ≡ some_false (map formula new)
    → Passed f more new s (k + 1)
passed_one f verdicts more hs new r s k items a p i h e m n t = record {
  told = t;
  whole =
      let rest = drop (k + 1) f.assertions in
      let next = verdicts_on f.params (map formula hs ++ condition_node f.params a ∷ []) rest in
      let own = verdict_on f.params (map formula hs) a in
      let among : List Assertion → List Verdict = λ (xs : List Assertion). verdicts_on f.params (map formula hs) xs in
      let place : among (drop k f.assertions) ≡ own ∷ next =
      ap (λ (xs : List Assertion). among (drop k xs)) (sym i) ∙ at_drop_more among items k a h
      ∙ ap (λ (x : Assertion). among (x ∷ drop (k + 1) items)) (sym e) ∙ ap (λ (xs : List Assertion). among (a ∷ drop (k + 1) xs)) i in
      ap (λ (vs : List Verdict). vs ++ verdicts_on f.params (map formula new) rest) m
      ∙ ap (λ (ps : List Node). (verdicts ++ own ∷ []) ++ verdicts_on f.params ps rest) n
      ∙ append_assoc verdicts (own ∷ []) next
      ∙ ap (λ (vs : List Verdict). verdicts ++ vs) (sym place)
      ∙ p.whole;
}

pub passed_all : (f : FirstForm) (verdicts : List Verdict) (hs : List Formula) (r : Bool) (k : ℕ) (items : List Assertion)
    → Passed f verdicts hs r k → items ≡ f.assertions → length items ≤ k → verdicts ≡ all_verdicts f
passed_all f verdicts hs r k items p i h =
    let none = at_drop_all (verdicts_on f.params (map formula hs)) items k h in
    sym (append-nil verdicts) ∙ ap (λ (vs : List Verdict). verdicts ++ vs) (sym none)
    ∙ ap (λ (xs : List Assertion). verdicts ++ verdicts_on f.params (map formula hs) (drop k xs)) i ∙ p.whole
