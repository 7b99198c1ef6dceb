-- What the prover says yes to is valid.
use Rattle.std.proofs.Common.{◌≡◌, refl, ap, sym, ◌∙◌, ◌⊎◌, inl, inr, Bool, true, false, Option, Some, None, List, [], ◌∷◌}
use Rattle.std.specs.Prelude.{◌||◌, if◌then◌else◌}
use Rattle.logic_terms.specs.Node.{Node}
use Rattle.logic_terms.specs.Value.{Value, number, truth, array, record_of, as_truth}
use Rattle.logic_terms.specs.Meaning.{World, holds}
use Rattle.logic_terms.specs.Run.{Outcome, gives, wide, too_long, run, most_nodes}
use Rattle.logic_terms.specs.Same.{same_node}
use Rattle.logic_terms.specs.Sorting.{Problem, AllHold, IsValid}
use Rattle.form_prover.specs.Given.{is_ground, truth_found, computed, is_true, is_false, some_equals, some_false, given_says}
use Rattle.logic_terms.proofs.Runs.{run-holds}
use Rattle.logic_terms.proofs.SameNodes.{same_node-is}

-- which of two tests came out true
pub or_cases : (a b : Bool) → (a || b) ≡ true → (a ≡ true) ⊎ (b ≡ true)
or_cases true b h = inl refl
or_cases false b h = inr h

found_is : (w : World) (p : Node) (o : Outcome Value) (b : Bool) → run most_nodes [] p ≡ o → truth_found o ≡ Some b → holds w [] p ≡ b
found_is w p (gives (truth c) m) b e h = let d : c ≡ b = cc in ap as_truth (run-holds w most_nodes m p c e) ∙ d
found_is w p (gives (number x) m) b e h = cc
found_is w p (gives (array k f l vs) m) b e h = cc
found_is w p (gives (record_of vs) m) b e h = cc
found_is w p wide b e h = cc
found_is w p too_long b e h = cc

-- a truth that is computed is the formula's
pub computed_holds : (w : World) (p : Node) (b : Bool) → computed p ≡ Some b → holds w [] p ≡ b
computed_holds w p b h = ground (is_ground p) h
  where
    ground : (g : Bool) → (if g then truth_found (run most_nodes [] p) else None) ≡ Some b → holds w [] p ≡ b
    ground true e = found_is w p (run most_nodes [] p) b refl e
    ground false e = cc

is_true_some : (o : Option Bool) → is_true o ≡ true → o ≡ Some true
is_true_some (Some true) h = refl
is_true_some (Some false) h = cc
is_true_some None h = cc

is_false_some : (o : Option Bool) → is_false o ≡ true → o ≡ Some false
is_false_some (Some false) h = refl
is_false_some (Some true) h = cc
is_false_some None h = cc

equal_holds : (w : World) (qs : List Node) (p : Node) → AllHold w qs → some_equals qs p ≡ true → holds w [] p ≡ true
equal_holds w [] p a h = cc
equal_holds w (q ∷ qs) p a h = elim (or_cases (same_node q p) (some_equals qs p) h) [
  | inl e ↦ ap (holds w []) (sym (same_node-is q p e)) ∙ a.0
  | inr e ↦ equal_holds w qs p a.1 e
]

false_absurd : (w : World) (qs : List Node) → AllHold w qs → some_false qs ≡ true → ⊥
false_absurd w [] a h = cc
false_absurd w (q ∷ qs) a h = elim (or_cases (is_false (computed q)) (some_false qs) h) [
  | inl e ↦ let d = computed_holds w q false (is_false_some (computed q) e) in let t = a.0 in cc
  | inr e ↦ false_absurd w qs a.1 e
]

pub given_valid : (g : Problem) → given_says g ≡ true → IsValid g
given_valid g h w i a = elim (or_cases (some_equals g.hypotheses g.conclusion || is_true (computed g.conclusion)) (some_false g.hypotheses) h) [
  | inl e ↦ elim (or_cases (some_equals g.hypotheses g.conclusion) (is_true (computed g.conclusion)) e) [
    | inl d ↦ equal_holds w g.hypotheses g.conclusion a d
    | inr d ↦ computed_holds w g.conclusion true (is_true_some (computed g.conclusion) d)
  ]
  | inr e ↦ absurd (false_absurd w g.hypotheses a e)
]
