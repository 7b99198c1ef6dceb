-- Whole goals.
use Rattle.std.proofs.Common.{◌≡◌, refl, sym, ◌∙◌, ap, subst, ℕ, ◌≤◌, List, [], ◌∷◌, ◌++◌, length, drop, codes}
use Rattle.std.proofs.lemmas.List.{append-nil}
use Rattle.logic_terms.specs.Sorting.{Called, Problem}
use Rattle.logic_terms.specs.Value.{Kind}
use Rattle.term_reader.specs.Phases.{IsBad, IsBadAt}
use Rattle.term_reader.specs.declared.fault.ReadFault.{ReadFault}
use Rattle.term_reader.specs.declared.fault.ReadFault.TheVariants as fault
use Rattle.term_reader.specs.Texts.{with_end}
use Rattle.term_reader.proofs.WholeTexts.{IsStart, bad_text, good_text}
use Rattle.logic_text.specs.Answers.{IsGoal, IsBadGoal, IsGoalFault, most_goal_bytes}
use Rattle.logic_text.specs.Faults.{text_fault}
use Rattle.logic_text.specs.Goals.{sorts_text, calls_text, hypotheses_text, conclusion_text, goal_bytes}
use Rattle.logic_text.specs.Phases.{AtStart}
use Rattle.logic_text.proofs.GoalTexts.{goal_then, signature_then, signed, stated}

-- a whole text, in its phases
pub goal_phases : (p : Problem) (xs : List ℕ) → goal_bytes p ++ xs ≡ codes "sorts" ++ (sorts_text p.signature.symbols ++ (10 ∷ (codes "calls" ++ (calls_text p.signature.calls ++ (10 ∷ (hypotheses_text p.hypotheses ++ (conclusion_text p.conclusion ++ xs)))))))
goal_phases p xs = goal_then p xs ∙ signature_then p.signature (hypotheses_text p.hypotheses ++ (conclusion_text p.conclusion ++ xs))

start_is : (ks : List Kind) (cs : List Called) (x y z v w u : List ℕ) → x ≡ codes "sorts" ++ y → y ≡ sorts_text ks ++ (10 ∷ z) → z ≡ codes "calls" ++ v → v ≡ calls_text cs ++ (10 ∷ w) → w ≡ u → x ≡ codes "sorts" ++ (sorts_text ks ++ (10 ∷ (codes "calls" ++ (calls_text cs ++ (10 ∷ u)))))
start_is ks cs x y z v w u a b c d e =
    a ∙ ap (λ (t : List ℕ). codes "sorts" ++ t) (b ∙ ap (λ (t : List ℕ). sorts_text ks ++ (10 ∷ t)) (c ∙ ap (λ (t : List ℕ). codes "calls" ++ t) (d ∙ ap (λ (t : List ℕ). calls_text cs ++ (10 ∷ t)) e)))

pub goal_of_start : (x : List ℕ) → AtStart x → (p : Problem) × IsGoal p × (with_end (goal_bytes p) ≡ x)
goal_of_start x (y, (ks, z, (v, (cs, w, (ps, p, a, b, e), d), c), g), f) = (
  stated (signed ks cs) ps p,
  (a, b),
  goal_phases (stated (signed ks cs) ps p) (256 ∷ []) ∙ sym (start_is ks cs x y z v w _ f g c d e),
)

pub start_of_goal : (p : Problem) → IsGoal p → AtStart (with_end (goal_bytes p))
start_of_goal p h =
    let w = hypotheses_text p.hypotheses ++ (conclusion_text p.conclusion ++ (256 ∷ [])) in
    let v = calls_text p.signature.calls ++ (10 ∷ w) in
    let z = codes "calls" ++ v in
    let y = sorts_text p.signature.symbols ++ (10 ∷ z) in
    (y, (p.signature.symbols, z, (v, (p.signature.calls, w, (p.hypotheses, p.conclusion, h.0, h.1, refl), refl), refl), refl), goal_phases p (256 ∷ []))

pub goals_start : IsStart IsGoal goal_bytes AtStart
goals_start = record { value = goal_of_start; start = start_of_goal }

pub bad_goal : (bytes : List ℕ) (to : ℕ) → to ≤ length bytes → IsBad AtStart (drop 0 bytes) (drop to bytes) → IsBadGoal bytes to
bad_goal bytes to h b = bad_text IsGoal goal_bytes AtStart goals_start bytes to h b

pub goal_fault : (bytes : List ℕ) (f : ReadFault) → length bytes ≤ most_goal_bytes → IsBadAt AtStart bytes 0 f → IsGoalFault bytes (text_fault f)
goal_fault bytes (fault.BadText to) l b = (l, bad_goal bytes to b.0 b.1)
goal_fault bytes fault.Starved l b = l

pub whole_text : (p : Problem) (bytes : List ℕ) (a b : ℕ) → bytes ≡ codes "sorts" ++ (sorts_text p.signature.symbols ++ (10 ∷ drop a bytes)) → drop a bytes ≡ codes "calls" ++ (calls_text p.signature.calls ++ (10 ∷ drop b bytes)) → drop b bytes ≡ hypotheses_text p.hypotheses ++ conclusion_text p.conclusion → goal_bytes p ≡ bytes
whole_text p bytes a b e f g =
    sym (append-nil (goal_bytes p)) ∙ goal_phases p []
    ∙ sym (e ∙ ap (λ (t : List ℕ). codes "sorts" ++ (sorts_text p.signature.symbols ++ (10 ∷ t))) (f
    ∙ ap (λ (t : List ℕ). codes "calls" ++ (calls_text p.signature.calls ++ (10 ∷ t))) (g
    ∙ ap (λ (t : List ℕ). hypotheses_text p.hypotheses ++ t) (sym (append-nil (conclusion_text p.conclusion))))))

-- ---- what is written is not refused

pub good_goal : (p : Problem) (at : ℕ) → IsGoal p → IsBadGoal (goal_bytes p) at → ⊥
good_goal p at h b = good_text IsGoal goal_bytes p at h b

pub good_bytes : (p : Problem) (text : List ℕ) → IsGoal p → text ≡ goal_bytes p → (at : ℕ) → IsBadGoal text at → ⊥
good_bytes p text h e at b = good_goal p at h (subst (λ (t : List ℕ). IsBadGoal t at) e b)
