use Rattle.std.proofs.Common.{◌≡◌, ◌*◌, ◌+◌, zero, true, drop}
use Rattle.std.specs.Prelude.{if◌then◌else◌, ◌∷◌, ◌≤ℤ◌}
use Rattle.logic_terms.specs.Value.{number, count}
use Rattle.logic_terms.specs.Run.{run, run_over, run_all}
use Rattle.logic_terms.specs.View.{formula, term, terms}
use Rattle.logic_truth.specs.Found.{quant_of, variables, found_all}
use Rattle.logic_terms.specs.Weight.{weight, weights}
use Rattle.logic_truth.proofs.Prefix.{after}
use Rattle.logic_truth.proofs.evaluator.+truth.Given as goal

abbrev pub invariant-over-loop-more : goal.invariant-over-loop-more
invariant-over-loop-more l =
    (l.more ≡ true → l.at ≤ℤ l.fn.last) ×
    (run_over (quant_of l.fn.is_all) l.fn.first (count l.fn.first l.fn.last) (λ i n. run n (number i ∷ variables l.fn.env) (formula l.fn.p)) l.fn.budget
    ≡ run_over (quant_of l.fn.is_all) l.at (if l.more then count l.at l.fn.last else zero) (λ i n. run n (number i ∷ variables l.fn.env) (formula l.fn.p)) l.left)

abbrev pub decreases-over-loop-more : goal.decreases-over-loop-more
decreases-over-loop-more l = if l.more then count l.at l.fn.last else zero

abbrev pub invariant-run_terms-loop-t : goal.invariant-run_terms-loop-t
invariant-run_terms-loop-t l =
    run_all l.fn.budget (variables l.fn.env) (terms l.ts) ≡ after (found_all l.values) (run_all l.left (variables l.fn.env) (terms (drop l.t-index l.t-items)))

abbrev pub decreases-run_term : goal.decreases-run_term
decreases-run_term l = 4 * weight (term l.t.now) + 1

abbrev pub decreases-run_formula : goal.decreases-run_formula
decreases-run_formula l = 4 * weight (formula l.p.now) + 1

abbrev pub decreases-run_terms : goal.decreases-run_terms
decreases-run_terms l = 4 * weights (terms l.ts.now) + 1

abbrev pub decreases-second : goal.decreases-second
decreases-second l = 4 * weight (term l.b.now) + 2

abbrev pub decreases-third : goal.decreases-third
decreases-third l = 4 * weight (term l.c.now) + 2

abbrev pub decreases-term_value : goal.decreases-term_value
decreases-term_value l = 4 * weight (term l.t.now)

abbrev pub decreases-joined_truth : goal.decreases-joined_truth
decreases-joined_truth l = 4 * weight (formula l.q.now) + 2

abbrev pub decreases-over : goal.decreases-over
decreases-over l = 4 * weight (formula l.p.now) + 2

abbrev pub decreases-formula_truth : goal.decreases-formula_truth
decreases-formula_truth l = 4 * weight (formula l.p.now)
