use Rattle.std.proofs.Common.{◌≡◌, ◌*◌, ◌+◌, take}
use Rattle.logic_terms.specs.View.{term, formula, terms}
use Rattle.logic_terms.specs.Binding.{puts}
use Rattle.logic_terms.specs.Weight.{weight, weights}
use Rattle.logic_terms.proofs.put.Putting.+put.Given as goal

abbrev pub invariant-terms_in-loop-a : goal.invariant-terms_in-loop-a
invariant-terms_in-loop-a l = terms l.changed ≡ puts (term l.self.replacement.now) l.self.variable (terms (take l.a-index l.a-items))

abbrev pub decreases-term_in : goal.decreases-term_in
decreases-term_in l = 4 * weight (term l.a.now) + 1

abbrev pub decreases-formula_in : goal.decreases-formula_in
decreases-formula_in l = 4 * weight (formula l.p.now) + 1

abbrev pub decreases-body : goal.decreases-body
decreases-body l = 4 * weight (formula l.p.now) + 2

abbrev pub decreases-terms_in : goal.decreases-terms_in
decreases-terms_in l = 4 * weights (terms l.ts.now) + 1

abbrev pub decreases-choice : goal.decreases-choice
decreases-choice l = 4 * (weight (formula l.p.now) + weight (term l.a.now) + weight (term l.b.now)) + 3

abbrev pub decreases-two : goal.decreases-two
decreases-two l = 4 * (weight (term l.a.now) + weight (term l.b.now)) + 3

abbrev pub decreases-three : goal.decreases-three
decreases-three l = 4 * (weight (term l.a.now) + weight (term l.b.now) + weight (term l.c.now)) + 3

abbrev pub decreases-term : goal.decreases-term
decreases-term l = 4 * weight (term l.a.now)

abbrev pub decreases-compared : goal.decreases-compared
decreases-compared l = 4 * (weight (term l.a.now) + weight (term l.b.now)) + 3

abbrev pub decreases-joined : goal.decreases-joined
decreases-joined l = 4 * (weight (formula l.p.now) + weight (formula l.q.now)) + 3

abbrev pub decreases-quantified : goal.decreases-quantified
decreases-quantified l = 4 * (weight (term l.first.now) + weight (term l.last.now) + weight (formula l.p.now)) + 3

abbrev pub decreases-formula : goal.decreases-formula
decreases-formula l = 4 * weight (formula l.p.now)
