use Rattle.std.proofs.Common.{◌≡◌, ◌*◌, ◌+◌, take}
use Rattle.logic_terms.specs.View.{term, formula, terms}
use Rattle.logic_terms.specs.Weight.{weight, weights}
use Rattle.cert_replacing.specs.Swapping.{swap_among}
use Rattle.cert_replacing.proofs.swapping.+swapping.Given as goal

abbrev pub invariant-swap_terms-loop-t : goal.invariant-swap_terms-loop-t
invariant-swap_terms-loop-t l =
    (terms l.made ≡ (swap_among (term l.change.from.now) (term l.change.to.now) (terms (take l.t-index l.t-items)) l.fn.left).0)
    × (l.left ≡ (swap_among (term l.change.from.now) (term l.change.to.now) (terms (take l.t-index l.t-items)) l.fn.left).1)

abbrev pub decreases-swap_boxed : goal.decreases-swap_boxed
decreases-swap_boxed l = 3 * weight (term l.t.now) + 2

abbrev pub decreases-swap_boxed_formula : goal.decreases-swap_boxed_formula
decreases-swap_boxed_formula l = 3 * weight (formula l.p.now) + 2

abbrev pub decreases-swap_terms : goal.decreases-swap_terms
decreases-swap_terms l = 3 * weights (terms l.ts.now) + 2

abbrev pub decreases-swap_in_term : goal.decreases-swap_in_term
decreases-swap_in_term l = 3 * weight (term l.t.now)

abbrev pub decreases-swap_term : goal.decreases-swap_term
decreases-swap_term l = 3 * weight (term l.t.now) + 1

abbrev pub decreases-swap_in_formula : goal.decreases-swap_in_formula
decreases-swap_in_formula l = 3 * weight (formula l.p.now)

abbrev pub decreases-swap_formula : goal.decreases-swap_formula
decreases-swap_formula l = 3 * weight (formula l.p.now) + 1
