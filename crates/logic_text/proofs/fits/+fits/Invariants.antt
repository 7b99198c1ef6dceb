use Rattle.std.proofs.Common.{◌≡◌, drop}
use Rattle.logic_terms.specs.View.{formula, term, terms}
use Rattle.logic_terms.specs.Weight.{weight, weights}
use Rattle.term_reader.specs.Values.{are_terms}
use Rattle.logic_text.proofs.fits.+fits.Given as goal

abbrev pub invariant-terms_fit-loop-t : goal.invariant-terms_fit-loop-t
invariant-terms_fit-loop-t l = are_terms (terms l.ts) ≡ are_terms (terms (drop l.t-index l.t-items))

abbrev pub decreases-terms_fit : goal.decreases-terms_fit
decreases-terms_fit l = weights (terms l.ts.now)

abbrev pub decreases-term_fits : goal.decreases-term_fits
decreases-term_fits l = weight (term l.t.now)

abbrev pub decreases-formula_fits : goal.decreases-formula_fits
decreases-formula_fits l = weight (formula l.p.now)
