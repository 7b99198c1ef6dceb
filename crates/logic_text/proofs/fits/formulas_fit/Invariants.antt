use Rattle.std.proofs.Common.{drop, map}
use Rattle.logic_terms.specs.View.{formula}
use Rattle.term_reader.specs.Values.{IsFormula}
use Rattle.logic_text.specs.Fits.{Every}
use Rattle.logic_text.proofs.fits.formulas_fit.Given as goal

abbrev pub invariant-loop-p : goal.invariant-loop-p
invariant-loop-p l = Every IsFormula (map formula (drop l.p-index l.p-items)) → Every IsFormula (map formula l.ps)
