use Rattle.logic_terms.proofs.Views.{same_formulas}
use Rattle.logic_terms.proofs.equality.same_formula.Goals as goal

pub returns-clause-same : goal.returns-clause-same
returns-clause-same c = same_formulas c.same_formula.result c.args.a.now c.args.b.now c.same_formula.ensures
