use Rattle.logic_terms.proofs.Views.{only_formula}
use Rattle.logic_terms.proofs.syntax.Formula.copy.Goals as goal

pub returns : goal.returns
returns c = only_formula c.copy_formula.result c.args.self.now c.copy_formula.ensures
