use Rattle.logic_terms.proofs.Views.{same_terms}
use Rattle.logic_terms.proofs.equality.same_term.Goals as goal

pub returns-clause-same : goal.returns-clause-same
returns-clause-same c = same_terms c.same_term.result c.args.a.now c.args.b.now c.same_term.ensures
