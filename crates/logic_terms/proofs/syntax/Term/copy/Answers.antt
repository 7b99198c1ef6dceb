use Rattle.logic_terms.proofs.Views.{only_term}
use Rattle.logic_terms.proofs.syntax.Term.copy.Goals as goal

pub returns : goal.returns
returns c = only_term c.copy_term.result c.args.self.now c.copy_term.ensures
