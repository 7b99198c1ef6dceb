use Rattle.logic_terms.proofs.Views.{term_injective, formula_injective}
use Rattle.logic_terms.proofs.injective.views_are_injective.Goals as goal

pub returns-clause-terms : goal.returns-clause-terms
returns-clause-terms c = term_injective

pub returns-clause-formulas : goal.returns-clause-formulas
returns-clause-formulas c = formula_injective
