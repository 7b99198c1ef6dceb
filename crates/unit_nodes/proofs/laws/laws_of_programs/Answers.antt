use Rattle.unit_nodes.proofs.Placed.{contracts_shown, expressions_shown, statements_shown}
use Rattle.unit_nodes.proofs.laws.laws_of_programs.Goals as goal

pub returns-clause-statements : goal.returns-clause-statements
returns-clause-statements c = statements_shown

pub returns-clause-expressions : goal.returns-clause-expressions
returns-clause-expressions c = expressions_shown

pub returns-clause-contracts : goal.returns-clause-contracts
returns-clause-contracts c = contracts_shown
