use Rattle.type_base.proofs.OperatorFirsts.{binary_first, unary_first}
use Rattle.type_base.proofs.laws.laws_of_operators.Goals as goal

pub returns-clause-binary : goal.returns-clause-binary
returns-clause-binary c = binary_first

pub returns-clause-unary : goal.returns-clause-unary
returns-clause-unary c = unary_first
