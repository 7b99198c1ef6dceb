use Rattle.expression_rules.proofs.Knowns.{binary_known, unary_known}
use Rattle.expression_rules.proofs.laws.known_where_declared.Goals as goal

pub returns-clause-binary : goal.returns-clause-binary
returns-clause-binary c = binary_known

pub returns-clause-unary : goal.returns-clause-unary
returns-clause-unary c = unary_known
