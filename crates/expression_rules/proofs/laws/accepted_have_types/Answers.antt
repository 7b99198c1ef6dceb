use Rattle.expression_rules.proofs.Accepted.{binary_given, unary_given}
use Rattle.expression_rules.proofs.laws.accepted_have_types.Goals as goal

pub returns-clause-binary : goal.returns-clause-binary
returns-clause-binary c = binary_given

pub returns-clause-unary : goal.returns-clause-unary
returns-clause-unary c = unary_given
