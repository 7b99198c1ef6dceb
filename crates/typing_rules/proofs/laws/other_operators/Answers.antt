use Rattle.typing_rules.proofs.Opened.{node_made, subtype_made}
use Rattle.typing_rules.proofs.laws.other_operators.Goals as goal

pub returns-clause-power : goal.returns-clause-power
returns-clause-power c = simp (subtype_made, node_made)

pub returns-clause-exponent : goal.returns-clause-exponent
returns-clause-exponent c = simp (subtype_made, node_made)

pub returns-clause-minus : goal.returns-clause-minus
returns-clause-minus c = simp (subtype_made, node_made)

pub returns-clause-minus_of_truth : goal.returns-clause-minus_of_truth
returns-clause-minus_of_truth c = simp (subtype_made, node_made)

pub returns-clause-both : goal.returns-clause-both
returns-clause-both c = simp (subtype_made, node_made)

pub returns-clause-and_of_number : goal.returns-clause-and_of_number
returns-clause-and_of_number c = simp (subtype_made, node_made)
