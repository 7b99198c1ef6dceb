use Rattle.typing_rules.proofs.Opened.{node_made, subtype_made}
use Rattle.typing_rules.proofs.laws.arithmetic.Goals as goal

pub returns-clause-number_takes_the_type : goal.returns-clause-number_takes_the_type
returns-clause-number_takes_the_type c = simp (subtype_made, node_made)

pub returns-clause-static_constant : goal.returns-clause-static_constant
returns-clause-static_constant c = simp (subtype_made, node_made)

pub returns-clause-named_number : goal.returns-clause-named_number
returns-clause-named_number c = simp (subtype_made, node_made)

pub returns-clause-other_type : goal.returns-clause-other_type
returns-clause-other_type c = simp (subtype_made, node_made)

pub returns-clause-no_integer : goal.returns-clause-no_integer
returns-clause-no_integer c = simp (subtype_made, node_made)

pub returns-clause-too_great_for_the_type : goal.returns-clause-too_great_for_the_type
returns-clause-too_great_for_the_type c = simp (subtype_made, node_made)

pub returns-clause-zero_divisor : goal.returns-clause-zero_divisor
returns-clause-zero_divisor c = simp (subtype_made, node_made)

pub returns-clause-refused_declaration : goal.returns-clause-refused_declaration
returns-clause-refused_declaration c = simp (subtype_made, node_made)

pub returns-clause-refused_beside_it : goal.returns-clause-refused_beside_it
returns-clause-refused_beside_it c = simp (subtype_made, node_made)
