use Rattle.name_numbers.specs.Numbers.{word_of, words}
use Rattle.typing_rules.proofs.Opened.{node_made, subtype_made}
use Rattle.typing_rules.proofs.laws.broken_rules.Goals as goal

pub returns-clause-none : goal.returns-clause-none
unfolding word_of words
returns-clause-none c = simp (subtype_made, node_made)

pub returns-clause-each_operand : goal.returns-clause-each_operand
unfolding word_of words
returns-clause-each_operand c = simp (subtype_made, node_made)

pub returns-clause-beside_a_refused_declaration : goal.returns-clause-beside_a_refused_declaration
unfolding word_of words
returns-clause-beside_a_refused_declaration c = simp (subtype_made, node_made)

pub returns-clause-subtype_as_value : goal.returns-clause-subtype_as_value
unfolding word_of words
returns-clause-subtype_as_value c = simp (subtype_made, node_made)

pub returns-clause-conditions_and_branches : goal.returns-clause-conditions_and_branches
unfolding word_of words
returns-clause-conditions_and_branches c = simp (subtype_made, node_made)
