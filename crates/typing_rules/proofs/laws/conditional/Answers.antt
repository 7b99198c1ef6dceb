use Rattle.name_numbers.specs.Numbers.{word_of, words}
use Rattle.typing_rules.proofs.Opened.{node_made, subtype_made}
use Rattle.typing_rules.proofs.laws.conditional.Goals as goal

pub returns-clause-number_takes_the_type : goal.returns-clause-number_takes_the_type
unfolding word_of words
returns-clause-number_takes_the_type c = simp (subtype_made, node_made)

pub returns-clause-of_the_context : goal.returns-clause-of_the_context
unfolding word_of words
returns-clause-of_the_context c = simp (subtype_made, node_made)

pub returns-clause-static_parts : goal.returns-clause-static_parts
unfolding word_of words
returns-clause-static_parts c = simp (subtype_made, node_made)

pub returns-clause-without_else : goal.returns-clause-without_else
unfolding word_of words
returns-clause-without_else c = simp (subtype_made, node_made)

pub returns-clause-other_types : goal.returns-clause-other_types
unfolding word_of words
returns-clause-other_types c = simp (subtype_made, node_made)

pub returns-clause-number_without_else : goal.returns-clause-number_without_else
unfolding word_of words
returns-clause-number_without_else c = simp (subtype_made, node_made)

pub returns-clause-no_condition : goal.returns-clause-no_condition
unfolding word_of words
returns-clause-no_condition c = simp (subtype_made, node_made)

pub returns-clause-quantified : goal.returns-clause-quantified
unfolding word_of words
returns-clause-quantified c = simp (subtype_made, node_made)

pub returns-clause-over_a_subtype : goal.returns-clause-over_a_subtype
unfolding word_of words
returns-clause-over_a_subtype c = simp (subtype_made, node_made)

pub returns-clause-predicate : goal.returns-clause-predicate
unfolding word_of words
returns-clause-predicate c = simp (subtype_made, node_made)
