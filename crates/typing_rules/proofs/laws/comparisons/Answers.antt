use Rattle.name_numbers.specs.Numbers.{word_of, words}
use Rattle.typing_rules.proofs.Opened.{node_made, subtype_made}
use Rattle.typing_rules.proofs.laws.comparisons.Goals as goal

pub returns-clause-arrays : goal.returns-clause-arrays
unfolding word_of words
returns-clause-arrays c = simp (subtype_made, node_made)

pub returns-clause-other_bounds : goal.returns-clause-other_bounds
unfolding word_of words
returns-clause-other_bounds c = simp (subtype_made, node_made)

pub returns-clause-unconstrained : goal.returns-clause-unconstrained
unfolding word_of words
returns-clause-unconstrained c = simp (subtype_made, node_made)

pub returns-clause-order : goal.returns-clause-order
unfolding word_of words
returns-clause-order c = simp (subtype_made, node_made)

pub returns-clause-order_of_truth : goal.returns-clause-order_of_truth
unfolding word_of words
returns-clause-order_of_truth c = simp (subtype_made, node_made)

pub returns-clause-within_bounds : goal.returns-clause-within_bounds
unfolding word_of words
returns-clause-within_bounds c = simp (subtype_made, node_made)

pub returns-clause-within_subtype : goal.returns-clause-within_subtype
unfolding word_of words
returns-clause-within_subtype c = simp (subtype_made, node_made)

pub returns-clause-within_range : goal.returns-clause-within_range
unfolding word_of words
returns-clause-within_range c = simp (subtype_made, node_made)

pub returns-clause-other_subtype : goal.returns-clause-other_subtype
unfolding word_of words
returns-clause-other_subtype c = simp (subtype_made, node_made)

pub returns-clause-of_truth : goal.returns-clause-of_truth
unfolding word_of words
returns-clause-of_truth c = simp (subtype_made, node_made)

pub returns-clause-no_range : goal.returns-clause-no_range
unfolding word_of words
returns-clause-no_range c = simp (subtype_made, node_made)
