use Rattle.typing_rules.proofs.Opened.{node_made, subtype_made}
use Rattle.typing_rules.proofs.laws.aggregates.Goals as goal

pub returns-clause-by_place : goal.returns-clause-by_place
returns-clause-by_place c = simp (subtype_made, node_made)

pub returns-clause-by_ranges : goal.returns-clause-by_ranges
returns-clause-by_ranges c = simp (subtype_made, node_made)

pub returns-clause-others_alone : goal.returns-clause-others_alone
returns-clause-others_alone c = simp (subtype_made, node_made)

pub returns-clause-twice : goal.returns-clause-twice
returns-clause-twice c = simp (subtype_made, node_made)

pub returns-clause-not_static : goal.returns-clause-not_static
returns-clause-not_static c = simp (subtype_made, node_made)

pub returns-clause-empty_range : goal.returns-clause-empty_range
returns-clause-empty_range c = simp (subtype_made, node_made)

pub returns-clause-record_by_names : goal.returns-clause-record_by_names
returns-clause-record_by_names c = simp (subtype_made, node_made)

pub returns-clause-record_beside : goal.returns-clause-record_beside
returns-clause-record_beside c = simp (subtype_made, node_made)

pub returns-clause-value_of_other_bounds : goal.returns-clause-value_of_other_bounds
returns-clause-value_of_other_bounds c = simp (subtype_made, node_made)

pub returns-clause-parentheses : goal.returns-clause-parentheses
returns-clause-parentheses c = simp (subtype_made, node_made)
