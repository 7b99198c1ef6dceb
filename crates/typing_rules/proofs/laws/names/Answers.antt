use Rattle.typing_rules.proofs.Opened.{node_made, subtype_made}
use Rattle.typing_rules.proofs.laws.names.Goals as goal

pub returns-clause-item : goal.returns-clause-item
returns-clause-item c = simp (subtype_made, node_made)

pub returns-clause-item_of_component : goal.returns-clause-item_of_component
returns-clause-item_of_component c = simp (subtype_made, node_made)

pub returns-clause-conversion : goal.returns-clause-conversion
returns-clause-conversion c = simp (subtype_made, node_made)

pub returns-clause-static_conversion : goal.returns-clause-static_conversion
returns-clause-static_conversion c = simp (subtype_made, node_made)

pub returns-clause-outside_the_subtype : goal.returns-clause-outside_the_subtype
returns-clause-outside_the_subtype c = simp (subtype_made, node_made)

pub returns-clause-qualification : goal.returns-clause-qualification
returns-clause-qualification c = simp (subtype_made, node_made)
