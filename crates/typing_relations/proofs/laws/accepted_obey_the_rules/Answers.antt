use Rattle.typing_relations.proofs.Trees.{item_number_obeys, item_type_obeys, number_obeys, type_obeys}
use Rattle.typing_relations.proofs.laws.accepted_obey_the_rules.Goals as goal

pub returns-clause-typed : goal.returns-clause-typed
returns-clause-typed c = type_obeys

pub returns-clause-numbers : goal.returns-clause-numbers
returns-clause-numbers c = number_obeys

pub returns-clause-items : goal.returns-clause-items
returns-clause-items c = item_type_obeys

pub returns-clause-item_numbers : goal.returns-clause-item_numbers
returns-clause-item_numbers c = item_number_obeys
