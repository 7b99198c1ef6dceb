use Rattle.typing_rules.proofs.Opened.{node_made, subtype_made}
use Rattle.typing_rules.proofs.laws.calls.Goals as goal

pub returns-clause-function : goal.returns-clause-function
returns-clause-function c = simp (subtype_made, node_made)

pub returns-clause-named_argument : goal.returns-clause-named_argument
returns-clause-named_argument c = simp (subtype_made, node_made)

pub returns-clause-item_of_its_value : goal.returns-clause-item_of_its_value
returns-clause-item_of_its_value c = simp (subtype_made, node_made)

pub returns-clause-procedure : goal.returns-clause-procedure
returns-clause-procedure c = simp (subtype_made, node_made)

pub returns-clause-checked_on_the_way_in : goal.returns-clause-checked_on_the_way_in
returns-clause-checked_on_the_way_in c = simp (subtype_made, node_made)
