use Rattle.typing_laws.proofs.Trees.{call_first, expression_first, item_seen_first, name_seen_first, range_seen_first, target_first}
use Rattle.typing_laws.proofs.laws.refusals_are_first.Goals as goal

pub returns-clause-expressions : goal.returns-clause-expressions
returns-clause-expressions c = expression_first

pub returns-clause-items : goal.returns-clause-items
returns-clause-items c = item_seen_first

pub returns-clause-names : goal.returns-clause-names
returns-clause-names c = name_seen_first

pub returns-clause-targets : goal.returns-clause-targets
returns-clause-targets c = target_first

pub returns-clause-calls : goal.returns-clause-calls
returns-clause-calls c = call_first

pub returns-clause-ranges : goal.returns-clause-ranges
returns-clause-ranges c = range_seen_first
