use Rattle.statement_laws.proofs.Acting.{all_statements, stmt_told, whole_body}
use Rattle.statement_laws.proofs.Choosing.{choice_told}
use Rattle.statement_laws.proofs.Demands.{checked_told, item_condition_told, ways_told}
use Rattle.statement_laws.proofs.laws.statements_are_first.Goals as goal

pub returns-clause-conditions : goal.returns-clause-conditions
returns-clause-conditions c = item_condition_told

pub returns-clause-assertions : goal.returns-clause-assertions
returns-clause-assertions c = checked_told

pub returns-clause-variants : goal.returns-clause-variants
returns-clause-variants c = ways_told

pub returns-clause-choices : goal.returns-clause-choices
returns-clause-choices c = choice_told

pub returns-clause-each : goal.returns-clause-each
returns-clause-each c = stmt_told

pub returns-clause-lists : goal.returns-clause-lists
returns-clause-lists c = all_statements

pub returns-clause-bodies : goal.returns-clause-bodies
returns-clause-bodies c = whole_body
