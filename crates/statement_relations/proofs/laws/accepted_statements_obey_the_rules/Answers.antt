use Rattle.statement_relations.proofs.Doing.{statement_obeys, statements_obey}
use Rattle.statement_relations.proofs.laws.accepted_statements_obey_the_rules.Goals as goal

pub returns-clause-statements : goal.returns-clause-statements
returns-clause-statements c = statement_obeys

pub returns-clause-lists : goal.returns-clause-lists
returns-clause-lists c = statements_obey
