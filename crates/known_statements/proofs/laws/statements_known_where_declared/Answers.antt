use Rattle.known_statements.proofs.Acted.{case_declared, statement_known, statements_known}
use Rattle.known_statements.proofs.laws.statements_known_where_declared.Goals as goal

pub returns-clause-statements : goal.returns-clause-statements
returns-clause-statements c = statement_known

pub returns-clause-lists : goal.returns-clause-lists
returns-clause-lists c = statements_known

pub returns-clause-declared : goal.returns-clause-declared
returns-clause-declared c = case_declared
