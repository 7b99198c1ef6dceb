use Rattle.name_scopes.proofs.Latest as latest
use Rattle.name_scopes.proofs.laws.last_declaration_counts.Goals as goal

pub returns-clause-in_file : goal.returns-clause-in_file
returns-clause-in_file c = latest.in_file

pub returns-clause-in_body : goal.returns-clause-in_body
returns-clause-in_body c = latest.in_body

pub returns-clause-others : goal.returns-clause-others
returns-clause-others c = latest.others
