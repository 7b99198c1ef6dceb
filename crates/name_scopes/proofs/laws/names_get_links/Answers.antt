use Rattle.name_scopes.proofs.Meanings as meanings
use Rattle.name_scopes.proofs.laws.names_get_links.Goals as goal

pub returns-clause-one : goal.returns-clause-one
returns-clause-one c = meanings.linked

pub returns-clause-none : goal.returns-clause-none
returns-clause-none c = meanings.refused

pub returns-clause-two : goal.returns-clause-two
returns-clause-two c = meanings.ambiguous
