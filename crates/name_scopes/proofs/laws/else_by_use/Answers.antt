use Rattle.name_scopes.proofs.Meanings as meanings
use Rattle.name_scopes.proofs.laws.else_by_use.Goals as goal

pub returns-clause-none : goal.returns-clause-none
returns-clause-none c = meanings.none_by_use

pub returns-clause-one : goal.returns-clause-one
returns-clause-one c = meanings.one_by_use

pub returns-clause-two : goal.returns-clause-two
returns-clause-two c = meanings.two_by_use
