use Rattle.name_scopes.proofs.Meanings as meanings
use Rattle.name_scopes.proofs.laws.innermost_first.Goals as goal

pub returns-clause-ended : goal.returns-clause-ended
returns-clause-ended c = meanings.innermost_first

pub returns-clause-hidden : goal.returns-clause-hidden
returns-clause-hidden c = meanings.innermost_hidden
