use Rattle.name_rules.proofs.Told.{named_whole, refused_first}
use Rattle.name_rules.proofs.laws.answers_are_right.Goals as goal

pub returns-clause-refused : goal.returns-clause-refused
returns-clause-refused c = refused_first

pub returns-clause-named : goal.returns-clause-named
returns-clause-named c = named_whole
