use Rattle.statement_laws.proofs.Programs.{no_rule_broken, refused_is_first}
use Rattle.statement_laws.proofs.laws.programs_are_first.Goals as goal

pub returns-clause-typed : goal.returns-clause-typed
returns-clause-typed c = no_rule_broken

pub returns-clause-refused : goal.returns-clause-refused
returns-clause-refused c = refused_is_first
