use Rattle.program_typing.proofs.Cases.{increment_typed, missing_untyped, truth_untyped, unchecked_untyped}
use Rattle.program_typing.proofs.laws.worked_programs.Goals as goal

pub returns-clause-increment : goal.returns-clause-increment
returns-clause-increment c = increment_typed

pub returns-clause-unchecked : goal.returns-clause-unchecked
returns-clause-unchecked c = unchecked_untyped

pub returns-clause-truth_assigned : goal.returns-clause-truth_assigned
returns-clause-truth_assigned c = truth_untyped

pub returns-clause-no_such_object : goal.returns-clause-no_such_object
returns-clause-no_such_object c = missing_untyped
