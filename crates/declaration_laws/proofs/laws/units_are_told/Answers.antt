use Rattle.declaration_laws.proofs.Declared.{file_more, files_more, unit_more}
use Rattle.declaration_laws.proofs.laws.units_are_told.Goals as goal

pub returns-clause-units : goal.returns-clause-units
returns-clause-units c = unit_more

pub returns-clause-each : goal.returns-clause-each
returns-clause-each c = file_more

pub returns-clause-programs : goal.returns-clause-programs
returns-clause-programs c = files_more
