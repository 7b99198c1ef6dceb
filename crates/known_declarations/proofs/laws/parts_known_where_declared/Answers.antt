use Rattle.known_declarations.proofs.Parts.{aspects_known, definition_known, indication_known, initial_known, number_known, profile_known, subtype_known}
use Rattle.known_declarations.proofs.laws.parts_known_where_declared.Goals as goal

pub returns-clause-indications : goal.returns-clause-indications
returns-clause-indications c = indication_known

pub returns-clause-definitions : goal.returns-clause-definitions
returns-clause-definitions c = definition_known

pub returns-clause-numbers : goal.returns-clause-numbers
returns-clause-numbers c = number_known

pub returns-clause-subtypes : goal.returns-clause-subtypes
returns-clause-subtypes c = subtype_known

pub returns-clause-values : goal.returns-clause-values
returns-clause-values c = initial_known

pub returns-clause-profiles : goal.returns-clause-profiles
returns-clause-profiles c = profile_known

pub returns-clause-aspects : goal.returns-clause-aspects
returns-clause-aspects c = aspects_known
