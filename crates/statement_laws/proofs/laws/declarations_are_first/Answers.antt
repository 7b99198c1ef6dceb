use Rattle.statement_laws.proofs.Objects.{local_told, package_told}
use Rattle.statement_laws.proofs.Definitions.{definition_told, indexes_told, initial_told, named_told, object_subtype_told, profile_told}
use Rattle.statement_laws.proofs.Demands.{aspects_told, globals_told, stated_told}
use Rattle.statement_laws.proofs.laws.declarations_are_first.Goals as goal

pub returns-clause-indexes : goal.returns-clause-indexes
returns-clause-indexes c = indexes_told

pub returns-clause-definitions : goal.returns-clause-definitions
returns-clause-definitions c = definition_told

pub returns-clause-subtypes : goal.returns-clause-subtypes
returns-clause-subtypes c = object_subtype_told

pub returns-clause-values : goal.returns-clause-values
returns-clause-values c = initial_told

pub returns-clause-numbers : goal.returns-clause-numbers
returns-clause-numbers c = named_told

pub returns-clause-profiles : goal.returns-clause-profiles
returns-clause-profiles c = profile_told

pub returns-clause-globals : goal.returns-clause-globals
returns-clause-globals c = globals_told

pub returns-clause-aspect_values : goal.returns-clause-aspect_values
returns-clause-aspect_values c = stated_told

pub returns-clause-aspects : goal.returns-clause-aspects
returns-clause-aspects c = aspects_told

pub returns-clause-local_objects : goal.returns-clause-local_objects
returns-clause-local_objects c = local_told

pub returns-clause-package_objects : goal.returns-clause-package_objects
returns-clause-package_objects c = package_told
