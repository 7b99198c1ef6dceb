use Rattle.declaration_relations.proofs.Accepted.{aspects_obey, definition_obeys, indication_obeys, number_obeys, profile_obeys, subtype_obeys, value_obeys}
use Rattle.declaration_relations.proofs.laws.accepted_parts_obey_the_rules.Goals as goal

pub returns-clause-indications : goal.returns-clause-indications
returns-clause-indications c = indication_obeys

pub returns-clause-definitions : goal.returns-clause-definitions
returns-clause-definitions c = definition_obeys

pub returns-clause-numbers : goal.returns-clause-numbers
returns-clause-numbers c = number_obeys

pub returns-clause-subtypes : goal.returns-clause-subtypes
returns-clause-subtypes c = subtype_obeys

pub returns-clause-values : goal.returns-clause-values
returns-clause-values c = value_obeys

pub returns-clause-profiles : goal.returns-clause-profiles
returns-clause-profiles c = profile_obeys

pub returns-clause-aspects : goal.returns-clause-aspects
returns-clause-aspects c = aspects_obey
