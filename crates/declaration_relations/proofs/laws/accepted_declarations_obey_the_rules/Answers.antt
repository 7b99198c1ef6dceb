use Rattle.declaration_relations.proofs.Building.{files_declare, unit_declares}
use Rattle.declaration_relations.proofs.Declaring.{declares}
use Rattle.declaration_relations.proofs.laws.accepted_declarations_obey_the_rules.Goals as goal

pub returns-clause-declarations : goal.returns-clause-declarations
returns-clause-declarations c = declares

pub returns-clause-units : goal.returns-clause-units
returns-clause-units c = unit_declares

pub returns-clause-files : goal.returns-clause-files
returns-clause-files c = files_declare
