use Rattle.declaration_relations.proofs.Building.{program_obeys}
use Rattle.declaration_relations.proofs.laws.accepted_programs_obey_the_rules.Goals as goal

pub returns : goal.returns
returns c = program_obeys
