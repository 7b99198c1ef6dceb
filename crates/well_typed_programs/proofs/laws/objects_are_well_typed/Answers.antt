use Rattle.well_typed_programs.proofs.Objects.{part_is, path_steps}
use Rattle.well_typed_programs.proofs.laws.objects_are_well_typed.Goals as goal

pub returns-clause-value : goal.returns-clause-value
returns-clause-value c = part_is

pub returns-clause-steps : goal.returns-clause-steps
returns-clause-steps c = path_steps
