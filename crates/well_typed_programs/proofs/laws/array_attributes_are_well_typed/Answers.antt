use Rattle.well_typed_programs.proofs.Bounding.{bound_is, length_is}
use Rattle.well_typed_programs.proofs.laws.array_attributes_are_well_typed.Goals as goal

pub returns-clause-bound : goal.returns-clause-bound
returns-clause-bound c = bound_is

pub returns-clause-length : goal.returns-clause-length
returns-clause-length c = length_is
