use Rattle.well_typed_programs.proofs.Joined.{joined_is}
use Rattle.well_typed_programs.proofs.Unary.{unary_is}
use Rattle.well_typed_programs.proofs.laws.operators_are_well_typed.Goals as goal

pub returns-clause-one : goal.returns-clause-one
returns-clause-one c = unary_is

pub returns-clause-two : goal.returns-clause-two
returns-clause-two c = joined_is
