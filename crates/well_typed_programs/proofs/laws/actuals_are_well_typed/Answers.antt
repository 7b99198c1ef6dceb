use Rattle.well_typed_programs.proofs.Passing.{in_out_is, out_is, target_is}
use Rattle.well_typed_programs.proofs.laws.actuals_are_well_typed.Goals as goal

pub returns-clause-target : goal.returns-clause-target
returns-clause-target c = target_is

pub returns-clause-out : goal.returns-clause-out
returns-clause-out c = out_is

pub returns-clause-in_out : goal.returns-clause-in_out
returns-clause-in_out c = in_out_is
