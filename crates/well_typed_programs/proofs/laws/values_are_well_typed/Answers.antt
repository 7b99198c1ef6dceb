use Rattle.well_typed_programs.proofs.Fitting.{value_fits}
use Rattle.well_typed_programs.proofs.laws.values_are_well_typed.Goals as goal

pub returns : goal.returns
returns c = value_fits
