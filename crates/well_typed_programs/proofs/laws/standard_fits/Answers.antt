use Rattle.well_typed_programs.proofs.Predefined.{standard_fits}
use Rattle.well_typed_programs.proofs.laws.standard_fits.Goals as goal

pub returns : goal.returns
returns c = standard_fits
