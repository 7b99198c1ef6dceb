use Rattle.well_typed_programs.proofs.Converting.{conversion_is}
use Rattle.well_typed_programs.proofs.laws.conversions_are_well_typed.Goals as goal

pub returns : goal.returns
returns c = conversion_is
