use Rattle.well_typed_programs.proofs.Parts.{component_is, index_is}
use Rattle.well_typed_programs.proofs.laws.parts_are_well_typed.Goals as goal

pub returns-clause-component : goal.returns-clause-component
returns-clause-component c = component_is

pub returns-clause-index : goal.returns-clause-index
returns-clause-index c = index_is
