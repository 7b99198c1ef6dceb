use Rattle.well_typed_programs.proofs.Mapping.{literal_is, next_is, position_is}
use Rattle.well_typed_programs.proofs.laws.attributes_are_well_typed.Goals as goal

pub returns-clause-next : goal.returns-clause-next
returns-clause-next c = next_is

pub returns-clause-position : goal.returns-clause-position
returns-clause-position c = position_is

pub returns-clause-literal : goal.returns-clause-literal
returns-clause-literal c = literal_is
