use Rattle.well_typed_programs.proofs.Ranging.{bounds_are, member_is, subtype_is}
use Rattle.well_typed_programs.proofs.laws.ranges_are_well_typed.Goals as goal

pub returns-clause-bounds : goal.returns-clause-bounds
returns-clause-bounds c = bounds_are

pub returns-clause-subtype : goal.returns-clause-subtype
returns-clause-subtype c = subtype_is

pub returns-clause-member : goal.returns-clause-member
returns-clause-member c = member_is
