use Rattle.name_events.proofs.Grown.{has_unit}
use Rattle.name_events.proofs.laws.each_file_has_a_unit.Goals as goal

pub returns : goal.returns
returns c n file number = has_unit n file number
