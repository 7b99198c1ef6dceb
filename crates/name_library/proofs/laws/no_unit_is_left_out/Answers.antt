use Rattle.name_library.proofs.Joined.{whole}
use Rattle.name_library.proofs.laws.no_unit_is_left_out.Goals as goal

pub returns : goal.returns
returns c = whole
