use Rattle.name_library.proofs.Turns.{ordered}
use Rattle.name_library.proofs.laws.each_after_what_it_depends_on.Goals as goal

pub returns : goal.returns
returns c = ordered
