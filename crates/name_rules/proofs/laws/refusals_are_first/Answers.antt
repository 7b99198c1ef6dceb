use Rattle.name_rules.specs.Faults.{faults}
use Rattle.name_rules.proofs.Firsts.{first}
use Rattle.name_rules.proofs.laws.refusals_are_first.Goals as goal

pub returns : goal.returns
returns c files = first (faults files)
