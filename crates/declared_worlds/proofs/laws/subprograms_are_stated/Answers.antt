use Rattle.declared_worlds.proofs.Declaring.{subprogram_there}
use Rattle.declared_worlds.proofs.laws.subprograms_are_stated.Goals as goal

pub returns : goal.returns
returns c = subprogram_there
