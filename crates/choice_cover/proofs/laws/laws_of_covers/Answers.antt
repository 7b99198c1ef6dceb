use Rattle.choice_cover.proofs.Function.{covers}
use Rattle.choice_cover.proofs.Only.{only_one}
use Rattle.choice_cover.proofs.Sized.{full_sized}
use Rattle.choice_cover.proofs.laws.laws_of_covers.Goals as goal

pub returns-clause-one : goal.returns-clause-one
returns-clause-one c = only_one

pub returns-clause-function : goal.returns-clause-function
returns-clause-function c = covers

pub returns-clause-sized : goal.returns-clause-sized
returns-clause-sized c ranges lo hi a = full_sized lo hi ranges a
