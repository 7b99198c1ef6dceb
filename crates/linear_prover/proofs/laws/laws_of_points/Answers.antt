use Rattle.linear_prover.proofs.Pointing.{points_hold}
use Rattle.linear_prover.proofs.laws.laws_of_points.Goals as goal

pub returns : goal.returns
returns c = points_hold
