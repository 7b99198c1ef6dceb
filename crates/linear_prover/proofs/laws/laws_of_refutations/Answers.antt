use Rattle.linear_prover.proofs.Impossible.{impossible}
use Rattle.linear_prover.proofs.Tracing.{refutations_refute}
use Rattle.linear_prover.proofs.laws.laws_of_refutations.Goals as goal

pub returns-clause-lines : goal.returns-clause-lines
returns-clause-lines c = refutations_refute

pub returns-clause-no_point : goal.returns-clause-no_point
returns-clause-no_point c fs budget ls left e = impossible fs ls (refutations_refute fs budget ls left e)
