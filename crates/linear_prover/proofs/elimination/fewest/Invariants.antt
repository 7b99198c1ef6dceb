use Rattle.std.proofs.Common.{map}
use Rattle.logic_terms.specs.View.{term}
use Rattle.linear_prover.specs.Elimination.{pairs}
use Rattle.linear_prover.specs.View.{made_of}
use Rattle.linear_prover.proofs.Fewest.{Known}
use Rattle.linear_prover.proofs.elimination.fewest.Given as goal

abbrev pub invariant-loop-i : goal.invariant-loop-i
invariant-loop-i l = Known (λ v. pairs (term v) (map made_of l.standing)) l.left l.i l.least
