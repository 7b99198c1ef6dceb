use Rattle.std.proofs.Common.{◌≡◌, ◌+◌, ◌≤◌, length, drop, map}
use Rattle.logic_terms.specs.View.{term}
use Rattle.linear_prover.specs.Elimination.{positives}
use Rattle.linear_prover.specs.View.{made_of}
use Rattle.linear_prover.proofs.elimination.count_positive.Given as goal

abbrev pub invariant-loop-x : goal.invariant-loop-x
invariant-loop-x l = (l.count + length (positives (term l.v) (map made_of (drop l.x-index l.standing))) ≡ length (positives (term l.v) (map made_of l.standing))) × (l.count ≤ l.x-index)
