use Rattle.std.proofs.Common.{map}
use Rattle.logic_terms.specs.View.{term}
use Rattle.linear_prover.specs.View.{made_of}
use Rattle.linear_prover.specs.SplitView.{Splits}
use Rattle.linear_prover.proofs.elimination.separate.Given as goal

abbrev pub invariant-loop-x : goal.invariant-loop-x
invariant-loop-x l = Splits (term l.v) (map made_of l.yielded) l.parts
