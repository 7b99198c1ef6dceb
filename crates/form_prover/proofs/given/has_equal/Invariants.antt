use Rattle.std.proofs.Common.{◌≡◌, drop}
use Rattle.form_prover.proofs.Equal.{left_equals}
use Rattle.form_prover.proofs.given.has_equal.Given as goal

abbrev pub invariant-loop-hypothesis : goal.invariant-loop-hypothesis
invariant-loop-hypothesis l = left_equals l.fn.hypotheses l.fn.conclusion ≡ left_equals (drop l.hypothesis-index l.fn.hypotheses) l.fn.conclusion
