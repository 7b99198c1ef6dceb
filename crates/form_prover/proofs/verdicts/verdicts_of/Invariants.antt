use Rattle.form_prover.proofs.Passing.{Passed}
use Rattle.form_prover.proofs.verdicts.verdicts_of.Given as goal

abbrev pub invariant-loop-assertion : goal.invariant-loop-assertion
invariant-loop-assertion l = Passed l.fn.form l.way.verdicts l.way.hypotheses l.way.refuted l.assertion-index
