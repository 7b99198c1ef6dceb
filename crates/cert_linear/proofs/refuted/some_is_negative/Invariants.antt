use Rattle.cert_linear.proofs.Stepping.{Passed}
use Rattle.cert_linear.proofs.refuted.some_is_negative.Given as goal

abbrev pub invariant-loop-form : goal.invariant-loop-form
invariant-loop-form l = Passed l.forms l.form-index
