use Rattle.cert_linear.specs.Here.{forms}
use Rattle.cert_linear.proofs.Stepping.{Taken}
use Rattle.cert_linear.proofs.steps.run_steps.Given as goal

abbrev pub invariant-loop-s : goal.invariant-loop-s
invariant-loop-s l = Taken (forms l.fn.forms) l.steps l.s-index (forms l.forms)
