use Rattle.cert_checker.proofs.Allowed.{AreFormulas}
use Rattle.cert_checker.proofs.lines.are_formulas.Given as goal

abbrev pub invariant-loop-p : goal.invariant-loop-p
invariant-loop-p l = AreFormulas l.goal l.fresh l.ps l.p-index
