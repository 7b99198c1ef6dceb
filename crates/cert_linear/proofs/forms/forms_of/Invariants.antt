use Rattle.cert_linear.specs.Here.{forms}
use Rattle.cert_linear.proofs.Gathered.{Made, literals_all}
use Rattle.cert_linear.proofs.forms.forms_of.Given as goal

abbrev pub invariant-loop-p : goal.invariant-loop-p
invariant-loop-p l = Made (literals_all l.goal l.fresh) l.literals l.p-index (forms l.forms)
