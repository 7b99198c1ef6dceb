use Rattle.cert_linear.specs.Here.{forms}
use Rattle.cert_linear.proofs.Gathered.{Made, forms_of_all}
use Rattle.cert_linear.proofs.forms.forms_of_terms.Given as goal

abbrev pub invariant-loop-t : goal.invariant-loop-t
invariant-loop-t l = Made forms_of_all l.ts l.t-index (forms l.forms)
