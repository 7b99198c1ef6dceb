use Rattle.cert_store.specs.Assumed.{assumes}
use Rattle.cert_store.specs.Store.{nodes}
use Rattle.cert_store.proofs.Going.{Going}
use Rattle.cert_store.proofs.propagation.propagates.Given as goal

abbrev pub invariant-loop-i : goal.invariant-loop-i
invariant-loop-i l = Going (nodes l.clauses) (assumes l.fn.assumed) (assumes l.assumed) l.hints l.i
