use Rattle.std.proofs.Common.{◌≡◌, map, take}
use Rattle.logic_terms.specs.View.{formula}
use Rattle.cert_store.specs.Assumed.{assumes, unassumed}
use Rattle.cert_store.proofs.propagation.unassumed.Given as goal

abbrev pub invariant-loop-p : goal.invariant-loop-p
invariant-loop-p l = map formula l.left ≡ unassumed (assumes l.assumed) (map formula (take l.p-index l.clause))
