use Rattle.std.proofs.Common.{take}
use Rattle.cert_store.specs.Assumed.{assumes, Agrees}
use Rattle.cert_store.proofs.Keys.{negations_of}
use Rattle.cert_store.proofs.assumed.negations.Given as goal

abbrev pub invariant-loop-p : goal.invariant-loop-p
invariant-loop-p l = Agrees (assumes l.assumed) (negations_of (take l.p-index l.ps))
