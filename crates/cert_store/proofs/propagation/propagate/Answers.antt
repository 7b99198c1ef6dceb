use Rattle.std.proofs.Common.{map}
use Rattle.logic_terms.specs.View.{formula}
use Rattle.cert_store.specs.Assumed.{assumes}
use Rattle.cert_store.proofs.Hints.{two_left}
use Rattle.cert_store.proofs.propagation.propagate.Goals as goal

pub returns : goal.returns
returns c = two_left (assumes c.args.assumed.now) (map formula c.args.clause.now) c.in_ok-left.left c.pop.new.self c.in-Some.p c.in_ok-left.ensures c.in-Some.ensures c.if-is_empty.ensures.1
