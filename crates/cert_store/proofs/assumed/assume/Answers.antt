use Rattle.logic_terms.specs.View.{formula}
use Rattle.cert_store.proofs.Keys.{adds_key}
use Rattle.cert_store.proofs.assumed.assume.Goals as goal

pub returns : goal.returns
returns c = adds_key (formula c.args.p) c.args.assumed.now c.insert.new.self c.in_ok-key.key c.in_ok-key.ensures c.in_ok-insert.ensures.updates
