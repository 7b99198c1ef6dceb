use Rattle.std.proofs.Common.{◌∙◌, sym}
use Rattle.cert_sorts.proofs.Lists.{lengths_differ}
use Rattle.cert_sorts.proofs.scope.same_sorts.Goals as goal

pub returns-then-len : goal.returns-then-len
returns-then-len c = sym (lengths_differ c.args.a.now c.args.b.now (λ e. c.if-len.true (c.len.ensures ∙ e ∙ sym c.len-2.ensures)))
