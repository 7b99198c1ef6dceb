use Rattle.std.proofs.Common.{◌∙◌}
use Rattle.cert_linear.specs.Here.{forms}
use Rattle.cert_linear.proofs.Stepping.{some_steps}
use Rattle.cert_linear.proofs.refuted.refuted.Goals as goal

pub returns-else-is_empty : goal.returns-else-is_empty
returns-else-is_empty c = c.last_is_negative.ensures ∙ some_steps c.args.steps.now (forms c.args.forms.now) c.if-is_empty.ensures.1
