use Rattle.std.proofs.Common.{pos, ◌∙◌}
use Rattle.std.specs.Prelude.{int_lt}
use Rattle.cert_linear.proofs.Stepping.{no_constant}
use Rattle.cert_linear.proofs.refuted.is_negative_constant.Goals as goal

pub returns-else-is_empty : goal.returns-else-is_empty
returns-else-is_empty c = c.if-is_empty.false ∙ no_constant c.args.form.now.parts (int_lt c.args.form.now.constant (pos 0)) c.if-is_empty.ensures.1
