use Rattle.std.proofs.Common.{◌≡◌, ◌∙◌, ◌+◌, ◌-◌, length, arith}
use Rattle.cert_linear.proofs.Stepping.{last_is}
use Rattle.cert_linear.proofs.refuted.last_is_negative.Goals as goal

pub returns-in-len1-up : goal.returns-in-len1-up
returns-in-len1-up c =
    let some = c.in-len1-up.len_at_least in
    let whole : length c.args.forms.now - 1 + 1 ≡ length c.args.forms.now = omega arith in
    c.is_negative_constant.ensures ∙ last_is c.args.forms.now (length c.args.forms.now - 1) c.last-item.result whole c.last-item.is
