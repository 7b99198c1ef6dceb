use Rattle.std.proofs.Common.{◌≡◌, ◌-◌, ◌*◌, ◌^◌, ap, ◌∙◌, arith}
use Rattle.std.specs.Prelude.{min}
use Rattle.ada_text.proofs.Capped.{power_more, power_end}
use Rattle.ada_text.proofs.number.scaled.Goals as goal

pub loop-turn-preserved : goal.loop-turn-preserved
loop-turn-preserved c =
    let e : c.saturating_mul-value.result ≡ min (c.loop-turn.value * c.args.radix) (2 ^ 128 - 1) = cc in
    e ∙ ap (λ v. min (v * c.args.radix) (2 ^ 128 - 1)) c.loop-turn.invariant ∙ power_more c.args.digits c.args.radix c.loop-turn.turn (2 ^ 128 - 1) (omega arith)

pub returns : goal.returns
returns c =
    let e : c.loop-turn.turn ≡ min c.args.exponent 128 = omega arith in
    c.loop-turn.invariant ∙ ap (λ k. min (c.args.digits * c.args.radix ^ k) (2 ^ 128 - 1)) e ∙ power_end c.args.digits c.args.radix c.args.exponent (omega arith)
