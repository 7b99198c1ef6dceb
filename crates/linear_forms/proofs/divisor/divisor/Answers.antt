use Rattle.std.proofs.Common.{◌≡◌, ◌∙◌, ℕ, ap, subst, rules}
use Rattle.std.specs.Prelude.{FitsSigned, unsigned_abs}
use Rattle.std.specs.Int.{w128, IsGcd}
use Rattle.std.proofs.lemmas.Int.{to_z-of_z}
use Rattle.linear_forms.proofs.Divisors.{divisor_start, divisor_more, divisor_end}
use Rattle.linear_forms.proofs.divisor.divisor.Goals as goal

pub loop-part-init : goal.loop-part-init
loop-part-init c = divisor_start

pub loop-part-preserved : goal.loop-part-preserved
loop-part-preserved c =
    let P : ℕ → Type 0 = λ n. IsGcd c.loop-part.common n c.gcd-common.result in
    let fit : FitsSigned w128 c.part-item.result.coefficient = search rules in
    let size : c.unsigned_abs.result ≡ unsigned_abs c.part-item.result.coefficient = c.unsigned_abs.ensures.value ∙ ap unsigned_abs (to_z-of_z w128 c.part-item.result.coefficient fit) in
    divisor_more c.args.parts.now c.loop-part.part-index c.part-item.result _ _ c.loop-part-test.true c.part-item.is c.loop-part.invariant (subst P size c.gcd-common.ensures)

pub returns : goal.returns
returns c = divisor_end c.args.parts.now c.loop-part.part-index c.loop-part.common c.loop-part-test.false c.loop-part.invariant
