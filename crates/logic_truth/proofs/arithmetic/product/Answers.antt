use Rattle.std.proofs.Common.{◌≡◌, arith, to_z, of_z, subst, sym}
use Rattle.std.proofs.lemmas.Int.{ints}
use Rattle.std.specs.Int.{w128}
use Rattle.std.specs.Prelude.{◌*ℤ◌, FitsSigned, SomeIff}
use Rattle.logic_terms.specs.Meaning.{times}
use Rattle.logic_truth.proofs.Powers.{product_ends}
use Rattle.logic_truth.proofs.arithmetic.product.Goals as goal

pub returns-in_err-product : goal.returns-in_err-product
returns-in_err-product c =
    let b = c.args.base in
    let p = to_z w128 c.loop-turn.product-bits in
    let same : to_z w128 (of_z w128 b) ≡ b = omega (arith, ints) in
    let out : ¬ FitsSigned w128 (p *ℤ b) = subst (λ a. ¬ FitsSigned w128 (p *ℤ a)) same c.in_err-product.ensures in
    let is : p ≡ times b c.loop-turn._turn = subst (λ a. p ≡ times a c.loop-turn._turn) same c.loop-turn.invariant in
    let z = times b c.args.exponent in
    subst (λ o. SomeIff o (FitsSigned w128 z) z) (sym c.from_residual.ensures) (product_ends b p c.loop-turn._turn c.args.exponent c.requires is out c.loop-turn-test.true)
