use Rattle.std.proofs.lemmas.Result.{err_from_is_err_and}
use Rattle.linear_forms.proofs.Gathering.{multiplying_start, multiplying_more, multiplying_fault, multiplying_end}
use Rattle.linear_forms.proofs.gather.add_products.Goals as goal

pub loop-factor-init : goal.loop-factor-init
loop-factor-init c = multiplying_start _ _ _

pub returns-in_err-add_products_of : goal.returns-in_err-add_products_of
returns-in_err-add_products_of c =
    let p = err_from_is_err_and c.from_residual.result c.from_residual.ensures.1 in
    rw (p.1, p.2) (multiplying_fault c.args.factors.now _ _ _ c.loop-factor.factor-index c.factor-item.result _ c.loop-factor-test.true c.factor-item.is c.in_err-add_products_of.ensures c.loop-factor.invariant)

pub loop-factor-preserved : goal.loop-factor-preserved
loop-factor-preserved c =
    multiplying_more c.args.factors.now _ _ _ _ c.loop-factor.factor-index c.factor-item.result c.loop-factor-test.true c.factor-item.is c.in_ok-add_products_of.ensures.0 c.in_ok-add_products_of.ensures.1 c.loop-factor.invariant

pub returns : goal.returns
returns c = multiplying_end c.args.factors.now _ _ _ c.loop-factor.factor-index c.loop-factor-test.false c.loop-factor.invariant
