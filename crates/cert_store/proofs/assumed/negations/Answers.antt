use Rattle.std.proofs.Common.{◌≡◌, ◌<◌, subst, length, get_or, List}
use Rattle.logic_terms.specs.View.{formula}
use Rattle.logic_terms.specs.declared.syntax.Formula.{Formula}
use Rattle.cert_store.specs.Assumed.{assumes}
use Rattle.cert_store.proofs.Keys.{agrees_more}
use Rattle.cert_store.proofs.assumed.negations.Goals as goal

pub loop-p-preserved : goal.loop-p-preserved
loop-p-preserved c =
    let i = c.loop-p.p-index in
    let p = c.p-item.result in
    let h = subst (λ (xs : List Formula). i < length xs) c.as_slice-p-items.ensures c.loop-p-test.true in
    let e = subst (λ (xs : List Formula). p ≡ get_or xs i p) c.as_slice-p-items.ensures c.p-item.is in
    agrees_more c.args.ps.now i p (formula c.in_ok-negation.field-0) (assumes c.loop-p.assumed) (assumes c.assume.new.assumed) h e c.in_ok-negation.ensures c.in_ok-assume.ensures c.loop-p.invariant
