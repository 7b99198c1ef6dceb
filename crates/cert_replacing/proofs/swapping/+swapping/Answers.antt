use Rattle.std.proofs.Common.{◌≡◌, IfOk, ap, subst, ◌<◌, arith}
use Rattle.logic_terms.specs.View.{term, formula, terms}
use Rattle.logic_terms.specs.Weight.{weight, weights}
use Rattle.logic_terms.proofs.Weights.{weight_at}
use Rattle.cert_replacing.proofs.Formulas.{swap_formula_apart}
use Rattle.cert_replacing.proofs.Swaps.{among_more}
use Rattle.cert_replacing.proofs.swapping.+swapping.Goals as goal

pub swap_formula-returns-in-Some-clause-part : goal.swap_formula-returns-in-Some-clause-part
swap_formula-returns-in-Some-clause-part t c =
    subst (λ u. IfOk c.swap_in_formula.result (λ r. formula r ≡ u.0)) (swap_formula_apart c.args.change.now.from.now (term c.args.change.now.to.now) c.args.p.now c.args.left.now c.in-Some.field-0 c.in-Some.is) c.swap_in_formula.ensures.part

pub swap_formula-returns-in-Some-clause-left : goal.swap_formula-returns-in-Some-clause-left
swap_formula-returns-in-Some-clause-left t c =
    subst (λ u. IfOk c.swap_in_formula.result (λ r. c.swap_in_formula.new.left ≡ u.1)) (swap_formula_apart c.args.change.now.from.now (term c.args.change.now.to.now) c.args.p.now c.args.left.now c.in-Some.field-0 c.in-Some.is) c.swap_in_formula.ensures.left

pub swap_terms-loop-t-preserved : goal.swap_terms-loop-t-preserved
swap_terms-loop-t-preserved t c =
    among_more (term c.args.change.now.from.now) (term c.args.change.now.to.now) c.as_slice-t-items.result.now c.loop-t.made c.push_term.new.list c.loop-t.t-index c.t-item.result c.in_ok-new.new c.args.left.now c.loop-t.left c.swap_term.new.left
    c.loop-t-test.true c.t-item.is c.loop-t.invariant c.in_ok-new.ensures.part c.in_ok-new.ensures.left c.in_ok-push_term.ensures

pub swap_terms-swap_term-requires : goal.swap_terms-swap_term-requires
swap_terms-swap_term-requires t c =
    let items = c.as_slice-t-items.result.now in
    let e : weights (terms items) ≡ weights (terms c.args.ts.now) = ap (λ ts. weights (terms ts)) c.as_slice-t-items.ensures in
    let s : weight (term c.t-item.result) < weights (terms items) = weight_at items c.loop-t.t-index c.t-item.result c.loop-t-test.true c.t-item.is in
    (omega (arith, s, e), tt)
