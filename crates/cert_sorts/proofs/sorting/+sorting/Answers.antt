use Rattle.std.proofs.Common.{◌≡◌, ap, suc, ◌<◌, arith}
use Rattle.logic_terms.specs.View.{term, terms}
use Rattle.logic_terms.specs.Weight.{weight, weights}
use Rattle.logic_terms.proofs.Weights.{weight_at}
use Rattle.cert_sorts.specs.Found.{signature}
use Rattle.cert_sorts.proofs.Operands.{truths_below}
use Rattle.cert_sorts.proofs.sorting.+sorting.Goals as goal

pub is_sorted_below-returns-in-Some : goal.is_sorted_below-returns-in-Some
is_sorted_below-returns-in-Some t c =
    let one_more : c.in-Some.below ≡ suc c.args.depth = omega (arith, c.in-Some.ensures) in
    truths_below (signature c.args.scope.now) c.args.p.now c.in-Some.below c.args.depth c.is_sorted.result one_more c.is_sorted.ensures

pub sort_over-sort_of_term-requires : goal.sort_over-sort_of_term-requires
sort_over-sort_of_term-requires t c =
    let items = c.as_slice-t-items.result.now in
    let e : weights (terms items) ≡ weights (terms c.args.ts.now) = ap (λ ts. weights (terms ts)) c.as_slice-t-items.ensures in
    let s : weight (term c.t-item.result) < weights (terms items) = weight_at items c.loop-t.t-index c.t-item.result c.loop-t-test.true c.t-item.is in
    (omega (arith, s, e), tt)
