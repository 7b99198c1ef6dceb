use Rattle.std.proofs.Common.{◌≡◌, ap, ◌<◌, arith}
use Rattle.logic_terms.specs.View.{term, terms}
use Rattle.logic_terms.specs.Weight.{weight, weights}
use Rattle.logic_terms.proofs.Lists.{terms_copy_more}
use Rattle.logic_terms.proofs.Weights.{weight_at}
use Rattle.logic_terms.proofs.copy.+copy.Goals as goal

pub copy_terms-copy_term-requires : goal.copy_terms-copy_term-requires
copy_terms-copy_term-requires t c =
    let items = c.as_slice-t-items.result.now in
    let e : weights (terms items) ≡ weights (terms c.args.ts.now) = ap (λ ts. weights (terms ts)) c.as_slice-t-items.ensures in
    let s : weight (term c.t-item.result) < weights (terms items) = weight_at items c.loop-t.t-index c.t-item.result c.loop-t-test.true c.t-item.is in
    (omega (arith, s, e), tt)

pub copy_terms-loop-t-preserved : goal.copy_terms-loop-t-preserved
copy_terms-loop-t-preserved t c =
    terms_copy_more c.as_slice-t-items.result.now c.loop-t.copy c.push_term.new.list c.loop-t.t-index c.t-item.result c.in_ok-copy_term.field-0
    c.loop-t-test.true c.t-item.is c.loop-t.invariant c.in_ok-copy_term.ensures c.in_ok-push_term.ensures
