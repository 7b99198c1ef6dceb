use Rattle.std.proofs.Common.{◌≡◌, ap, ◌<◌, arith}
use Rattle.logic_terms.specs.View.{term, terms}
use Rattle.logic_terms.specs.Weight.{weight, weights}
use Rattle.logic_terms.proofs.Lists.{terms_put_more}
use Rattle.logic_terms.proofs.Weights.{weight_at}
use Rattle.logic_terms.proofs.put.Putting.+put.Goals as goal

pub terms_in-loop-a-preserved : goal.terms_in-loop-a-preserved
terms_in-loop-a-preserved t c =
    terms_put_more c.as_slice-a-items.result.now c.loop-a.changed c.push_term.new.list c.loop-a.a-index c.a-item.result c.in_ok-term.field-0 (term c.args.self.now.replacement.now) c.args.self.now.variable
    c.loop-a-test.true c.a-item.is c.loop-a.invariant c.in_ok-term.ensures c.in_ok-push_term.ensures

pub terms_in-term-requires : goal.terms_in-term-requires
terms_in-term-requires t c =
    let items = c.as_slice-a-items.result.now in
    let e : weights (terms items) ≡ weights (terms c.args.ts.now) = ap (λ ts. weights (terms ts)) c.as_slice-a-items.ensures in
    let s : weight (term c.a-item.result) < weights (terms items) = weight_at items c.loop-a.a-index c.a-item.result c.loop-a-test.true c.a-item.is in
    (omega (arith, s, e), tt)
