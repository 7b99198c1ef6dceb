use Rattle.std.proofs.Common.{◌≡◌, ap, ◌<◌, arith}
use Rattle.logic_terms.specs.View.{term, terms}
use Rattle.logic_terms.specs.Weight.{weight, weights}
use Rattle.logic_terms.proofs.Weights.{weight_at}
use Rattle.logic_text.proofs.fits.+fits.Goals as goal

pub terms_fit-term_fits-requires : goal.terms_fit-term_fits-requires
terms_fit-term_fits-requires t c =
    let items = c.as_slice-t-items.result.now in
    let e : weights (terms items) ≡ weights (terms c.args.ts.now) = ap (λ ts. weights (terms ts)) c.as_slice-t-items.ensures in
    let s : weight (term c.t-item.result) < weights (terms items) = weight_at items c.loop-t.t-index c.t-item.result c.loop-t-test.true c.t-item.is in
    (omega (arith, s, e), tt)
