use Rattle.std.proofs.Common.{◌≡◌, ◌∙◌, ap, sym, arith, ◌<◌, length}
use Rattle.logic_terms.specs.View.{term, terms}
use Rattle.logic_terms.specs.Weight.{weight, weights}
use Rattle.logic_terms.proofs.SameTerms.{terms_lengths}
use Rattle.logic_terms.proofs.Weights.{weight_at}
use Rattle.logic_terms.proofs.same.+same.Goals as goal

pub same_terms-returns-then-len : goal.same_terms-returns-then-len
same_terms-returns-then-len t c =
    sym (terms_lengths c.args.a.now c.args.b.now (λ e. c.if-len.true (c.len.ensures ∙ e ∙ sym c.len-2.ensures)))

pub same_terms-same_node-requires : goal.same_terms-same_node-requires
same_terms-same_node-requires t c =
    let items = c.as_slice.result.now in
    let e : weights (terms items) ≡ weights (terms c.args.a.now) = ap (λ ts. weights (terms ts)) c.as_slice.ensures in
    let n : length items ≡ length c.args.a.now = ap length c.as_slice.ensures in
    let h : c.loop-i.i < length items = omega arith in
    let s : weight (term c.index-as_slice-i.result) < weights (terms items) = weight_at items c.loop-i.i c.index-as_slice-i.result h c.index-as_slice-i.is in
    (omega (arith, s, e), tt)
