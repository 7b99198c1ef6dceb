use Rattle.std.proofs.Common.{◌≡◌, ◌∙◌, ap, sym, ◌<◌, arith}
use Rattle.logic_terms.specs.View.{term, terms}
use Rattle.logic_terms.specs.Weight.{weight, weights}
use Rattle.logic_terms.proofs.Lists.{name_nothing_ends}
use Rattle.logic_terms.proofs.Weights.{weight_at}
use Rattle.logic_terms.proofs.names.+names.Goals as goal

pub terms_name_nothing-returns-then-not-node_names_nothing : goal.terms_name_nothing-returns-then-not-node_names_nothing
terms_name_nothing-returns-then-not-node_names_nothing t c =
    sym (c.loop-t.invariant ∙ name_nothing_ends c.as_slice-t-items.result.now c.loop-t.t-index c.t-item.result c.loop-t-test.true c.t-item.is (sym c.if-not-node_names_nothing.ensures))

pub terms_name_nothing-node_names_nothing-requires : goal.terms_name_nothing-node_names_nothing-requires
terms_name_nothing-node_names_nothing-requires t c =
    let items = c.as_slice-t-items.result.now in
    let e : weights (terms items) ≡ weights (terms c.args.ts.now) = ap (λ ts. weights (terms ts)) c.as_slice-t-items.ensures in
    let s : weight (term c.t-item.result) < weights (terms items) = weight_at items c.loop-t.t-index c.t-item.result c.loop-t-test.true c.t-item.is in
    (omega (arith, s, e), tt)
