use Rattle.std.proofs.Common.{◌≡◌, ◌<◌, ℕ, ℤ, ◌∷◌, ◌≤ℤ◌, sym, ap, subst, ◌∙◌, pos, ◌+ℤ◌, to_z, of_z, arith}
use Rattle.std.proofs.lemmas.Int.{ints}
use Rattle.std.specs.Int.{w128}
use Rattle.logic_terms.specs.Value.{number}
use Rattle.logic_terms.specs.Run.{run}
use Rattle.logic_terms.specs.View.{formula, term}
use Rattle.logic_truth.specs.Found.{variables}
use Rattle.logic_truth.proofs.Over.{turn-end, turn-more, turn-smaller}
use Rattle.logic_truth.proofs.Reach.{variables-over}
use Rattle.logic_terms.specs.Run.{run_all}
use Rattle.logic_terms.specs.View.{terms}
use Rattle.logic_terms.specs.Weight.{weight, weights}
use Rattle.logic_terms.proofs.Weights.{weight_at}
use Rattle.logic_truth.proofs.Prefix.{prefix_more, prefix_done}
use Rattle.logic_truth.proofs.evaluator.+truth.Goals as goal

pub over-loop-more-preserved : goal.over-loop-more-preserved
over-loop-more-preserved t c =
    let f = λ (i : ℤ) (n : ℕ). run n (number i ∷ variables c.args.env.now) (formula c.args.p.now) in
    let at = to_z w128 c.loop-more.at-bits in
    let last = to_z w128 (of_z w128 c.args.last) in
    let le : at ≤ℤ last = c.loop-more.invariant.0 c.loop-more-test.true in
    let ge : last ≤ℤ at = grind (arith, ints, c.if-more.false) in
    let turn = ap (λ vs. run c.loop-more.left vs (formula c.args.p.now)) (sym (variables-over at c.args.env)) ∙ c.in_ok-b.ensures in
    ((λ h. le), turn-end c.args.is_all c.in_ok-b.b c.loop-more.more _ _ at last f c.loop-more.left c.in_ok-b.rest c.loop-more.invariant.0 c.loop-more.invariant.1 c.loop-more-test.true turn c.if-b-is_all.false ge c.if-more.false)

pub over-loop-more-preserved-then-more : goal.over-loop-more-preserved-then-more
over-loop-more-preserved-then-more t c =
    let f = λ (i : ℤ) (n : ℕ). run n (number i ∷ variables c.args.env.now) (formula c.args.p.now) in
    let at = to_z w128 c.loop-more.at-bits in
    let to = to_z w128 (of_z w128 (at +ℤ pos 1)) in
    let last = to_z w128 (of_z w128 c.args.last) in
    let le : to ≤ℤ last = grind (arith, ints, c.if-more.true) in
    let is : to ≡ at +ℤ pos 1 = grind (arith, ints, c.if-more.true) in
    let turn = ap (λ vs. run c.loop-more.left vs (formula c.args.p.now)) (sym (variables-over at c.args.env)) ∙ c.in_ok-b.ensures in
    ((λ h. le), turn-more c.args.is_all c.in_ok-b.b c.loop-more.more _ _ at to last f c.loop-more.left c.in_ok-b.rest c.loop-more.invariant.0 c.loop-more.invariant.1 c.loop-more-test.true turn c.if-b-is_all.false is c.if-more.true)

pub over-loop-more-smaller-then-more : goal.over-loop-more-smaller-then-more
over-loop-more-smaller-then-more t c =
    let at = to_z w128 c.loop-more.at-bits in
    let to = to_z w128 (of_z w128 (at +ℤ pos 1)) in
    let last = to_z w128 (of_z w128 c.args.last) in
    let is : to ≡ at +ℤ pos 1 = grind (arith, ints, c.if-more.true) in
    turn-smaller c.loop-more.more _ at to last c.loop-more-test.true c.if-more.true c.loop-more.invariant.0 is

pub run_terms-loop-t-preserved : goal.run_terms-loop-t-preserved
run_terms-loop-t-preserved t c =
    prefix_more (run_all c.args.budget (variables c.args.env.now) (terms c.args.ts.now)) c.as_slice-t-items.result.now c.loop-t.t-index c.loop-t.left c.in_ok-v.rest (variables c.args.env.now) c.t-item.result c.loop-t.values c.push_found.new.values c.in_ok-v.v
    c.loop-t.invariant c.loop-t-test.true c.t-item.is c.in_ok-v.ensures c.in_ok-push_found.ensures

pub run_terms-returns : goal.run_terms-returns
run_terms-returns t c =
    prefix_done (run_all c.args.budget (variables c.args.env.now) (terms c.args.ts.now)) c.as_slice-t-items.result.now c.loop-t.t-index c.loop-t.left (variables c.args.env.now) c.loop-t.values c.loop-t.invariant c.loop-t-test.false

pub run_terms-run_term-requires : goal.run_terms-run_term-requires
run_terms-run_term-requires t c =
    let items = c.as_slice-t-items.result.now in
    let e : weights (terms items) ≡ weights (terms c.args.ts.now) = ap (λ ts. weights (terms ts)) c.as_slice-t-items.ensures in
    let s : weight (term c.t-item.result) < weights (terms items) = weight_at items c.loop-t.t-index c.t-item.result c.loop-t-test.true c.t-item.is in
    (omega (arith, s, e), tt)
