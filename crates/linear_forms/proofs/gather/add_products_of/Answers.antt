use Rattle.std.proofs.Common.{rules, ◌<◌, ap, ap₂, sym, ◌∙◌, length, ℤ, ◌*ℤ◌}
use Rattle.std.specs.Prelude.{FitsSigned}
use Rattle.std.specs.Int.{w128}
use Rattle.std.proofs.lemmas.Int.{to_z-of_z}
use Rattle.std.proofs.lemmas.Result.{err_from_is_err_and}
use Rattle.logic_terms.specs.Node.{Node}
use Rattle.logic_terms.specs.View.{term}
use Rattle.linear_forms.specs.Form.{monomial, multiples, product_variable}
use Rattle.linear_forms.specs.Fits.{fits}
use Rattle.linear_forms.specs.View.{part, parts}
use Rattle.linear_forms.proofs.Gathering.{as_many_multiples, at_multiples, gathering_start, gathering_more, gathering_fault, gathering_raised_fault}
use Rattle.linear_forms.proofs.gather.add_products_of.Goals as goal

pub loop-part-init : goal.loop-part-init
loop-part-init c = gathering_start _ _

pub returns-in_err-coefficient : goal.returns-in_err-coefficient
returns-in_err-coefficient c =
    let p = err_from_is_err_and c.from_residual.result c.from_residual.ensures.1 in
    let u = c.args.factor.now in
    let ps = c.args.more.now in
    let q = c.part-item.result in
    let i = c.loop-part.part-index in
    let k : FitsSigned w128 u.coefficient = search rules in
    let f : FitsSigned w128 q.coefficient = search rules in
    let h : i < length (multiples (part u) (parts ps)) = rw (as_many_multiples (part u) ps) c.loop-part-test.true in
    let same = ap₂ (λ (x y : ℤ). x *ℤ y) (to_z-of_z w128 u.coefficient k) (to_z-of_z w128 q.coefficient f) in
    let e = at_multiples (part u) ps i q c.loop-part-test.true c.part-item.is ∙ ap (λ (x : ℤ). monomial x (product_variable (term u.variable) (term q.variable))) (sym same) in
    rw (p.1, p.2) (gathering_fault _ _ _ i _ _ h e c.in_err-coefficient.ensures c.loop-part.invariant)

pub returns-in_err-add : goal.returns-in_err-add
returns-in_err-add c =
    let p = err_from_is_err_and c.from_residual-in_err-add.result c.from_residual-in_err-add.ensures.1 in
    let u = c.args.factor.now in
    let ps = c.args.more.now in
    let q = c.part-item.result in
    let i = c.loop-part.part-index in
    let n = c.in_ok-coefficient.coefficient in
    let k : FitsSigned w128 u.coefficient = search rules in
    let f : FitsSigned w128 q.coefficient = search rules in
    let g : FitsSigned w128 n = search rules in
    let h : i < length (multiples (part u) (parts ps)) = rw (as_many_multiples (part u) ps) c.loop-part-test.true in
    let same = ap₂ (λ (x y : ℤ). x *ℤ y) (to_z-of_z w128 u.coefficient k) (to_z-of_z w128 q.coefficient f) in
    let s = to_z-of_z w128 n g ∙ c.in_ok-coefficient.ensures.0 ∙ same in
    let d = at_multiples (part u) ps i q c.loop-part-test.true c.part-item.is ∙ ap₂ (λ (x : ℤ) (v : Node). monomial x v) (sym s) (sym c.in_ok-variable.ensures) in
    rw (p.1, p.2) (gathering_raised_fault _ _ _ i _ _ h d c.in_err-add.ensures c.loop-part.invariant)

pub loop-part-preserved : goal.loop-part-preserved
loop-part-preserved c =
    let u = c.args.factor.now in
    let ps = c.args.more.now in
    let q = c.part-item.result in
    let i = c.loop-part.part-index in
    let n = c.in_ok-coefficient.coefficient in
    let k : FitsSigned w128 u.coefficient = search rules in
    let f : FitsSigned w128 q.coefficient = search rules in
    let g : FitsSigned w128 n = search rules in
    let h : i < length (multiples (part u) (parts ps)) = rw (as_many_multiples (part u) ps) c.loop-part-test.true in
    let same = ap₂ (λ (x y : ℤ). x *ℤ y) (to_z-of_z w128 u.coefficient k) (to_z-of_z w128 q.coefficient f) in
    let r = to_z-of_z w128 n g ∙ c.in_ok-coefficient.ensures.0 in
    let s = r ∙ same in
    let d = at_multiples (part u) ps i q c.loop-part-test.true c.part-item.is ∙ ap₂ (λ (x : ℤ) (v : Node). monomial x v) (sym s) (sym c.in_ok-variable.ensures) in
    gathering_more _ _ _ _ i _ h d (ap fits r ∙ c.in_ok-coefficient.ensures.1) c.in_ok-add.ensures.0 c.in_ok-add.ensures.1 c.loop-part.invariant
