use Rattle.std.proofs.Common.{rules, ◌<◌, ap, ap₂, sym, ◌∙◌, subst, length, ℤ, ◌*ℤ◌, to_z, of_z}
use Rattle.std.specs.Prelude.{FitsSigned}
use Rattle.std.specs.Int.{w128}
use Rattle.std.proofs.lemmas.Int.{to_z-of_z}
use Rattle.std.proofs.lemmas.Result.{err_from_is_err_and}
use Rattle.logic_terms.specs.Node.{Node}
use Rattle.logic_terms.specs.View.{term}
use Rattle.linear_forms.specs.Form.{monomial, scaled}
use Rattle.linear_forms.specs.Fits.{fits, gathering_fits}
use Rattle.linear_forms.specs.View.{IsFault, parts}
use Rattle.linear_forms.proofs.Gathering.{as_many_scaled, at_scaled, gathering_start, gathering_more, gathering_fault, gathering_raised_fault}
use Rattle.linear_forms.proofs.gather.add_multiples.Goals as goal

pub loop-part-init : goal.loop-part-init
loop-part-init c = gathering_start _ _

pub returns-in_err-coefficient : goal.returns-in_err-coefficient
returns-in_err-coefficient c =
    let p = err_from_is_err_and c.from_residual.result c.from_residual.ensures.1 in
    let ps = c.args.more.now in
    let q = c.part-item.result in
    let i = c.loop-part.part-index in
    let by = to_z w128 (of_z w128 c.args.by) in
    let k : FitsSigned w128 c.args.by = search rules in
    let f : FitsSigned w128 q.coefficient = search rules in
    let R : ℤ → Type 0 = λ b. IsFault (gathering_fits (scaled b (parts ps)) (parts c.args.parts.now.items)) c.in_err-coefficient.field-0.0 in
    let h : i < length (scaled by (parts ps)) = rw (as_many_scaled by ps) c.loop-part-test.true in
    let e = at_scaled by ps i q c.loop-part-test.true c.part-item.is ∙ ap (λ (x : ℤ). monomial (by *ℤ x) (term q.variable)) (sym (to_z-of_z w128 q.coefficient f)) in
    rw (p.1, p.2) (subst R (to_z-of_z w128 c.args.by k) (gathering_fault _ _ _ i _ _ h e c.in_err-coefficient.ensures c.loop-part.invariant))

pub returns-in_err-add : goal.returns-in_err-add
returns-in_err-add c =
    let p = err_from_is_err_and c.from_residual-in_err-add.result c.from_residual-in_err-add.ensures.1 in
    let ps = c.args.more.now in
    let q = c.part-item.result in
    let i = c.loop-part.part-index in
    let by = to_z w128 (of_z w128 c.args.by) in
    let n = c.in_ok-coefficient.coefficient in
    let k : FitsSigned w128 c.args.by = search rules in
    let f : FitsSigned w128 q.coefficient = search rules in
    let g : FitsSigned w128 n = search rules in
    let R : ℤ → Type 0 = λ b. IsFault (gathering_fits (scaled b (parts ps)) (parts c.args.parts.now.items)) c.in_err-add.field-0.0 in
    let h : i < length (scaled by (parts ps)) = rw (as_many_scaled by ps) c.loop-part-test.true in
    let e = at_scaled by ps i q c.loop-part-test.true c.part-item.is ∙ ap (λ (x : ℤ). monomial (by *ℤ x) (term q.variable)) (sym (to_z-of_z w128 q.coefficient f)) in
    let d = e ∙ ap₂ (λ (x : ℤ) (v : Node). monomial x v) (sym (to_z-of_z w128 n g ∙ c.in_ok-coefficient.ensures.0)) (ap term (sym c.in_ok-variable.ensures)) in
    rw (p.1, p.2) (subst R (to_z-of_z w128 c.args.by k) (gathering_raised_fault _ _ _ i _ _ h d c.in_err-add.ensures c.loop-part.invariant))

pub loop-part-preserved : goal.loop-part-preserved
loop-part-preserved c =
    let ps = c.args.more.now in
    let q = c.part-item.result in
    let i = c.loop-part.part-index in
    let by = to_z w128 (of_z w128 c.args.by) in
    let n = c.in_ok-coefficient.coefficient in
    let f : FitsSigned w128 q.coefficient = search rules in
    let g : FitsSigned w128 n = search rules in
    let h : i < length (scaled by (parts ps)) = rw (as_many_scaled by ps) c.loop-part-test.true in
    let e = at_scaled by ps i q c.loop-part-test.true c.part-item.is ∙ ap (λ (x : ℤ). monomial (by *ℤ x) (term q.variable)) (sym (to_z-of_z w128 q.coefficient f)) in
    let s = to_z-of_z w128 n g ∙ c.in_ok-coefficient.ensures.0 in
    let d = e ∙ ap₂ (λ (x : ℤ) (v : Node). monomial x v) (sym s) (ap term (sym c.in_ok-variable.ensures)) in
    gathering_more _ _ _ _ i _ h d (ap fits s ∙ c.in_ok-coefficient.ensures.1) c.in_ok-add.ensures.0 c.in_ok-add.ensures.1 c.loop-part.invariant
