use Rattle.std.proofs.Common.{◌≡◌, ◌∙◌, ℤ, ◌<◌, ◌≤◌, List, length, get_or, ap, subst, rules}
use Rattle.std.specs.Prelude.{FitsSigned}
use Rattle.std.specs.Int.{w128}
use Rattle.std.proofs.lemmas.Int.{to_z-of_z}
use Rattle.linear_forms.specs.Form.{floor, divisor}
use Rattle.linear_forms.specs.View.{parts}
use Rattle.linear_forms.specs.declared.form.Part.{Part}
use Rattle.linear_forms.proofs.Dividing.{divided_more, divided_end}
use Rattle.linear_forms.proofs.build.tighten.Goals as goal

pub loop-part-init : goal.loop-part-init
loop-part-init c = ap parts c.new-parts.ensures

pub loop-part-preserved : goal.loop-part-preserved
loop-part-preserved c =
    let P : List Part → Type 0 = λ xs. c.loop-part.part-index < length xs in
    let Q : List Part → Type 0 = λ xs. c.part-item.result ≡ get_or xs c.loop-part.part-index c.part-item.result in
    let f : FitsSigned w128 c.floor_quotient.result = search rules in
    let g : FitsSigned w128 c.part-item.result.coefficient = search rules in
    divided_more c.args.a.now.parts c.loop-part.parts c.push.new.self c.loop-part.part-index c.max-common.result c.part-item.result _
    (subst P c.as_slice-part-items.ensures c.loop-part-test.true)
    (subst Q c.as_slice-part-items.ensures c.part-item.is)
    c.loop-part.invariant c.in_ok-push.ensures.ok
    (to_z-of_z w128 c.floor_quotient.result f ∙ c.floor_quotient.ensures ∙ ap (λ (z : ℤ). floor z c.max-common.result) (to_z-of_z w128 c.part-item.result.coefficient g))
    c.in_ok-copy.ensures

pub returns : goal.returns
returns c =
    let P : List Part → Type 0 = λ xs. length xs ≤ c.loop-part.part-index in
    let f : FitsSigned w128 c.floor_quotient-2.result = search rules in
    let g : FitsSigned w128 c.args.a.now.constant = search rules in
    divided_end c.args.a.now c.loop-part.parts c.loop-part.part-index c.divisor.result c.max-common.result _
    (subst P c.as_slice-part-items.ensures c.loop-part-test.false)
    c.loop-part.invariant
    (c.divisor.ensures ∙ ap (λ (xs : List Part). divisor (parts xs)) c.as_slice.ensures)
    c.max-common.ensures
    (to_z-of_z w128 c.floor_quotient-2.result f ∙ c.floor_quotient-2.ensures ∙ ap (λ (z : ℤ). floor z c.max-common.result) (to_z-of_z w128 c.args.a.now.constant g))
