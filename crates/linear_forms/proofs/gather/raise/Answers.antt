use Rattle.std.proofs.Common.{rules, ◌≡◌, ◌≢◌, ap, ap₂, sym, ◌∙◌, ℤ, pos, ◌+ℤ◌, to_z, of_z}
use Rattle.std.specs.Prelude.{FitsSigned}
use Rattle.std.specs.Int.{w128}
use Rattle.std.proofs.lemmas.Int.{to_z-of_z}
use Rattle.linear_forms.specs.Form.{Monomial, monomial}
use Rattle.linear_forms.specs.Fits.{fits}
use Rattle.logic_terms.specs.View.{term}
use Rattle.linear_forms.specs.View.{parts}
use Rattle.linear_forms.proofs.Placing.{at_part}
use Rattle.linear_forms.proofs.Raising.{raised_fits, raised_removed, raised_set}
use Rattle.linear_forms.proofs.gather.raise.Goals as goal

pub returns-then-raised-eq0 : goal.returns-then-raised-eq0
returns-then-raised-eq0 c =
    let ps = c.args.parts.now.items in
    let p = c.index.result.now in
    let f : FitsSigned w128 p.coefficient = search rules in
    let g : FitsSigned w128 c.args.coefficient = search rules in
    let k : FitsSigned w128 c.in_ok-raised.raised = search rules in
    let same = ap₂ (λ (x y : ℤ). x +ℤ y) (to_z-of_z w128 p.coefficient f) (to_z-of_z w128 c.args.coefficient g) in
    let ok = c.in_ok-raised.ensures in
    let none : c.in_ok-raised.raised ≡ pos 0 = sym (to_z-of_z w128 c.in_ok-raised.raised k) ∙ ap (to_z w128) c.if-raised-eq0.true in (
      ap parts c.remove.ensures.items ∙ raised_removed ps c.args.at p c.args.coefficient c.in_ok-raised.raised c.requires c.index.ensures (ok.0 ∙ same) none,
      sym (raised_fits ps c.args.at p c.args.coefficient c.requires c.index.ensures) ∙ ap fits (sym same) ∙ ok.1,
    )

pub returns-else-raised-eq0 : goal.returns-else-raised-eq0
returns-else-raised-eq0 c =
    let ps = c.args.parts.now.items in
    let p = c.index.result.now in
    let q = c.index_mut.result.now in
    let f : FitsSigned w128 p.coefficient = search rules in
    let g : FitsSigned w128 c.args.coefficient = search rules in
    let k : FitsSigned w128 c.in_ok-raised.raised = search rules in
    let same = ap₂ (λ (x y : ℤ). x +ℤ y) (to_z-of_z w128 p.coefficient f) (to_z-of_z w128 c.args.coefficient g) in
    let ok = c.in_ok-raised.ensures in
    let some : c.in_ok-raised.raised ≢ pos 0 = λ e. c.if-raised-eq0.false (ap (of_z w128) e) in
    let item : p.coefficient ≡ q.coefficient = ap (λ (m : Monomial). m.coefficient) (sym (at_part ps c.args.at p c.requires c.index.ensures) ∙ at_part ps c.args.at q c.requires c.index_mut.ensures.value) in (
      raised_set ps c.args.at q _ c.args.coefficient c.in_ok-raised.raised c.requires c.index_mut.ensures.value
          (ok.0 ∙ same ∙ ap (λ (x : ℤ). x +ℤ c.args.coefficient) item) some
          (ap (λ (x : ℤ). monomial x (term q.variable)) (to_z-of_z w128 c.in_ok-raised.raised k)),
      sym (raised_fits ps c.args.at p c.args.coefficient c.requires c.index.ensures) ∙ ap fits (sym same) ∙ ok.1,
    )
