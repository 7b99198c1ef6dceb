use Rattle.std.proofs.Common.{rules, ◌≢◌, ap, sym, ◌∙◌, subst, List, ℤ, pos, of_z}
use Rattle.std.specs.Prelude.{FitsSigned}
use Rattle.std.specs.Int.{w128}
use Rattle.std.proofs.lemmas.Int.{to_z-of_z}
use Rattle.logic_terms.specs.View.{term}
use Rattle.linear_forms.specs.Form.{monomial}
use Rattle.linear_forms.specs.Fits.{fits}
use Rattle.linear_forms.specs.View.{parts}
use Rattle.linear_forms.specs.Places.{IsPlace}
use Rattle.linear_forms.specs.declared.place.Place.{Place}
use Rattle.linear_forms.specs.declared.place.Place.TheVariants.{Before}
use Rattle.linear_forms.specs.declared.form.Part.{Part}
use Rattle.linear_forms.proofs.Narrow.{narrow_fits}
use Rattle.linear_forms.proofs.Raising.{put_in}
use Rattle.linear_forms.proofs.gather.add.Goals as goal

pub returns-in_ok-insert-in-Before : goal.returns-in_ok-insert-in-Before
returns-in_ok-insert-in-Before c =
    let ps = c.args.parts.now.items in
    let v = term c.args.variable in
    let P : List Part → Type 0 = λ xs. IsPlace v (parts xs) c.in_ok-at.field-0 in
    let Q : Place → Type 0 = λ p. IsPlace v (parts ps) p in
    let w : IsPlace v (parts ps) (Before c.in-Before.at) = subst Q c.in-Before.is (subst P c.as_slice.ensures.value c.in_ok-at.ensures) in
    let f : FitsSigned w128 c.args.coefficient = search rules in
    let some : c.args.coefficient ≢ pos 0 = λ e. c.if-coefficient-ne0.true (ap (of_z w128) e) in
    let i = c.in_ok-insert-in-Before.ensures.items in (
      ap parts i ∙ put_in ps c.in-Before.at _ c.args.coefficient v (ap (λ (x : ℤ). monomial x v) (to_z-of_z w128 c.args.coefficient f)) some ∙ sym (w.1 c.args.coefficient),
      ap fits (w.2 c.args.coefficient) ∙ narrow_fits c.args.coefficient f,
    )
