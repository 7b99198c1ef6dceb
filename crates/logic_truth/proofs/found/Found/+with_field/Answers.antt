use Rattle.std.proofs.Common.{◌≡◌, ◌∙◌, ap, subst, sym, arith, to_z, of_z}
use Rattle.std.proofs.lemmas.Int.{ints}
use Rattle.std.specs.Int.{w128}
use Rattle.logic_terms.specs.Meaning.{with_field}
use Rattle.logic_truth.specs.Found.{found}
use Rattle.logic_truth.specs.declared.found.Found.TheVariants as v
use Rattle.logic_truth.proofs.Steps.{with_field_below}
use Rattle.logic_truth.proofs.found.Found.+with_field.Goals as goal

pub returns-in_ok-new-in-Stored : goal.returns-in_ok-new-in-Stored
returns-in_ok-new-in-Stored t c =
    let new = found c.args.new in
    let b = c.in_ok-new-in-Stored.field-0 in
    let place : to_z w128 (of_z w128 c.in-Stored.place) ≡ c.in-Stored.place = omega (arith, ints) in
    let below = ap found c.in_ok-new-in-Stored.ensures ∙ c.in_ok-a-in-Stored.ensures ∙ ap (λ x. with_field c.args.k (found x) new) c.into_inner.ensures in
    subst (λ j. found (v.Stored b j c.in-Stored.item) ≡ with_field c.args.k (found c.args.self) new) (sym place)
    (with_field_below c.args.self c.in-Stored.a c.in-Stored.place c.in-Stored.item b c.args.k new c.in-Stored.is below)
