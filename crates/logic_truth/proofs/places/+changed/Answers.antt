use Rattle.std.proofs.Common.{◌≡◌, ◌∙◌, ap, subst, sym, arith, to_z, of_z, ◌∷◌, ◌++◌, []}
use Rattle.std.specs.Int.{w128}
use Rattle.std.proofs.lemmas.Int.{ints}
use Rattle.logic_truth.specs.Places.{IsFlat}
use Rattle.logic_truth.specs.Found.{found}
use Rattle.logic_truth.proofs.Telling.{flat_below, flat_plain}
use Rattle.logic_truth.proofs.places.+changed.Goals as goal

pub returns-in_ok-push-in-Stored : goal.returns-in_ok-push-in-Stored
returns-in_ok-push-in-Stored t c =
    let ps = c.in_ok-places-in-Stored.places in
    let at : to_z w128 (of_z w128 c.in-Stored.at) ≡ c.in-Stored.at = omega (arith, ints) in
    let is : c.push.new.self ≡ ps ++ c.in-Stored.at ∷ [] = c.in_ok-push-in-Stored.ensures.ok ∙ ap (λ i. ps ++ i ∷ []) at in
    let flat : IsFlat ps (found c.in-Stored.a) = subst (λ x. IsFlat ps (found x)) c.get.ensures c.in_ok-places-in-Stored.ensures in
    subst (λ qs. IsFlat qs (found c.args.v.now)) (sym is) (flat_below c.args.v.now c.in-Stored.a c.in-Stored.at c.in-Stored.field-2 ps c.in-Stored.is flat)

pub returns-in_default : goal.returns-in_default
returns-in_default t c =
    subst (λ qs. IsFlat qs (found c.args.v.now)) (sym c.new.ensures) (flat_plain c.args.v.now c.in_default.not-Stored)
