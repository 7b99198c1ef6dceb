use Rattle.std.proofs.Common.{◌≡◌, ◌∙◌, ap, arith, to_z, of_z, ◌∷◌, ◌++◌, []}
use Rattle.std.specs.Int.{w128}
use Rattle.std.proofs.lemmas.Int.{ints}
use Rattle.logic_truth.specs.Found.{found}
use Rattle.logic_truth.proofs.Telling.{tells_with, tells_without}
use Rattle.logic_truth.proofs.places.telling_places.Goals as goal

pub returns-in-None : goal.returns-in-None
returns-in-None c =
    let f : to_z w128 (of_z w128 c.first_of.result) ≡ c.first_of.result = omega (arith, ints) in
    let l : to_z w128 (of_z w128 c.last_of.result) ≡ c.last_of.result = omega (arith, ints) in
    tells_without (found c.args.a.now) (found c.args.b.now) c.in_ok-places.places c.in_ok-changed.field-0 c.append.new.self (to_z w128 (of_z w128 c.first_of.result)) (to_z w128 (of_z w128 c.last_of.result))
    c.requires.array c.requires.bounds c.in_ok-places.ensures c.in_ok-changed.ensures c.in_ok-append.ensures (f ∙ c.first_of.ensures) (l ∙ c.last_of.ensures) c.in-None.ensures

pub returns-in_ok-push-in-Some : goal.returns-in_ok-push-in-Some
returns-in_ok-push-in-Some c =
    let f : to_z w128 (of_z w128 c.first_of.result) ≡ c.first_of.result = omega (arith, ints) in
    let l : to_z w128 (of_z w128 c.last_of.result) ≡ c.last_of.result = omega (arith, ints) in
    let free : to_z w128 (of_z w128 c.in-Some.free) ≡ c.in-Some.free = omega (arith, ints) in
    tells_with (found c.args.a.now) (found c.args.b.now) c.in_ok-places.places c.in_ok-changed.field-0 c.append.new.self c.push.new.self c.in-Some.free (to_z w128 (of_z w128 c.first_of.result)) (to_z w128 (of_z w128 c.last_of.result))
    c.requires.array c.requires.bounds c.in_ok-places.ensures c.in_ok-changed.ensures c.in_ok-append.ensures (f ∙ c.first_of.ensures) (l ∙ c.last_of.ensures) c.in-Some.ensures.0 c.in-Some.ensures.1
    (c.in_ok-push-in-Some.ensures.ok ∙ ap (λ i. c.append.new.self ++ i ∷ []) free)
