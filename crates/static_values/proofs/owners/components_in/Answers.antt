use Rattle.std.proofs.Common.{◌≡◌, pos, ◌-ℤ◌, arith}
use Rattle.std.proofs.lemmas.Int.{ints, to_z-of_z}
use Rattle.static_values.proofs.Owned.{no_places, places_in}
use Rattle.static_values.proofs.owners.components_in.Goals as goal

pub returns-then-last-first-clause-each : goal.returns-then-last-first-clause-each
returns-then-last-first-clause-each c = λ k h. no_places c.args.bounds c.args.range c.max-first.result c.min-last.result k (grind (arith, to_z-of_z)) (grind (arith, to_z-of_z)) (grind (arith, ints, to_z-of_z)) h

pub returns-clause-each : goal.returns-clause-each
returns-clause-each c =
    let low : pos c.offset.result ≡ c.max-first.result -ℤ c.args.bounds.first = grind (arith, to_z-of_z, c.offset.ensures) in
    let high : pos c.offset-2.result ≡ c.min-last.result -ℤ c.args.bounds.first = grind (arith, to_z-of_z, c.offset-2.ensures) in
    λ k h. places_in c.args.bounds c.args.range c.max-first.result c.min-last.result _ _ k (grind (arith, to_z-of_z)) (grind (arith, to_z-of_z)) low (omega (arith, ints, high)) h
