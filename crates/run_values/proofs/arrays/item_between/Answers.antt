use Rattle.std.proofs.Common.{◌≡◌, ◌∙◌, sym, Some, None}
use Rattle.std.specs.Prelude.{slice_get}
use Rattle.std.proofs.lemmas.Int.{to_z-of_z}
use Rattle.ada_values.specs.Scalars.{within}
use Rattle.ada_semantics.specs.Operators.{position}
use Rattle.run_values.proofs.Positions.{item_is, item_missing}
use Rattle.run_values.proofs.arrays.item_between.Goals as goal

pub returns-in_ok-copied-in-Some : goal.returns-in_ok-copied-in-Some
returns-in_ok-copied-in-Some c = λ n.
    let fx = c.ranges.index in let ff = c.ranges.first in let fl = c.ranges.last in
    let e : c.lies_within.result ≡ within c.args.first c.args.last c.args.index = simp to_z-of_z at c.lies_within.ensures in
    let g : Some c.in-Some.item.now ≡ slice_get c.args.items.now (position c.args.first c.args.index) = simp to_z-of_z at c.in-Some.ensures in
    item_is c.args.is_checked c.args.place c.args.first c.args.last c.args.index c.args.items.now c.in-Some.item.now c.in_ok-copied-in-Some.field-0 n
    (sym e ∙ c.if-lies_within.true) g c.in_ok-copied-in-Some.ensures

pub returns-in-None : goal.returns-in-None
returns-in-None c = λ n.
    let fx = c.ranges.index in let ff = c.ranges.first in let fl = c.ranges.last in
    let e : c.lies_within.result ≡ within c.args.first c.args.last c.args.index = simp to_z-of_z at c.lies_within.ensures in
    let g : None ≡ slice_get c.args.items.now (position c.args.first c.args.index) = simp to_z-of_z at c.in-None.ensures in
    item_missing c.args.is_checked c.args.place c.args.first c.args.last c.args.index c.args.items.now n (sym e ∙ c.if-lies_within.true) g
