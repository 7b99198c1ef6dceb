use Rattle.std.proofs.Common.{◌≡◌, ◌∙◌, ap, arith}
use Rattle.std.proofs.lemmas.Int.{to_z-of_z}
use Rattle.ada_semantics.specs.Operators.{span}
use Rattle.ada_semantics.specs.Store.{empties}
use Rattle.run_values.specs.Components.{slots_of}
use Rattle.run_values.proofs.GivenParts.{nones_empty}
use Rattle.run_values.proofs.aggregates.nothing_given.Goals as goal

pub returns : goal.returns
returns c =
    let ff = c.ranges.first in let fl = c.ranges.last in
    let e : c.in-Some.count ≡ span c.args.first c.args.last = simp to_z-of_z at c.in-Some.ensures in
    let n : c.loop-number._number ≡ c.in-Some.count = omega (arith, c.loop-number-test.false, c.loop-number.auto._number-end) in
    ap slots_of c.loop-number.invariant ∙ nones_empty c.loop-number._number ∙ ap empties (n ∙ e)
