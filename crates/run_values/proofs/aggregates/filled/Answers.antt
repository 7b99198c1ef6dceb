use Rattle.std.proofs.Common.{◌≤◌, length, arith}
use Rattle.std.proofs.lemmas.Int.{to_z-of_z}
use Rattle.run_values.proofs.GivenParts.{filled_end}
use Rattle.run_values.proofs.aggregates.filled.Goals as goal

pub returns : goal.returns
returns c =
    let ff = c.ranges.first in
    let w : length c.args.given.now ≤ c.loop-one.one-index = omega (arith, c.loop-one-test.false) in
    let h = simp to_z-of_z at c.loop-one.invariant in
    filled_end c.args.ranges.now c.args.others c.args.first _ c.args.v.now c.loop-one.filled c.args.given.now c.loop-one.one-index h w
