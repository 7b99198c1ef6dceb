use Rattle.std.proofs.Common.{◌≤◌, ◌<◌, length, arith}
use Rattle.run_values.proofs.GivenParts.{whole_end, missing_here}
use Rattle.run_values.proofs.aggregates.whole_values.Goals as goal

pub returns-in-None : goal.returns-in-None
returns-in-None c =
    let w : c.loop-one.one-index < length c.args.given.now = omega (arith, c.loop-one-test.true) in
    missing_here c.loop-one.all c.args.given.now c.loop-one.one-index c.one-item.result c.loop-one.invariant w c.one-item.is c.in-None.is

pub returns : goal.returns
returns c = let w : length c.args.given.now ≤ c.loop-one.one-index = omega (arith, c.loop-one-test.false) in whole_end c.loop-one.all c.args.given.now c.loop-one.one-index c.loop-one.invariant w
