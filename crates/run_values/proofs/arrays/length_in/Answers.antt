use Rattle.std.proofs.Common.{◌<ℤ◌, sym, arith, pos}
use Rattle.std.proofs.lemmas.Int.{ints, to_z-of_z}
use Rattle.ada_semantics.specs.Operators.{span}
use Rattle.run_values.proofs.Positions.{above}
use Rattle.run_values.proofs.arrays.length_in.Goals as goal

pub returns-in-None : goal.returns-in-None
returns-in-None c =
    let fh = c.ranges.high in let ff = c.ranges.first in let fl = c.ranges.last in
    let t : pos 170141183460469231731687303715884105727 <ℤ pos (span c.args.first c.args.last) = simp to_z-of_z at c.in-None.ensures in
    let h : c.args.high <ℤ pos (span c.args.first c.args.last) = omega (arith, ints, t) in
    sym (above c.args.low c.args.high (pos (span c.args.first c.args.last)) h)
