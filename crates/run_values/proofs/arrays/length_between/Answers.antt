use Rattle.std.proofs.Common.{◌≡◌, ◌-ℤ◌, ◌≤ℤ◌, arith}
use Rattle.std.specs.Prelude.{unsigned_abs}
use Rattle.std.proofs.lemmas.Int.{ints, to_z-of_z}
use Rattle.run_values.proofs.Positions.{span_is}
use Rattle.run_values.proofs.arrays.length_between.Goals as goal

pub returns-then-steps-lt-LONGEST : goal.returns-then-steps-lt-LONGEST
returns-then-steps-lt-LONGEST c =
    let ff = c.ranges.first in let fl = c.ranges.last in
    let e : c.abs_diff-steps.result ≡ unsigned_abs (c.args.last -ℤ c.args.first) = simp to_z-of_z at c.abs_diff-steps.ensures in
    let w : c.args.first ≤ℤ c.args.last = omega (arith, ints, c.if-last-first.false) in
    let s = span_is c.args.first c.args.last w in
    omega (arith, ints, s, e, c.if-steps-lt-LONGEST.true)

pub returns-else-steps-lt-LONGEST : goal.returns-else-steps-lt-LONGEST
returns-else-steps-lt-LONGEST c =
    let ff = c.ranges.first in let fl = c.ranges.last in
    let e : c.abs_diff-steps.result ≡ unsigned_abs (c.args.last -ℤ c.args.first) = simp to_z-of_z at c.abs_diff-steps.ensures in
    let w : c.args.first ≤ℤ c.args.last = omega (arith, ints, c.if-last-first.false) in
    let s = span_is c.args.first c.args.last w in
    omega (arith, ints, s, e, c.if-steps-lt-LONGEST.false)
