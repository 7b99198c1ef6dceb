use Rattle.std.proofs.Common.{◌≡◌, arith, ℕ, pos, ◌≤ℤ◌, ◌+◌, ◌%◌, subst, FitsSigned}
use Rattle.std.specs.Prelude.{unsigned_abs}
use Rattle.std.specs.Option.{SomeIff}
use Rattle.std.specs.Int.{w128, int_pow}
use Rattle.std.proofs.lemmas.Int.{ints, to_z-of_z}
use Rattle.ada_values.proofs.Powers.{power_is_whole}
use Rattle.ada_values.proofs.operations.power.Goals as goal

pub returns-else-b-lt128 : goal.returns-else-b-lt128
returns-else-b-lt128 c =
    let fa = c.ranges.a in let fb = c.ranges.b in
    let large : pos 128 ≤ℤ c.args.b = omega (arith, ints, c.if-b-lt128.false) in
    let last : c.unsigned_abs.result ≡ unsigned_abs c.args.b = simp to_z-of_z at c.unsigned_abs.ensures.value in
    let told : SomeIff c.checked_pow-else-b-lt128.result (FitsSigned w128 (int_pow c.args.a (128 + c.unsigned_abs.result % 2))) (int_pow c.args.a (128 + c.unsigned_abs.result % 2)) =
    simp to_z-of_z at c.checked_pow-else-b-lt128.ensures in
    power_is_whole c.args.a c.args.b _ large (rw last at told)
