use Rattle.std.proofs.Common.{◌≡◌, ◌∙◌, ap, ℕ, arith, pos, ◌≤ℤ◌, ◌%◌, ◌^◌}
use Rattle.std.specs.Prelude.{unsigned_abs, int_lt, ◌&&◌, ◌==◌}
use Rattle.std.proofs.lemmas.Int.{ints, to_z-of_z}
use Rattle.ada_values.proofs.Modulo.{power_is_like}
use Rattle.ada_values.proofs.modular.power.Goals as goal

pub returns : goal.returns
returns c =
    let fa = c.ranges.a in let fb = c.ranges.b in
    let not : pos 0 ≤ℤ c.args.b = omega (arith, ints, c.if-b-lt0.false) in
    let exponent : c.unsigned_abs-exponent.result ≡ unsigned_abs c.args.b = simp to_z-of_z at c.unsigned_abs-exponent.ensures.value in
    let base : c.unsigned_abs.result ≡ unsigned_abs c.args.a = simp to_z-of_z at c.unsigned_abs.ensures.value in
    let sign : c.is_power_below.result ≡ (int_lt c.args.a (pos 0) && (c.unsigned_abs-exponent.result % 2 == 1)) = simp to_z-of_z at c.is_power_below.ensures in
    power_is_like c.args.a c.args.b c.args.modulus c.unsigned_abs.result c.unsigned_abs-exponent.result c.is_power_below.result c.power_modulo.result
    c.requires.0 not base exponent sign c.power_modulo.ensures
