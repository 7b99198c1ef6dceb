use Rattle.std.proofs.Common.{◌≡◌, arith}
use Rattle.std.proofs.lemmas.Int.{ints}
use Rattle.std.specs.Prelude.{pos, negsuc}
use Rattle.logic_truth.proofs.Powers.{one_power, even_power, odd_power, is_power, one_fits, minus_one_fits}
use Rattle.logic_truth.proofs.arithmetic.natural_power.Goals as goal

pub returns-then-base-eq1 : goal.returns-then-base-eq1
returns-then-base-eq1 c =
    let b : c.args.base ≡ pos 1 = omega (arith, ints) in
    is_power c.args.base (pos 1) (pos 1) c.args.exponent b (one_power c.args.exponent) one_fits

pub returns-then-exponent-eq0-2 : goal.returns-then-exponent-eq0-2
returns-then-exponent-eq0-2 c =
    let b : c.args.base ≡ negsuc 0 = omega (arith, ints) in
    is_power c.args.base (negsuc 0) (pos 1) c.args.exponent b (even_power c.args.exponent c.if-exponent-eq0-2.true) one_fits

pub returns-else-exponent-eq0-2 : goal.returns-else-exponent-eq0-2
returns-else-exponent-eq0-2 c =
    let b : c.args.base ≡ negsuc 0 = omega (arith, ints) in
    is_power c.args.base (negsuc 0) (negsuc 0) c.args.exponent b (odd_power c.args.exponent c.if-exponent-eq0-2.false) minus_one_fits
