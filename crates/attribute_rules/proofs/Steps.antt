-- A step from a number, within a base range.
use Rattle.std.proofs.Common.{◌≡◌, ℤ, pos, ◌+ℤ◌, ◌-ℤ◌, arith}
use Rattle.std.specs.Prelude.{int_le, int_lt}

-- a step up or down ends within a bound where the number lies beside it
pub up_in : (n h : ℤ) → int_le (n +ℤ pos 1) h ≡ int_lt n h
up_in n h = grind arith

pub down_in : (n l : ℤ) → int_le l (n -ℤ pos 1) ≡ int_lt l n
down_in n l = grind arith
