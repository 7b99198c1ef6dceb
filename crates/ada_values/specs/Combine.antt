-- What an operation gives, in whole numbers. -- Ada RM 4.5.3 to 4.5.6
use Rattle.std.specs.Prelude.{◌≡◌, suc, if◌then◌else◌, Option, Some, None, Result, Ok, Err, ℤ, pos, negsuc, neg_ℤ, ◌+ℤ◌, ◌-ℤ◌, ◌*ℤ◌}
use Rattle.std.specs.Int.{int_pow, int_rem_euclid}
use Rattle.std.specs.Int.RustNames.{int_div, int_rem, unsigned_abs}
use Rattle.std.specs.Ordering.{int_eq}
use Rattle.ada_values.specs.Scalars.{within, IsScalar, InBase}
use Rattle.ada_values.specs.declared.scalars.Scalar.{Scalar}
use Rattle.ada_values.specs.declared.scalars.Op.{Op}
use Rattle.ada_values.specs.declared.scalars.Op.TheVariants.{Add, Sub, Mul, Quo, Rem, Mod, Pow, Neg, Abs}
use Rattle.ada_values.specs.declared.scalars.OpFault.{OpFault}
use Rattle.ada_values.specs.declared.scalars.OpFault.TheVariants.{Overflow, ZeroDivisor, NegativeExponent}

-- The remainder of a division that rounds down: from 0 up to b, or mirrored where b is negative. IsModulo in Division.antt has its law. -- Ada RM 4.5.5
abbrev pub floor_mod : ℤ → ℤ → ℤ
floor_mod a (pos n) = int_rem_euclid a (pos n)
floor_mod a (negsuc n) = neg_ℤ (int_rem_euclid (neg_ℤ a) (pos (suc n)))

-- the mathematical result, where there is one
abbrev pub exact : Op → ℤ → ℤ → Result ℤ OpFault
exact Add a b = Ok (a +ℤ b)
exact Sub a b = Ok (a -ℤ b)
exact Mul a b = Ok (a *ℤ b)
exact Quo a b = if int_eq b (pos 0) then Err ZeroDivisor else Ok (int_div a b)
exact Rem a b = if int_eq b (pos 0) then Err ZeroDivisor else Ok (int_rem a b)
exact Mod a b = if int_eq b (pos 0) then Err ZeroDivisor else Ok (floor_mod a b)
exact Pow a (pos n) = Ok (int_pow a n)
exact Pow a (negsuc n) = Err NegativeExponent
exact Neg a b = Ok (neg_ℤ a)
exact Abs a b = Ok (pos (unsigned_abs a))

-- a result of a type without modulus: outside the base range it overflows -- Ada RM 3.5.4(20)
abbrev pub ranged : ℤ → ℤ → Result ℤ OpFault → Result ℤ OpFault
ranged lo hi (Ok v) = if within lo hi v then Ok v else Err Overflow
ranged lo hi (Err e) = Err e

-- a result of a modular type: it is reduced modulo N -- Ada RM 3.5.4(19)
abbrev pub wrapped : ℤ → Result ℤ OpFault → Result ℤ OpFault
wrapped n (Ok v) = Ok (floor_mod v n)
wrapped n (Err e) = Err e

abbrev pub settled : Option ℤ → ℤ → ℤ → Result ℤ OpFault → Result ℤ OpFault
settled None lo hi r = ranged lo hi r
settled (Some n) lo hi r = wrapped n r

-- what the operation gives in the scalar's type
abbrev pub combined : Op → Scalar → ℤ → ℤ → Result ℤ OpFault
combined op s a b = settled s.modulus s.base_lo s.base_hi (exact op a b)

-- a result lies in the base range
abbrev pub ResultLaw : Type 0
ResultLaw = (op : Op) (s : Scalar) (a b v : ℤ) → IsScalar s → combined op s a b ≡ Ok v → InBase s v
