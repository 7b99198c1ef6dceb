-- Scalar subtypes. -- Ada RM 3.5
use Rattle.std.specs.Prelude.{◌≡◌, ℕ, Bool, ◌&&◌, Option, Some, None, ℤ, pos, negsuc, ◌≤ℤ◌, ◌-ℤ◌}
use Rattle.std.specs.Int.RustNames.{int_le}
use Rattle.ada_values.specs.declared.scalars.Scalar.{Scalar}

-- Integer'Last; Integer'First is one further from 0 -- Ada RM 3.5.4
abbrev pub integer_last : ℕ
integer_last = 2147483647

-- the subtype Integer
abbrev pub integer : Scalar
integer = record { lo = negsuc integer_last; hi = pos integer_last; base_lo = negsuc integer_last; base_hi = pos integer_last; modulus = None }

abbrev pub within : ℤ → ℤ → ℤ → Bool
within lo hi v = int_le lo v && int_le v hi

-- the value belongs to the subtype
abbrev pub in_scalar : Scalar → ℤ → Bool
in_scalar s v = within s.lo s.hi v

abbrev pub in_base : Scalar → ℤ → Bool
in_base s v = within s.base_lo s.base_hi v

-- a modulus is from 2 to 2 ** 64
abbrev pub IsModulus : Option ℤ → Type 0
IsModulus None = Unit {0}
IsModulus (Some n) = (pos 2 ≤ℤ n) × (n ≤ℤ pos 18446744073709551616)

-- the base range of a modulus N is 0 .. N - 1
abbrev pub HasModulus : Option ℤ → ℤ → ℤ → Type 0
HasModulus None lo hi = Unit {0}
HasModulus (Some n) lo hi = (pos 2 ≤ℤ n) × (n ≤ℤ pos 18446744073709551616) × (lo ≡ pos 0) × (hi ≡ n -ℤ pos 1)

abbrev pub IsScalar : Scalar → Type 0
IsScalar s = HasModulus s.modulus s.base_lo s.base_hi

abbrev pub IsBetween : ℤ → ℤ → ℤ → Type 0
IsBetween lo hi v = (lo ≤ℤ v) × (v ≤ℤ hi)

abbrev pub InBase : Scalar → ℤ → Type 0
InBase s v = IsBetween s.base_lo s.base_hi v
