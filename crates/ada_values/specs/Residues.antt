-- Numbers by sign and size, and what the code computes on the way to a result modulo a number.
use Rattle.std.specs.Prelude.{◌≡◌, ℕ, zero, suc, ◌-◌, Bool, true, false, Result, Ok, Err, ℤ, pos, neg_ℤ}
use Rattle.ada_values.specs.declared.scalars.OpFault.{OpFault}
use Rattle.ada_values.specs.declared.modular.SignedSize.{SignedSize}
use Rattle.ada_values.specs.Combine.{floor_mod}

abbrev pub from_sign : Bool → ℕ → ℤ
from_sign false n = pos n
from_sign true n = neg_ℤ (pos n)

abbrev pub whole : SignedSize → ℤ
whole w = from_sign w.is_below w.size

-- what -r is modulo n, where r is below n
abbrev pub turned : ℕ → ℕ → ℕ
turned n zero = 0
turned n (suc r) = n - suc r

-- the number is the mathematical result
abbrev pub IsExactly : Result ℤ OpFault → Result SignedSize OpFault → Type 0
IsExactly (Ok z) (Ok w) = whole w ≡ z
IsExactly (Err e) (Err f) = f ≡ e
IsExactly _ _ = ⊥

-- the number is the mathematical result modulo n
abbrev pub IsLike : ℕ → Result ℤ OpFault → Result SignedSize OpFault → Type 0
IsLike n (Ok z) (Ok w) = floor_mod (whole w) (pos n) ≡ floor_mod z (pos n)
IsLike n (Err e) (Err f) = f ≡ e
IsLike n _ _ = ⊥
