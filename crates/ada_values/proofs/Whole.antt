-- From the mathematical result to the result in the type.
use Rattle.std.proofs.Common.{◌≡◌, refl, Bool, true, false, ◌&&◌, arith, ℤ, pos, negsuc, ◌≤ℤ◌, FitsSigned, Some, Result, Ok, Err}
use Rattle.std.specs.Prelude.{if◌then◌else◌}
use Rattle.std.specs.Int.RustNames.{int_le}
use Rattle.std.specs.Int.{w128, int_rem_euclid}
use Rattle.std.proofs.lemmas.Int.{ints}
use Rattle.ada_values.specs.Combine.{ranged, wrapped}
use Rattle.ada_values.specs.Whole.{IsWhole}
use Rattle.ada_values.specs.declared.scalars.OpFault.{OpFault}
use Rattle.ada_values.specs.declared.scalars.OpFault.TheVariants.{Overflow}

pub fits_whole : (v : ℤ) (x : Result ℤ OpFault) → IsWhole x (Ok (Some v)) → FitsSigned w128 v
fits_whole v (Ok z) w = rw w.1 w.0
fits_whole v (Err e) w = absurd w

pub in_range : (lo hi v : ℤ) (x : Result ℤ OpFault) → IsWhole x (Ok (Some v)) → int_le lo v ≡ true → int_le v hi ≡ true → Ok v ≡ ranged lo hi x
in_range lo hi v (Ok z) w h g = rw (← w.1, h, g) refl
in_range lo hi v (Err e) w h g = absurd w

pub below_range : (lo hi v : ℤ) (x : Result ℤ OpFault) → IsWhole x (Ok (Some v)) → int_le lo v ≡ false → Err Overflow ≡ ranged lo hi x
below_range lo hi v (Ok z) w h = rw (← w.1, h) refl
below_range lo hi v (Err e) w h = absurd w

never : (b : Bool) (z : ℤ) → Err Overflow ≡ (if b && false then Ok z else Err Overflow)
never true z = refl
never false z = refl

pub above_range : (lo hi v : ℤ) (x : Result ℤ OpFault) → IsWhole x (Ok (Some v)) → int_le v hi ≡ false → Err Overflow ≡ ranged lo hi x
above_range lo hi v (Ok z) w h = rw (← w.1, h) (never _ v)
above_range lo hi v (Err e) w h = absurd w

pub wrapped_is : (v n : ℤ) (x : Result ℤ OpFault) → IsWhole x (Ok (Some v)) → pos 2 ≤ℤ n → Ok (int_rem_euclid v n) ≡ wrapped n x
wrapped_is v (pos k) (Ok z) w h = rw (← w.1) refl
wrapped_is v (negsuc k) (Ok z) w h = absurd (omega (arith, ints))
wrapped_is v n (Err e) w h = absurd w
