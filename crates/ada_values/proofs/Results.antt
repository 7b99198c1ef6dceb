-- A result lies in the base range.
use Rattle.std.proofs.Common.{◌≡◌, refl, T, Bool, true, false, ◌&&◌, arith, ℤ, Option, Some, None, Result, Ok, Err}
use Rattle.std.specs.Prelude.{if◌then◌else◌}
use Rattle.std.specs.Int.RustNames.{int_le}
use Rattle.std.proofs.lemmas.Int.{ints}
use Rattle.ada_values.specs.Scalars.{within, HasModulus, IsBetween}
use Rattle.ada_values.specs.Combine.{floor_mod, settled, ResultLaw, exact}
use Rattle.ada_values.specs.declared.scalars.OpFault.{OpFault}
use Rattle.ada_values.specs.declared.scalars.OpFault.TheVariants.{Overflow}
use Rattle.ada_values.proofs.Division.{floor_above}

pub both_true : (a b : Bool) → (a && b) ≡ true → (a ≡ true) × (b ≡ true)
both_true true b h = (refl, h)
both_true false b h = absurd cc

pub between_from_test : (lo hi v : ℤ) → within lo hi v ≡ true → IsBetween lo hi v
between_from_test lo hi v h =
    let parts = both_true (int_le lo v) (int_le v hi) h in
    let low : int_le lo v ≡ true = parts.0 in let high : int_le v hi ≡ true = parts.1 in (omega (arith, ints), omega (arith, ints))

true_from_T : (b : Bool) → T b → b ≡ true
true_from_T true t = refl
true_from_T false t = absurd t

pub test_from_between : (lo hi v : ℤ) → IsBetween lo hi v → within lo hi v ≡ true
test_from_between lo hi v h =
    rw (true_from_T _ h.0.le, true_from_T _ h.1.le) refl

chosen : (lo hi v z : ℤ) (test : Bool) → within lo hi z ≡ test → ◌≡◌ {A = Result ℤ OpFault} (if test then Ok z else Err Overflow) (Ok v) → IsBetween lo hi v
chosen lo hi v z true t e = let same : z ≡ v = cc in between_from_test lo hi v (rw same at t)
chosen lo hi v z false t e = absurd cc

reduced : (lo hi v z n : ℤ) → HasModulus (Some n) lo hi → floor_mod z n ≡ v → IsBetween lo hi v
reduced lo hi v z n h e =
    let range = floor_above z n (omega (arith, ints)) in rw (h.2, h.3, ← e) (range.0, omega (arith, ints, range.1))

settled_between : (m : Option ℤ) (lo hi v : ℤ) (x : Result ℤ OpFault) → HasModulus m lo hi → settled m lo hi x ≡ Ok v → IsBetween lo hi v
settled_between None lo hi v (Err e) h is = absurd cc
settled_between (Some n) lo hi v (Err e) h is = absurd cc
settled_between None lo hi v (Ok z) h is = chosen lo hi v z (within lo hi z) refl is
settled_between (Some n) lo hi v (Ok z) h is = reduced lo hi v z n h cc

pub result_law : ResultLaw
result_law op s a b v h is = settled_between s.modulus s.base_lo s.base_hi v (exact op a b) h is
