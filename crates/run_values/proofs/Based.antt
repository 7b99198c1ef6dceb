-- Results with the check of the base range.
use Rattle.std.proofs.Common.{◌≡◌, refl, ℕ, Bool, true, false, ℤ, pos, ◌+ℤ◌, ◌-ℤ◌, None, Ok, Err}
use Rattle.std.specs.Prelude.{if◌then◌else◌}
use Rattle.ada_values.specs.Value.{number}
use Rattle.ada_values.specs.Scalars.{within}
use Rattle.ada_values.specs.Combine.{combined, ranged as in_base}
use Rattle.ada_values.specs.declared.place.Place.{Place}
use Rattle.ada_values.specs.declared.scalars.Op.TheVariants.{Add, Sub}
use Rattle.ada_values.specs.declared.scalars.OpFault.TheVariants.{Overflow}
use Rattle.ada_values.specs.declared.scalars.Scalar.{Scalar}
use Rattle.typed_units.specs.declared.checks.CheckKind.TheVariants as kind
use Rattle.ada_semantics.specs.Outcome.{gives, check}
use Rattle.ada_semantics.specs.Operators.{ranged, span}
use Rattle.run_values.specs.Outcomes.{based}

based_if : (b : Bool) (z : ℤ) (p : Place) (n : ℕ) → based (if b then Ok z else Err Overflow) p n ≡ check b p kind.Range (gives (number z) n)
based_if true z p n = refl
based_if false z p n = refl

pub based_add : (s : Scalar) (x : ℤ) (p : Place) (n : ℕ) → based (combined Add (record s { modulus = None }) x (pos 1)) p n ≡ ranged p s (x +ℤ pos 1) n
based_add s x p n = based_if (within s.base_lo s.base_hi (x +ℤ pos 1)) (x +ℤ pos 1) p n

pub based_sub : (s : Scalar) (x : ℤ) (p : Place) (n : ℕ) → based (combined Sub (record s { modulus = None }) x (pos 1)) p n ≡ ranged p s (x -ℤ pos 1) n
based_sub s x p n = based_if (within s.base_lo s.base_hi (x -ℤ pos 1)) (x -ℤ pos 1) p n

pub based_span : (s : Scalar) (f l : ℤ) (p : Place) (n : ℕ) → based (in_base s.base_lo s.base_hi (Ok (pos (span f l)))) p n ≡ ranged p s (pos (span f l)) n
based_span s f l p n = based_if (within s.base_lo s.base_hi (pos (span f l))) (pos (span f l)) p n
