-- Whether choices give each value of a range, and each once. -- Ada RM 4.3.3, 5.4
use Rattle.std.specs.Prelude.{◌≡◌, ℕ, ◌≤◌, ◌<◌, Bool, true, false, cond, ℤ, List, Some, slice_get, take, count_by}
use Rattle.ada_values.specs.Scalars.{within}
use Rattle.typed_units.specs.declared.operators.Bounds.{Bounds}
use Rattle.choice_cover.specs.declared.cover.Cover.{Cover}
use Rattle.choice_cover.specs.declared.cover.Cover.TheVariants as cover

-- the value lies in the range
abbrev pub holds : ℤ → Bounds → Bool
holds v range = within range.first range.last v

-- how many of the ranges hold the value
abbrev pub times : List Bounds → ℤ → ℕ
times ranges v = count_by (holds v) ranges

-- no value lies in two of the ranges, and none outside lo .. hi lies in one
abbrev pub AtMostOnce : ℤ → ℤ → List Bounds → Type 0
AtMostOnce lo hi ranges = (v : ℤ) → times ranges v ≤ cond (within lo hi v) 1 0

-- each value of lo .. hi lies in one of the ranges, and no other value lies in any
abbrev pub EachOnce : ℤ → ℤ → List Bounds → Type 0
EachOnce lo hi ranges = (v : ℤ) → times ranges v ≡ cond (within lo hi v) 1 0

-- all is well before range k, which holds a value outside lo .. hi
pub record IsOutside (ranges : List Bounds) (lo hi : ℤ) (k : ℕ) : Type 0 where
  pub before : AtMostOnce lo hi (take k ranges)
  pub range : Bounds
  pub at : slice_get ranges k ≡ Some range
  pub value : ℤ
  pub held : holds value range ≡ true
  pub outside : within lo hi value ≡ false

-- all is well before range k, which lies in lo .. hi, and holds a value that a range before it holds too
pub record IsTwice (ranges : List Bounds) (lo hi : ℤ) (k : ℕ) : Type 0 where
  pub before : AtMostOnce lo hi (take k ranges)
  pub range : Bounds
  pub at : slice_get ranges k ≡ Some range
  pub inside : (v : ℤ) → holds v range ≡ true → within lo hi v ≡ true
  pub value : ℤ
  pub held : holds value range ≡ true
  pub twice : 0 < times (take k ranges) value

-- all is well with the ranges, but none of them holds some value of lo .. hi
pub record IsMissing (ranges : List Bounds) (lo hi : ℤ) : Type 0 where
  pub all : AtMostOnce lo hi ranges
  pub value : ℤ
  pub inside : within lo hi value ≡ true
  pub missing : times ranges value ≡ 0

-- what the ranges are for the values lo .. hi
abbrev pub IsCover : List Bounds → ℤ → ℤ → Cover → Type 0
IsCover ranges lo hi (cover.Outside k) = IsOutside ranges lo hi k
IsCover ranges lo hi (cover.Twice k) = IsTwice ranges lo hi k
IsCover ranges lo hi cover.Missing = IsMissing ranges lo hi
IsCover ranges lo hi cover.Whole = EachOnce lo hi ranges
