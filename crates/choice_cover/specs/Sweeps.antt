-- What a walk over ranges finds, whose first values rise: the steps of `Covering` and of the code.
use Rattle.std.specs.Prelude.{ℕ, ◌+◌, ◌<◌, ◌≤◌, length, take, Option, Some, None, Bool, true, false, cond, ◌&&◌, ◌||◌, ℤ, pos, ◌+ℤ◌, List, [], ◌∷◌, int_lt}
use Rattle.std.specs.Int.{int_max}
use Rattle.std.specs.Int.RustNames.{int_le}
use Rattle.typed_units.specs.declared.operators.Bounds.{Bounds}
use Rattle.choice_cover.specs.Cover.{times}

-- the range holds a value
abbrev pub holds_any : Bounds → Bool
holds_any range = int_le range.first range.last

-- each value of the range lies in lo .. hi
abbrev pub fits_in : ℤ → ℤ → Bounds → Bool
fits_in lo hi range = int_lt range.last range.first || (int_le lo range.first && int_le range.last hi)

-- each range begins after the end of the one before it, and the first after `reach`
abbrev pub apart_after : ℤ → List Bounds → Bool
apart_after reach [] = true
apart_after reach (b ∷ bs) = cond (int_le b.first reach) false (apart_after b.last bs)

abbrev pub apart : List Bounds → Bool
apart [] = true
apart (b ∷ bs) = apart_after b.last bs

-- the ranges hold all values from `next` to `hi`, and `next` is at most `hi`
abbrev pub fill : ℤ → ℤ → List Bounds → Bool
fill next hi [] = false
fill next hi (b ∷ bs) = cond (int_lt next b.first) false (cond (int_le hi b.last) true (fill (int_max next (b.last +ℤ pos 1)) hi bs))

-- no value lies in two of the ranges
abbrev pub Once : List Bounds → Type 0
Once ranges = (v : ℤ) → times ranges v ≤ 1

-- some value lies in two of the ranges
abbrev pub Crowded : List Bounds → Type 0
Crowded ranges = (v : ℤ) × (1 < times ranges v)

abbrev pub IsOnce : List Bounds → Bool → Type 0
IsOnce ranges true = Once ranges
IsOnce ranges false = Crowded ranges

-- the number of the first range that holds a value of one before it
abbrev pub IsFirstTwice : List Bounds → Option ℕ → Type 0
IsFirstTwice ranges None = Once ranges
IsFirstTwice ranges (Some k) = (k < length ranges) × Once (take k ranges) × Crowded (take (k + 1) ranges)
