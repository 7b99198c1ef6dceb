-- The answer as a function of the bounds. It is the one that `IsCover` says: a law.
use Rattle.std.specs.Prelude.{Bool, false, cond, ◌&&◌, ◌||◌, not, ℤ, List, [], ◌∷◌, ◌++◌, length, int_lt}
use Rattle.std.specs.Int.RustNames.{int_le}
use Rattle.typed_units.specs.declared.operators.Bounds.{Bounds}
use Rattle.choice_cover.specs.declared.cover.Cover.{Cover}
use Rattle.choice_cover.specs.declared.cover.Cover.TheVariants as cover
use Rattle.choice_cover.specs.Sweeps.{fill, fits_in, holds_any}

-- some value lies in both
abbrev pub meet : Bounds → Bounds → Bool
meet b c = (holds_any b && holds_any c) && (int_le b.first c.last && int_le c.first b.last)

abbrev pub meets_any : Bounds → List Bounds → Bool
meets_any b [] = false
meets_any b (c ∷ cs) = meet b c || meets_any b cs

-- a range in its place among ranges whose first values rise
abbrev pub placed : Bounds → List Bounds → List Bounds
placed b [] = b ∷ []
placed b (c ∷ cs) = cond (int_le b.first c.first) (b ∷ c ∷ cs) (c ∷ placed b cs)

-- the ranges that hold a value, by their first values
abbrev pub by_first : List Bounds → List Bounds
by_first [] = []
by_first (b ∷ bs) = cond (holds_any b) (placed b (by_first bs)) (by_first bs)

abbrev pub is_full : ℤ → ℤ → List Bounds → Bool
is_full lo hi ranges = int_lt hi lo || fill lo hi (by_first ranges)

-- the answer for ranges of which the first ones, `before`, are in order
abbrev pub covering_after : List Bounds → ℤ → ℤ → List Bounds → Cover
covering_after before lo hi [] = cond (is_full lo hi before) cover.Whole cover.Missing
covering_after before lo hi (b ∷ bs) =
    cond (not (fits_in lo hi b)) (cover.Outside (length before))
    (cond (meets_any b before) (cover.Twice (length before)) (covering_after (before ++ b ∷ []) lo hi bs))

abbrev pub covering : List Bounds → ℤ → ℤ → Cover
covering ranges lo hi = covering_after [] lo hi ranges
