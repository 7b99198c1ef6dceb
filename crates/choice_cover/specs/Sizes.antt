-- How many values ranges hold.
use Rattle.std.specs.Prelude.{ℤ, pos, ◌+ℤ◌, ◌-ℤ◌, List, [], ◌∷◌, if◌then◌else◌, int_lt}
use Rattle.typed_units.specs.declared.operators.Bounds.{Bounds}

-- how many values there are from `lo` to `hi`
abbrev pub size : ℤ → ℤ → ℤ
size lo hi = if int_lt hi lo then pos 0 else (hi -ℤ lo) +ℤ pos 1

-- how many the ranges have together, where one that lies in two of them counts twice
abbrev pub sizes : List Bounds → ℤ
sizes [] = pos 0
sizes (b ∷ bs) = size b.first b.last +ℤ sizes bs
