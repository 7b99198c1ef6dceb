-- The numbers of indexes, loop parameters and loops by their places.
use Rattle.std.specs.Prelude.{ℕ, ◌==◌, List, [], ◌∷◌, Option, Some, None, if◌then◌else◌}
use Rattle.reading_scope.specs.declared.numbers.Numbered.{Numbered}

-- the number of the first at a byte
abbrev pub numbered_at : ℕ → List Numbered → Option ℕ
numbered_at at [] = None
numbered_at at (n ∷ ns) = if n.at == at then Some n.number else numbered_at at ns

abbrev pub or_zero : Option ℕ → ℕ
or_zero (Some n) = n
or_zero None = 0

-- that number, 0 where nothing begins at the byte
abbrev pub number_in : List Numbered → ℕ → ℕ
number_in ns at = or_zero (numbered_at at ns)
