-- Numbers that rise.
use Rattle.std.specs.Prelude.{ℕ, ◌<◌, List, [], ◌∷◌}

-- each number is above the one before, and the first above `from`
abbrev pub AreAbove : ℕ → List ℕ → Type 0
AreAbove from [] = Unit {0}
AreAbove from (n ∷ ns) = (from < n) × AreAbove n ns
