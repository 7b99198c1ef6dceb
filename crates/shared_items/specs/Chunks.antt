-- A list in chunks of 32 items, and what follows them.
use Rattle.std.specs.Prelude.{ℕ, zero, suc, Bool, true, ◌&&◌, ◌==◌, List, [], ◌∷◌, ◌++◌, length}

-- the items of the chunks one after the other, and then the others
abbrev pub chained : {A : Type 0} → List (List A) → List A → List A
chained [] rest = rest
chained (c ∷ cs) rest = c ++ chained cs rest

abbrev pub are_full : {A : Type 0} → List (List A) → Bool
are_full [] = true
are_full (c ∷ cs) = (length c == 32) && are_full cs

-- the list at a number from 0, or none of its items
abbrev pub list_at : {A : Type 0} → List (List A) → ℕ → List A
list_at [] k = []
list_at (c ∷ cs) zero = c
list_at (c ∷ cs) (suc k) = list_at cs k
