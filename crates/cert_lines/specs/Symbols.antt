-- The symbols that a line may name: those of the goal, then new ones of numbers; and two kinds that lines ask for.
use Rattle.std.specs.Prelude.{ℕ, zero, suc, Bool, true, false, List, [], ◌∷◌, ◌++◌, Option, Some}
use Rattle.logic_terms.specs.Value.{Kind, numbers, truths}
use Rattle.logic_terms.specs.Sorting.{Signature}

-- n symbols of numbers
abbrev pub new_kinds : ℕ → List Kind
new_kinds zero = []
new_kinds (suc n) = numbers ∷ new_kinds n

-- the goal's symbols, then the new ones; the goal's calls
abbrev pub with_new : Signature → ℕ → Signature
with_new s n = record { symbols = s.symbols ++ new_kinds n; calls = s.calls }

abbrev pub is_some_numbers : Option Kind → Bool
is_some_numbers (Some numbers) = true
is_some_numbers _ = false

abbrev pub is_some_truths : Option Kind → Bool
is_some_truths (Some truths) = true
is_some_truths _ = false
