-- Arrays and records, as the evaluator takes them apart.
use Rattle.std.specs.Prelude.{Bool, true, false, ℤ, pos, ◌==◌}
use Rattle.logic_terms.specs.Value.{Value, number, array, default, count}
use Rattle.logic_terms.specs.Meaning.{within}
use Rattle.logic_terms.specs.Sorting.{length_of}

-- whether it is an array with an item at this index
abbrev pub has_item : Value → ℤ → Bool
has_item (array k f l vs) i = within f l i
has_item _ i = false

-- what stands outside an array's bounds
abbrev pub no_item : Value → Value
no_item (array k f l vs) = default k
no_item _ = number (pos 0)

-- an array has as many items as indices
abbrev pub is_whole : Value → Bool
is_whole (array k f l vs) = length_of vs == count f l
is_whole _ = true
