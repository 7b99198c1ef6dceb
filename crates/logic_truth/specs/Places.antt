-- Arrays that are told apart by their items at a few indices.
use Rattle.std.specs.Prelude.{◌≡◌, Bool, true, false, ◌||◌, ◌&&◌, ℤ, List, [], ◌∷◌, Option, Some, None, if◌then◌else◌}
use Rattle.logic_terms.specs.Value.{Value, number, truth, array, record_of, same_int, same_value}
use Rattle.logic_terms.specs.Meaning.{item}
use Rattle.logic_terms.specs.Arrays.{has_item}

abbrev pub number_in : Value → Option ℤ
number_in (number n) = Some n
number_in _ = None

abbrev pub truth_in : Value → Option Bool
truth_in (truth b) = Some b
truth_in _ = None

abbrev pub is_array : Value → Bool
is_array (array k f l vs) = true
is_array _ = false

abbrev pub is_record : Value → Bool
is_record (record_of vs) = true
is_record _ = false

abbrev pub is_place : List ℤ → ℤ → Bool
is_place [] i = false
is_place (p ∷ ps) i = same_int p i || is_place ps i

-- all items outside these places are one
abbrev pub IsFlat : List ℤ → Value → Type 0
IsFlat ps a = (i j : ℤ) → has_item a i ≡ true → has_item a j ≡ true → is_place ps i ≡ false → is_place ps j ≡ false → item a i ≡ item a j

-- each index is alike one of these places, in both arrays
abbrev pub Tells : List ℤ → Value → Value → Type 0
Tells ps a b = (i : ℤ) → has_item a i ≡ true → (p : ℤ) × (is_place ps p ≡ true) × (has_item a p ≡ true) × (item a i ≡ item a p) × (item b i ≡ item b p)

-- the items at this index, where there are items, are the same
abbrev pub same_here : Value → Value → ℤ → Bool
same_here a b i = if has_item a i then same_value (item a i) (item b i) else true

-- the items at these places, where there are items, are the same
abbrev pub same_at : Value → Value → List ℤ → Bool
same_at a b [] = true
same_at a b (p ∷ ps) = same_here a b p && same_at a b ps
