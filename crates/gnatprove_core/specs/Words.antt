-- The words of the command line.
use Rattle.std.specs.Prelude.{ℕ, Bool, false, not, ◌&&◌, ◌||◌, ◌==◌, nat_le, Option, Some, None, List, [], ◌∷◌, length, codes, if◌then◌else◌}
use Rattle.std.specs.List.{list_all}
use Rattle.std.specs.Char.{is_ascii_alphanumeric}
use Rattle.std.specs.Str.{bytes_eq}

-- a letter, a digit, `_`, `.`, `/` or `-`
abbrev pub is_file_byte : ℕ → Bool
is_file_byte c = is_ascii_alphanumeric c || (c == 95) || (c == 46) || (c == 47) || (c == 45)

-- 1 to 255 of these bytes, of which the first is no `-`
abbrev pub is_file_name : List ℕ → Bool
is_file_name [] = false
is_file_name (c ∷ cs) = not (c == 45) && list_all is_file_byte (c ∷ cs) && nat_le (length (c ∷ cs)) 255

-- one or more names of files
abbrev pub are_names : List (List ℕ) → Bool
are_names [] = false
are_names (name ∷ names) = list_all is_file_name (name ∷ names)

-- the files of `prove FILE..`; no other words have a reading
abbrev pub files_of : List (List ℕ) → Option (List (List ℕ))
files_of [] = None
files_of (word ∷ names) = if bytes_eq word (codes "prove") && are_names names then Some names else None
