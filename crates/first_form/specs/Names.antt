-- Names that a file of the form may declare.
use Rattle.std.specs.Prelude.{ℕ, Bool, true, false, not, ◌&&◌, ◌||◌, nat_le, List, [], ◌∷◌, length, codes}
use Rattle.std.specs.Str.{str_eq_ignore_ascii_case}

-- upper and lower case are one (Ada RM 2.3)
abbrev pub same_name : List ℕ → List ℕ → Bool
same_name name other = str_eq_ignore_ascii_case name other

-- one of the names is this one
abbrev pub is_among : List (List ℕ) → List ℕ → Bool
is_among [] name = false
is_among (n ∷ ns) name = same_name n name || is_among ns name

-- no two of the names are one
abbrev pub are_different : List (List ℕ) → Bool
are_different [] = true
are_different (n ∷ ns) = not (is_among ns n) && are_different ns

-- names of package Standard (Ada RM A.1) that no file may declare, in lower case
unfoldable pub predefined_names : List (List ℕ)
predefined_names =
    codes "boolean" ∷ codes "integer" ∷ codes "natural" ∷ codes "positive" ∷ codes "long_long_integer" ∷ codes "true"
    ∷ codes "false" ∷ []

unfoldable pub is_predefined : List ℕ → Bool
is_predefined name = is_among predefined_names name

-- a name of at most 100 bytes that is free
abbrev pub is_name : List ℕ → Bool
is_name name = nat_le (length name) 100 && not (is_predefined name)
