-- A finite map from names to bytes, as a list of entries.
use Rattle.std.specs.Prelude.{◌≡◌, ◌≢◌, ℕ, List, ⊤, Option, None, Some}
use Rattle.std.specs.Option.{option_map}
use Rattle.std.specs.List.{find}
use Rattle.std.specs.Str.{bytes_eq}
use Rattle.keeper_io.specs.declared.entry.Entry.{Entry}

abbrev pub Map : Type 0
Map = List Entry

-- the bytes of the first entry of the name
abbrev pub entry_of : Map → List ℕ → Option (List ℕ)
entry_of map name = option_map (λ entry. entry.bytes) (find (λ entry. bytes_eq entry.name name) map)

-- a map, where it is told, has these bytes at the name, or lacks the name
abbrev pub Holds : Option Map → List ℕ → Option (List ℕ) → Type 0
Holds None name bytes = ⊤
Holds (Some map) name bytes = entry_of map name ≡ bytes

-- whether the map is told doesn't change, and where it is, each other name keeps its bytes
abbrev pub OthersStay : Option Map → Option Map → List ℕ → Type 0
OthersStay None None name = ⊤
OthersStay None (Some new) name = ⊥
OthersStay (Some old) None name = ⊥
OthersStay (Some old) (Some new) name = (other : List ℕ) → other ≢ name → entry_of new other ≡ entry_of old other
