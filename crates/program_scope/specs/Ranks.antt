-- The numbers of declaring identifiers by their places.
use Rattle.std.specs.Prelude.{◌≡◌, ℕ, suc, List, [], ◌∷◌, Option, Some, None, if◌then◌else◌}
use Rattle.std.specs.BTreeMap.{BTreeMap, get}
use Rattle.name_library.specs.declared.links.Spot.{Spot}
use Rattle.name_links.specs.Links.{place_cmp}
use Rattle.statement_typing.specs.Files.{same_spot}

-- the number of the first at a place, where the list's numbers begin with n
abbrev pub ranked_from : ℕ → List Spot → Spot → Option ℕ
ranked_from n [] s = None
ranked_from n (t ∷ ts) s = if same_spot t s then Some n else ranked_from (suc n) ts s

-- a map has the number of each. No public contract rests on this definition.
abbrev pub HasRanks : BTreeMap (ℕ × ℕ) ℕ → List Spot → Type 0
HasRanks m ss = (file at : ℕ) → get place_cmp m (file, at) ≡ ranked_from 0 ss (record { file = file; at = at })
