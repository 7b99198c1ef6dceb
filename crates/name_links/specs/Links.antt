-- What identifiers stand for.
use Rattle.std.specs.Prelude.{◌≡◌, ℕ, List, [], ◌∷◌, Option, Some, None, if◌then◌else◌}
use Rattle.std.specs.BTreeMap.{BTreeMap, get}
use Rattle.std.specs.declared.cmp.Ordering.{Ordering}
use Rattle.std.specs.Ordering.{nat_cmp, ordering_then}
use Rattle.name_library.specs.declared.links.Link.{Link}
use Rattle.name_library.specs.declared.links.Spot.{Spot}
use Rattle.name_library.specs.declared.links.Usage.{Usage}
use Rattle.name_library.specs.Library.{same_spot}

-- that of the first usage at the place
abbrev pub link_at : List Usage → Spot → Option Link
link_at [] spot = None
link_at (u ∷ us) spot = if same_spot spot u.spot then Some u.link else link_at us spot

-- places in order: by the file, and then by the byte
abbrev pub place_cmp : ℕ × ℕ → ℕ × ℕ → Ordering
place_cmp p q = ordering_then (nat_cmp p.0 q.0) (nat_cmp p.1 q.1)

-- a map has the link of each place. No public contract rests on this definition.
abbrev pub HasLinks : BTreeMap (ℕ × ℕ) Link → List Usage → Type 0
HasLinks m us = (file at : ℕ) → get place_cmp m (file, at) ≡ link_at us (record { file = file; at = at })
