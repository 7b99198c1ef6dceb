-- What the numbering keeps of the names so far. No public contract rests on these definitions.
use Rattle.std.specs.Prelude.{◌≡◌, ℕ, suc, ◌+◌, ◌≤◌, List, [], ◌∷◌, ◌++◌, map, length, Option, Some, None, option_map, if◌then◌else◌}
use Rattle.std.specs.List.{sum_by}
use Rattle.std.specs.BTreeMap.{BTreeMap, get_by}
use Rattle.std.specs.Cmp.Lexicographic.{slice_cmp}
use Rattle.std.specs.Ordering.{nat_cmp}
use Rattle.std.specs.Str.{bytes_eq, str_to_ascii_lowercase}
use Rattle.ada_text.specs.declared.token.Span.{Span}
use Rattle.name_library.specs.declared.events.Ident.{Ident}
use Rattle.name_numbers.specs.Numbers.{identifiers, known_names, names_in, text_at}
use denote.Ref.{Bor}

abbrev pub lower_cased : List (List ℕ) → List (List ℕ)
lower_cased = map str_to_ascii_lowercase

abbrev pub first_place : List (List ℕ) → List ℕ → Option ℕ
first_place [] text = None
first_place (name ∷ names) text = if bytes_eq text name then Some 0 else option_map suc (first_place names text)

-- the first place of the text in the names, and also where more names follow
abbrev pub IsPlaceIn : List (List ℕ) → List ℕ → ℕ → Type 0
IsPlaceIn names text place = (more : List (List ℕ)) → first_place (names ++ more) text ≡ Some place

-- a map has the first place of each text
abbrev pub Knows : BTreeMap (Bor (List ℕ)) ℕ → List (List ℕ) → Type 0
Knows m names = (text : List ℕ) → get_by (λ k. slice_cmp nat_cmp text k.now) m ≡ first_place names text

-- after the names and one more, a map has the places of all, and this is that of the one
abbrev pub KnowsName : BTreeMap (Bor (List ℕ)) ℕ → List (List ℕ) → List ℕ → ℕ → Type 0
KnowsName m names name place = Knows m (names ++ name ∷ []) × IsPlaceIn (names ++ name ∷ []) name place

-- the first place of the text, or the count of the names
abbrev pub place : List (List ℕ) → List ℕ → ℕ
place [] text = 0
place (name ∷ names) text = if bytes_eq text name then 0 else 1 + place names text

abbrev pub placed : List (List ℕ) → List ℕ → Span → Ident
placed names folded s = record { name = place names (text_at folded s); at = s.from }

-- the identifiers have the places of their names, and also where more names follow
abbrev pub ArePlaced : List (List ℕ) → List ℕ → List Span → List Ident → Type 0
ArePlaced names folded spans idents = (more : List (List ℕ)) → idents ≡ map (placed (names ++ more) folded) spans

-- after the names and those of identifiers, a map has the places of all and the identifiers have theirs
abbrev pub Reads : List (List ℕ) → List ℕ → List Span → BTreeMap (Bor (List ℕ)) ℕ → List Ident → Type 0
Reads names folded spans m idents = Knows m (names ++ map (text_at folded) spans) × ArePlaced (names ++ map (text_at folded) spans) folded spans idents

-- the identifiers of a text, with the places of their texts in lower case
abbrev pub numbered_as : List (List ℕ) → List ℕ → List Ident
numbered_as names text = map (placed names (str_to_ascii_lowercase text)) (identifiers text)

abbrev pub names_so_far : List (List ℕ) → List (List ℕ)
names_so_far texts = lower_cased (known_names ++ names_in texts)

-- what is known after these texts
pub record SoFar (m : BTreeMap (Bor (List ℕ)) ℕ) (texts : List (List ℕ)) (count : ℕ) (found : List (List Ident)) : Type 0 where
  pub counted : length (names_so_far texts) ≡ count
  pub few : count ≤ length known_names + sum_by length texts
  pub names : Knows m (names_so_far texts)
  pub numbered : (more : List (List ℕ)) → found ≡ map (numbered_as (names_so_far texts ++ more)) texts
