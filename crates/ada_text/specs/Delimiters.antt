-- Delimiters.
use Rattle.std.specs.Prelude.{ℕ, ◌==◌, ◌&&◌, Option, Some, None, List, [], ◌∷◌, length, codes, nat_eq, if◌then◌else◌}
use Rattle.std.specs.List.{starts_with}
use Rattle.ada_text.specs.declared.delimiters.Delimiter.{Delimiter}
use Rattle.ada_text.specs.declared.delimiters.Delimiter.TheVariants as mark
use Rattle.ada_text.specs.declared.delimiters.TheConstants.{PAIRS, SINGLES}
use Rattle.ada_text.specs.declared.token.TokenKind.TheVariants as kind
use Rattle.ada_text.specs.declared.item.Item.{Item}

-- the delimiters and compound delimiters of the profile, the longest first (Ada RM 2.2)
unfoldable pub delimiters : List (List ℕ × Delimiter)
delimiters =
    (codes "=>", mark.Arrow) ∷ (codes "..", mark.DoubleDot) ∷ (codes "**", mark.DoubleStar) ∷ (codes ":=", mark.Assign) ∷ (codes "/=", mark.NotEqual) ∷ (codes ">=", mark.AtLeast)
    ∷ (codes "<=", mark.AtMost) ∷ (codes "<>", mark.Diamond) ∷ (codes "(", mark.Open) ∷ (codes ")", mark.Close) ∷ (codes ",", mark.Comma) ∷ (codes ";", mark.Semicolon)
    ∷ (codes ":", mark.Colon) ∷ (codes ".", mark.Dot) ∷ (codes "'", mark.Tick) ∷ (codes "+", mark.Plus) ∷ (codes "-", mark.Minus) ∷ (codes "*", mark.Star)
    ∷ (codes "/", mark.Slash) ∷ (codes "=", mark.Equal) ∷ (codes "<", mark.Less) ∷ (codes ">", mark.Greater) ∷ (codes "|", mark.Bar) ∷ []

-- the first of these whose text stands at the front
abbrev pub mark_among : List (List ℕ × Delimiter) → List ℕ → Option Item
mark_among [] bytes = None
mark_among (m ∷ ms) bytes = if starts_with nat_eq bytes m.0 then Some (record { kind = Some (kind.Mark m.1); length = length m.0 }) else mark_among ms bytes

unfoldable pub mark_at : List ℕ → Option Item
mark_at = mark_among delimiters

-- ---- the search by bytes. No public contract rests on these definitions: that they find the same is proved.

-- the first delimiter of two bytes that these are
abbrev pub pair_among : List (ℕ × ℕ × Delimiter) → ℕ → ℕ → Option Delimiter
pair_among [] a b = None
pair_among (m ∷ ms) a b = if m.0 == a && m.1 == b then Some m.2 else pair_among ms a b

-- the first delimiter of one byte that this is
abbrev pub single_among : List (ℕ × Delimiter) → ℕ → Option Delimiter
single_among [] a = None
single_among (m ∷ ms) a = if m.0 == a then Some m.1 else single_among ms a

-- a delimiter of so many bytes
abbrev pub marked : ℕ → Delimiter → Item
marked n m = record { kind = Some (kind.Mark m); length = n }

abbrev pub single_mark : Option Delimiter → Option Item
single_mark None = None
single_mark (Some m) = Some (marked 1 m)

-- the delimiter of two bytes, or else that of one
abbrev pub either_mark : Option Delimiter → Option Delimiter → Option Item
either_mark (Some m) single = Some (marked 2 m)
either_mark None single = single_mark single

unfoldable pub mark_by : ℕ → ℕ → Option Item
mark_by a b = either_mark (pair_among PAIRS a b) (single_among SINGLES a)
