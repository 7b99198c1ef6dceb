-- What stands in a text at the spans of a tree.
use Rattle.std.specs.Prelude.{◌≡◌, ℕ, ◌<◌, ◌-◌, ◌^◌, Bool, List, take, drop}
use Rattle.ada_values.specs.declared.place.Place.{Place}
use Rattle.ada_text.specs.declared.token.Span.{Span}
use Rattle.ada_text.specs.Places.{column_after, counted_before, line_after}
use Rattle.first_form.specs.Names.{same_name}

-- the bytes of a span
abbrev pub text_at : List ℕ → Span → List ℕ
text_at text s = take (s.to - s.from) (drop s.from text)

-- the span is this word, in any case (Ada RM 2.3)
abbrev pub is_word : List ℕ → Span → List ℕ → Bool
is_word text s word = same_name (text_at text s) word

-- the place of a span's first byte
abbrev pub place_at : List ℕ → Span → Place
place_at text s =
    record { file = 0; line = line_after (counted_before text s.from); column = column_after (counted_before text s.from) }

-- a place in the one file, whose line and column are numbers of their type
pub record IsInFile (place : Place) : Type 0 where
  pub file : place.file ≡ 0
  pub line : place.line < 2 ^ 32
  pub column : place.column < 2 ^ 32
