-- What a text says as a report.
use Rattle.std.specs.Prelude.{◌≡◌, ◌≢◌, ℕ, ◌^◌, ◌<◌, ◌==◌, if◌then◌else◌, List, [], ◌∷◌, ◌++◌, map, take, All, Any, Contains, codes}
use Rattle.ada_values.specs.declared.place.Place.{Place}
use Rattle.gnat_report.specs.declared.rows.Row.{Row}
use Rattle.gnat_report.specs.Text.{place_text, row_line, report_text_of}

-- the byte put before the first line
abbrev pub with_first : ℕ → List (List ℕ) → List (List ℕ)
with_first c [] = []
with_first c (line ∷ lines) = (c ∷ line) ∷ lines

-- the pieces of the bytes that a line feed ends, in order and without it
abbrev pub whole_lines : List ℕ → List (List ℕ)
whole_lines [] = []
whole_lines (c ∷ bytes) = if c == 10 then [] ∷ whole_lines bytes else with_first c (whole_lines bytes)

-- no colon and no line feed
abbrev pub IsRowName : List ℕ → Type 0
IsRowName name = All (λ c. (c ≢ 58) × (c ≢ 10)) name

-- a place whose line and column are numbers of their type
pub record IsPlace (place : Place) : Type 0 where
  pub line : place.line < 2 ^ 32
  pub column : place.column < 2 ^ 32

-- a row at such a place, in a file of such a name
pub record IsRow (row : Row) : Type 0 where
  pub name : IsRowName row.name
  pub place : IsPlace row.key.place

-- the rows stand at such places
abbrev pub HavePlaces : List Row → Type 0
HavePlaces rows = All (λ row. IsPlace row.key.place) rows

-- all that is written of the two rows is the same
pub record SaysTheSame (row other : Row) : Type 0 where
  pub name : other.name ≡ row.name
  pub line : other.key.place.line ≡ row.key.place.line
  pub column : other.key.place.column ≡ row.key.place.column
  pub kind : other.key.kind ≡ row.key.kind
  pub status : other.status ≡ row.status

-- The whole lines of a report are its rows' lines, and those of what was written of it are its first rows' lines.
abbrev pub LinesAreRows : Type 0
LinesAreRows =
    (rows : List Row) → All (λ row. IsRowName row.name) rows
    → (whole_lines (report_text_of rows) ≡ map row_line rows)
    × ((k : ℕ) → (j : ℕ) × (whole_lines (take k (report_text_of rows)) ≡ map row_line (take j rows)))

-- A row's line that is a whole line of a report, or of what was written of it, is that of a row of the report.
abbrev pub LinesReadBack : Type 0
LinesReadBack =
    (rows : List Row) (row : Row) (k : ℕ) → All IsRow rows → IsRow row
    → Contains (whole_lines (take k (report_text_of rows))) (row_line row) → Any (SaysTheSame row) rows

-- A text that has a line feed at its end alone is one whole line.
abbrev pub OneLineIsWhole : Type 0
OneLineIsWhole = (line : List ℕ) → All (λ c. c ≢ 10) line → whole_lines (line ++ codes "\n") ≡ line ∷ []

-- No row's line begins with `gnatprove: `.
abbrev pub FaultLinesDiffer : Type 0
FaultLinesDiffer = (row : Row) (rest : List ℕ) → IsRowName row.name → row_line row ≡ codes "gnatprove: " ++ rest → ⊥

-- No row's line is that of an error at a place in a file of such a name.
abbrev pub ErrorLinesDiffer : Type 0
ErrorLinesDiffer =
    (row : Row) (name : List ℕ) (place : Place) (rest : List ℕ) → IsRowName row.name → IsRowName name
    → row_line row ≡ name ++ (place_text place ++ (codes "error: " ++ rest)) → ⊥
