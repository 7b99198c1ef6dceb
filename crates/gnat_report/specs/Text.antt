-- The text of a report.
use Rattle.std.specs.Prelude.{ℕ, List, ◌++◌, codes}
use Rattle.std.specs.List.{flat_map}
use Rattle.std.specs.Fmt.{decimal}
use Rattle.ada_values.specs.declared.place.Place.{Place}
use Rattle.typed_units.specs.declared.checks.CheckKind.{CheckKind}
use Rattle.typed_units.specs.declared.checks.CheckKind.TheVariants.{Overflow, Range, Index, Division, Pre, Post, Assert, Assume, InvFirst, InvKept, Variant}
use Rattle.gnat_report.specs.declared.rows.Row.{Row}
use Rattle.gnat_report.specs.declared.rows.RowStatus.{RowStatus}
use Rattle.gnat_report.specs.declared.rows.RowStatus.TheVariants.{Proved, Assumed, Unproved}

-- the words for a kind of check
abbrev pub words_of : CheckKind → List ℕ
words_of Overflow = codes "overflow check"
words_of Range = codes "range check"
words_of Index = codes "index check"
words_of Division = codes "division check"
words_of Pre = codes "precondition"
words_of Post = codes "postcondition"
words_of Assert = codes "assertion"
words_of Assume = codes "assumption"
words_of InvFirst = codes "loop invariant initialization"
words_of InvKept = codes "loop invariant preservation"
words_of Variant = codes "loop variant"

abbrev pub severity_of : RowStatus → List ℕ
severity_of Proved = codes "info"
severity_of Assumed = codes "info"
severity_of Unproved = codes "medium"

abbrev pub outcome_of : RowStatus → List ℕ
outcome_of Proved = codes "proved"
outcome_of Assumed = codes "assumed"
outcome_of Unproved = codes "might fail (no counterexample)"

-- `SEVERITY: WORDS OUTCOME`
abbrev pub outcome_text : CheckKind → RowStatus → List ℕ
outcome_text kind status = severity_of status ++ (codes ": " ++ (words_of kind ++ (codes " " ++ outcome_of status)))

-- `:LINE:COLUMN: `
abbrev pub place_text : Place → List ℕ
place_text place = codes ":" ++ (decimal place.line ++ (codes ":" ++ (decimal place.column ++ codes ": ")))

-- the line of a row, without its end
abbrev pub row_line : Row → List ℕ
row_line row = row.name ++ (place_text row.key.place ++ outcome_text row.key.kind row.status)

-- the line of a row, ended by a line feed
abbrev pub line_text : Row → List ℕ
line_text row = row_line row ++ codes "\n"

-- the text of a report: the lines of its rows, in order
abbrev pub report_text_of : List Row → List ℕ
report_text_of rows = flat_map line_text rows
