use Rattle.std.proofs.Common.{◌≡◌, ◌<◌, ℕ, get_or, take}
use Rattle.gnat_report.specs.declared.rows.Row.{Row}
use Rattle.gnat_report.specs.Reading.{IsPlace}
use Rattle.gnat_report.specs.Text.{report_text_of}
use Rattle.gnat_report.proofs.text.report_text.Given as goal

abbrev pub invariant-loop-row : goal.invariant-loop-row
invariant-loop-row l = record {
  written : l.text.items ≡ report_text_of (take l.row-index l.row-items);
  places : (k : ℕ) (d : Row) → k < l.row-index → IsPlace (get_or l.row-items k d).key.place;
}
