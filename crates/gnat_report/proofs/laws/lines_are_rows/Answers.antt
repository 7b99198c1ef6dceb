use Rattle.gnat_report.proofs.Reports.{lines_are_rows}
use Rattle.gnat_report.proofs.laws.lines_are_rows.Goals as goal

pub returns : goal.returns
returns c = lines_are_rows
