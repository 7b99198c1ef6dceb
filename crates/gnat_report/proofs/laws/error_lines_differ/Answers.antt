use Rattle.gnat_report.proofs.Parts.{error_lines_differ}
use Rattle.gnat_report.proofs.laws.error_lines_differ.Goals as goal

pub returns : goal.returns
returns c = error_lines_differ
