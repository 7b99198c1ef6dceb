use Rattle.gnat_report.proofs.Reports.{lines_read_back}
use Rattle.gnat_report.proofs.laws.lines_read_back.Goals as goal

pub returns : goal.returns
returns c = lines_read_back
