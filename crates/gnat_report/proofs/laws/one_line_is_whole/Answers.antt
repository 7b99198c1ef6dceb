use Rattle.gnat_report.proofs.Lines.{one_line_is_whole}
use Rattle.gnat_report.proofs.laws.one_line_is_whole.Goals as goal

pub returns : goal.returns
returns c = one_line_is_whole
