use Rattle.gnat_report.proofs.Parts.{fault_lines_differ}
use Rattle.gnat_report.proofs.laws.fault_lines_differ.Goals as goal

pub returns : goal.returns
returns c = fault_lines_differ
