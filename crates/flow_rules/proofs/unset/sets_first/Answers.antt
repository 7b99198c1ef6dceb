use Rattle.flow_rules.proofs.SetsFirst.{no_read, no_end}
use Rattle.flow_rules.proofs.unset.sets_first.Goals as goal

pub returns-clause-reads : goal.returns-clause-reads
returns-clause-reads c = no_read

pub returns-clause-ends : goal.returns-clause-ends
returns-clause-ends c = no_end
