use Rattle.form_prover.proofs.Complete.{all_proved_hold, failing_sites_have_rows}
use Rattle.form_prover.proofs.laws.rows_are_complete.Goals as goal

pub returns-clause-failing : goal.returns-clause-failing
returns-clause-failing c = failing_sites_have_rows

pub returns-clause-all : goal.returns-clause-all
returns-clause-all c = all_proved_hold
