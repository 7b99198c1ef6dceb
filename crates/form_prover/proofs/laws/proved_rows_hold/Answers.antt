use Rattle.form_prover.proofs.Sound.{rows_hold}
use Rattle.form_prover.proofs.laws.proved_rows_hold.Goals as goal

pub returns : goal.returns
returns c = rows_hold
