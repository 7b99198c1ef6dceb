use Rattle.name_events.proofs.Balance.{all_closed}
use Rattle.name_events.proofs.laws.scopes_nest.Goals as goal

pub returns : goal.returns
returns c = all_closed
