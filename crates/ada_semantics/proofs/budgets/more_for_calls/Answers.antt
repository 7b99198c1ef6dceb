use Rattle.ada_semantics.proofs.GrownRunning as grown
use Rattle.ada_semantics.proofs.budgets.more_for_calls.Goals as goal

pub returns : goal.returns
returns c = grown.calls_grow
