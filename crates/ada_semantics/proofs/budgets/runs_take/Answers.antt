use Rattle.ada_semantics.proofs.SpentRunning as spent
use Rattle.ada_semantics.proofs.budgets.runs_take.Goals as goal

pub returns : goal.returns
returns c = spent.runs_take
