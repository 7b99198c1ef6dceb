use Rattle.ada_semantics.proofs.SpentRunning as spent
use Rattle.ada_semantics.proofs.budgets.programs_take.Goals as goal

pub returns : goal.returns
returns c = spent.programs_take
