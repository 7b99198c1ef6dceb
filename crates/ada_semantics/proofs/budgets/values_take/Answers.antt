use Rattle.ada_semantics.proofs.Spent as spent
use Rattle.ada_semantics.proofs.budgets.values_take.Goals as goal

pub returns : goal.returns
returns c = spent.values_take
