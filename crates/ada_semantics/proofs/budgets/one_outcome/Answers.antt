use Rattle.ada_semantics.proofs.OneAnswer as one
use Rattle.ada_semantics.proofs.budgets.one_outcome.Goals as goal

pub returns : goal.returns
returns c = one.one_outcome
