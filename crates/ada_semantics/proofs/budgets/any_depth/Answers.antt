use Rattle.ada_semantics.proofs.AgreedRunning as agreed
use Rattle.ada_semantics.proofs.budgets.any_depth.Goals as goal

pub returns : goal.returns
returns c = agreed.any_depth
