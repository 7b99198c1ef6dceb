use Rattle.ada_semantics.proofs.OneAnswer as one
use Rattle.ada_semantics.proofs.budgets.one_answer.Goals as goal

pub returns : goal.returns
returns c = one.one_answer
