use Rattle.declaration_laws.proofs.Answered.{answer_is_told}
use Rattle.declaration_laws.proofs.laws.answers_are_told.Goals as goal

pub returns : goal.returns
returns c = answer_is_told
