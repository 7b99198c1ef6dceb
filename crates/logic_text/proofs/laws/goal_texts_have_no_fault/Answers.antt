use Rattle.logic_text.proofs.Wholes.{good_goal}
use Rattle.logic_text.proofs.laws.goal_texts_have_no_fault.Goals as goal

pub returns : goal.returns
returns c = λ p at h b. good_goal p at h b
