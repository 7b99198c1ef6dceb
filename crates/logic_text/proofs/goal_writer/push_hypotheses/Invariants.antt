use Rattle.std.proofs.Common.{◌≡◌, ◌++◌, drop, map}
use Rattle.logic_terms.specs.View.{formula}
use Rattle.logic_text.specs.Goals.{hypotheses_text}
use Rattle.logic_text.proofs.goal_writer.push_hypotheses.Given as goal

abbrev pub invariant-loop-p : goal.invariant-loop-p
invariant-loop-p l = l.fn.text.items ++ hypotheses_text (map formula l.hypotheses) ≡ l.text.items ++ hypotheses_text (map formula (drop l.p-index l.p-items))
