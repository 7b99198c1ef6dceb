use Rattle.std.proofs.Common.{◌≡◌, ◌++◌, drop, map}
use Rattle.logic_terms.specs.Goal.{called_as}
use Rattle.logic_text.specs.Goals.{calls_text}
use Rattle.logic_text.proofs.goal_writer.push_calls.Given as goal

abbrev pub invariant-loop-call : goal.invariant-loop-call
invariant-loop-call l = l.fn.text.items ++ calls_text (map called_as l.calls) ≡ l.text.items ++ calls_text (map called_as (drop l.call-index l.call-items))
