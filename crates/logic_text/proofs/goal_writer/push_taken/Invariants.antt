use Rattle.std.proofs.Common.{◌≡◌, ◌++◌, drop, map}
use Rattle.logic_terms.specs.Sorts.{sort as kind_of, kinds_in}
use Rattle.logic_text.specs.Goals.{taken_text}
use Rattle.logic_text.proofs.goal_writer.push_taken.Given as goal

abbrev pub invariant-loop-sort : goal.invariant-loop-sort
invariant-loop-sort l = l.fn.text.items ++ taken_text (kinds_in (map kind_of l.sorts)) ≡ l.text.items ++ taken_text (kinds_in (map kind_of (drop l.sort-index l.sort-items)))
