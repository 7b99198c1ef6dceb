use Rattle.std.proofs.Common.{Some, map, take}
use Rattle.grammar_table.specs.Answers.{terminals}
use Rattle.grammar_table.specs.Runs.{Reached}
use Rattle.grammar_table.proofs.reading.derive_by.Given as goal

abbrev pub invariant-loop-at : goal.invariant-loop-at
invariant-loop-at l = Reached (map Some (take l.at (terminals l.tokens))) (take l.at (terminals l.tokens)) l.run.numbers l.run.levels l.run.stack
