use Rattle.std.proofs.Common.{◌≡◌, length}
use Rattle.grammar_table.specs.Levels.{closed}
use Rattle.grammar_table.proofs.levels.Levels.close.Given as goal

abbrev pub invariant-loop-last : goal.invariant-loop-last
invariant-loop-last l = closed l.limit l.self ≡ closed l.limit l.initial.self

abbrev pub decreases-loop-last : goal.decreases-loop-last
decreases-loop-last l = length l.self
