use Rattle.std.proofs.Common.{List}
use Rattle.grammar_table.specs.declared.symbols.Terminal.{Terminal}
use Rattle.grammar_table.specs.Runs.{Reached, and_then}
use Rattle.grammar_table.proofs.Weights.{lead}
use Rattle.grammar_table.proofs.run.Run.settle.Given as goal

abbrev pub invariant-loop-phrase : goal.invariant-loop-phrase
invariant-loop-phrase l =
    (ts : List Terminal) → Reached (and_then ts l.next) ts l.initial.self.numbers l.initial.self.levels l.initial.self.stack → Reached (and_then ts l.next) ts l.self.numbers l.self.levels l.self.stack

abbrev pub decreases-loop-phrase : goal.decreases-loop-phrase
decreases-loop-phrase l = lead l.self.stack
