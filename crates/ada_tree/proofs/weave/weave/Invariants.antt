use Rattle.std.proofs.Common.{◌≡◌, ◌++◌, drop}
use Rattle.grammar_table.specs.Answers.{start}
use Rattle.grammar_table.specs.Productions.{productions}
use Rattle.ada_tree.specs.Moves.{woven}
use Rattle.ada_tree.proofs.weave.weave.Given as goal

abbrev pub invariant-loop-production : goal.invariant-loop-production
invariant-loop-production l = l.moves ++ woven productions (drop l.production-index l.used) l.symbols ≡ woven productions l.used start
