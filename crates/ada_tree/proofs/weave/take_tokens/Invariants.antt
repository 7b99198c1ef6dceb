use Rattle.std.proofs.Common.{◌≡◌, ◌++◌, length}
use Rattle.ada_tree.specs.Moves.{after_phrase, takes_before}
use Rattle.ada_tree.proofs.weave.take_tokens.Given as goal

abbrev pub invariant-loop-moves : goal.invariant-loop-moves
invariant-loop-moves l = (after_phrase l.symbols ≡ after_phrase l.fn.symbols) × (l.moves ++ takes_before l.symbols ≡ l.fn.moves ++ takes_before l.fn.symbols)

abbrev pub decreases-loop-moves : goal.decreases-loop-moves
decreases-loop-moves l = length l.symbols
