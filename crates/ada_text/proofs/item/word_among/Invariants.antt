use Rattle.std.proofs.Common.{◌≡◌, length, map}
use Rattle.ada_text.specs.Words.{word_among}
use Rattle.ada_text.proofs.item.word_among.Given as goal

abbrev pub invariant-loop-table : goal.invariant-loop-table
invariant-loop-table l = word_among (map (λ w. (w.0.now, w.1)) l.table) l.text ≡ word_among (map (λ w. (w.0.now, w.1)) l.initial.table) l.text

abbrev pub decreases-loop-table : goal.decreases-loop-table
decreases-loop-table l = length l.table
