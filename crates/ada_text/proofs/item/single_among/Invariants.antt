use Rattle.std.proofs.Common.{◌≡◌, length}
use Rattle.ada_text.specs.Delimiters.{single_among}
use Rattle.ada_text.proofs.item.single_among.Given as goal

abbrev pub invariant-loop-table : goal.invariant-loop-table
invariant-loop-table l = single_among l.table l.byte ≡ single_among l.initial.table l.byte

abbrev pub decreases-loop-table : goal.decreases-loop-table
decreases-loop-table l = length l.table
