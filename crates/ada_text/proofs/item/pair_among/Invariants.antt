use Rattle.std.proofs.Common.{◌≡◌, length}
use Rattle.ada_text.specs.Delimiters.{pair_among}
use Rattle.ada_text.proofs.item.pair_among.Given as goal

abbrev pub invariant-loop-table : goal.invariant-loop-table
invariant-loop-table l = pair_among l.table l.first l.second ≡ pair_among l.initial.table l.first l.second

abbrev pub decreases-loop-table : goal.decreases-loop-table
decreases-loop-table l = length l.table
