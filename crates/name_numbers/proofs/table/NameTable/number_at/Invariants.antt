use Rattle.std.proofs.Common.{length}
use Rattle.name_numbers.specs.Numbers.{number_at}
use Rattle.name_numbers.proofs.Rising.{Kept}
use Rattle.name_numbers.proofs.table.NameTable.number_at.Given as goal

abbrev pub invariant-loop-rest : goal.invariant-loop-rest
invariant-loop-rest l = Kept l.rest l.at (number_at l.self l.at) (length l.initial.rest)

abbrev pub decreases-loop-rest : goal.decreases-loop-rest
decreases-loop-rest l = length l.rest
