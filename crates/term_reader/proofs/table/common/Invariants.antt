use Rattle.std.proofs.Common.{◌≡◌, ◌+◌, ◌-◌, ◌≤◌, length, drop}
use Rattle.term_reader.specs.Words.{common_of}
use Rattle.term_reader.proofs.table.common.Given as goal

abbrev pub invariant-loop-agreed : goal.invariant-loop-agreed
invariant-loop-agreed l = record { short : l.agreed ≤ length l.word; inside : l.at + l.agreed ≤ length l.bytes; counted : common_of l.word (drop l.at l.bytes) ≡ l.agreed + common_of (drop l.agreed l.word) (drop (l.at + l.agreed) l.bytes) }

abbrev pub decreases-loop-agreed : goal.decreases-loop-agreed
decreases-loop-agreed l = length l.word - l.agreed
