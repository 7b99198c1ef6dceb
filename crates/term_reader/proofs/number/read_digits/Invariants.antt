use Rattle.std.proofs.Common.{◌≡◌, ◌-◌, ◌<◌, ◌≤◌, ◌++◌, length, drop}
use Rattle.logic_terms.specs.Text.{number_text}
use Rattle.term_reader.proofs.number.read_digits.Given as goal

abbrev pub invariant-loop-next : goal.invariant-loop-next
invariant-loop-next l = record { after : l.at < l.to; inside : l.to ≤ length l.bytes; above : 0 < l.value; below : l.value ≤ l.most; text : drop l.at l.bytes ≡ number_text l.value ++ drop l.to l.bytes }

abbrev pub decreases-loop-next : goal.decreases-loop-next
decreases-loop-next l = length l.bytes - l.to
