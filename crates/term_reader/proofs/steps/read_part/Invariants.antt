use Rattle.std.proofs.Common.{◌-◌, ◌≤◌, drop, length}
use Rattle.term_reader.specs.Frames.{levels}
use Rattle.term_reader.specs.Trees.{IsAt}
use Rattle.term_reader.proofs.steps.read_part.Given as goal

abbrev pub invariant-loop-fault : goal.invariant-loop-fault
invariant-loop-fault l = record { after : l.at ≤ l.to; inside : l.to ≤ length l.bytes; place : IsAt (drop l.at l.bytes) l.fn.side l.want (levels l.frames) (drop l.to l.bytes) }

abbrev pub decreases-loop-fault : goal.decreases-loop-fault
decreases-loop-fault l = length l.bytes - l.to
