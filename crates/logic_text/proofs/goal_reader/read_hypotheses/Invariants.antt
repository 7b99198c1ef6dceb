use Rattle.std.proofs.Common.{◌≡◌, ◌-◌, ◌≤◌, ◌++◌, length, drop, map}
use Rattle.logic_terms.specs.View.{formula}
use Rattle.logic_text.specs.Goals.{hypotheses_text}
use Rattle.term_reader.specs.Phases.{IsUpTo}
use Rattle.logic_text.specs.Phases.{InLines}
use Rattle.logic_text.proofs.goal_reader.read_hypotheses.Given as goal

abbrev pub invariant-loop-alloc : goal.invariant-loop-alloc
invariant-loop-alloc l = record {
  inside : l.to ≤ length l.bytes;
  text : drop l.at l.bytes ≡ hypotheses_text (map formula l.hypotheses) ++ drop l.to l.bytes;
  on : IsUpTo InLines (drop l.at l.bytes) InLines (drop l.to l.bytes);
}

abbrev pub decreases-loop-alloc : goal.decreases-loop-alloc
decreases-loop-alloc l = length l.bytes - l.to
