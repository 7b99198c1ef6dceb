use Rattle.std.proofs.Common.{◌≡◌, ◌-◌, ◌≤◌, ◌++◌, length, drop, map}
use Rattle.logic_terms.specs.Sorts.{sort, kinds_in}
use Rattle.logic_text.specs.Goals.{taken_text}
use Rattle.term_reader.specs.Phases.{IsUpTo}
use Rattle.logic_text.specs.Phases.{InCall}
use Rattle.logic_text.proofs.signature_reader.read_call.Given as goal

abbrev pub invariant-loop-fault : goal.invariant-loop-fault
invariant-loop-fault l = record {
  before : l.at ≤ l.to;
  inside : l.to ≤ length l.bytes;
  text : drop l.at l.bytes ≡ taken_text (kinds_in (map sort l.arguments)) ++ drop l.to l.bytes;
  on : IsUpTo InCall (drop l.at l.bytes) InCall (drop l.to l.bytes);
}

abbrev pub decreases-loop-fault : goal.decreases-loop-fault
decreases-loop-fault l = length l.bytes - l.to
