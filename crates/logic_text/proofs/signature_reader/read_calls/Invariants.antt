use Rattle.std.proofs.Common.{◌≡◌, ◌-◌, ◌≤◌, ◌++◌, All, length, drop, map}
use Rattle.std.specs.Prelude.{None}
use Rattle.logic_terms.specs.Goal.{called_as}
use Rattle.logic_text.specs.Goals.{calls_text}
use Rattle.term_reader.specs.Phases.{IsUpTo}
use Rattle.logic_text.specs.Phases.{InCalls}
use Rattle.logic_text.proofs.signature_reader.read_calls.Given as goal

abbrev pub invariant-loop-alloc : goal.invariant-loop-alloc
invariant-loop-alloc l = record {
  inside : l.to ≤ length l.bytes;
  text : drop l.at l.bytes ≡ calls_text (map called_as l.calls) ++ drop l.to l.bytes;
  plain : All (λ c. c.sub ≡ None) l.calls;
  on : IsUpTo InCalls (drop l.at l.bytes) InCalls (drop l.to l.bytes);
}

abbrev pub decreases-loop-alloc : goal.decreases-loop-alloc
decreases-loop-alloc l = length l.bytes - l.to
