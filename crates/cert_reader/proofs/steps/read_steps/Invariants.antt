use Rattle.std.proofs.Common.{◌≡◌, ◌-◌, ◌≤◌, ◌++◌, length, drop, map}
use Rattle.cert_lines.specs.View.{step as step_of}
use Rattle.logic_text.specs.Certs.{steps_text}
use Rattle.term_reader.specs.Phases.{IsUpTo}
use Rattle.cert_reader.specs.Phases.{steps, Has}
use Rattle.cert_reader.proofs.steps.read_steps.Given as goal

abbrev pub invariant-loop-fault : goal.invariant-loop-fault
invariant-loop-fault l = record {
  before : l.at ≤ l.to;
  inside : l.to ≤ length l.bytes;
  text : drop l.at l.bytes ≡ steps_text (map step_of l.steps) ++ drop l.to l.bytes;
  on : IsUpTo (Has steps) (drop l.at l.bytes) (Has steps) (drop l.to l.bytes);
}

abbrev pub decreases-loop-fault : goal.decreases-loop-fault
decreases-loop-fault l = length l.bytes - l.to
