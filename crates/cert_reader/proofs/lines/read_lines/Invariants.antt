use Rattle.std.proofs.Common.{◌≡◌, ◌-◌, ◌≤◌, ◌++◌, length, drop, map}
use Rattle.cert_lines.specs.View.{line as line_of}
use Rattle.logic_text.specs.Certs.{lines_text}
use Rattle.term_reader.specs.Phases.{IsUpTo}
use Rattle.cert_reader.specs.Phases.{InLines}
use Rattle.cert_reader.proofs.lines.read_lines.Given as goal

abbrev pub invariant-loop-fault : goal.invariant-loop-fault
invariant-loop-fault l = record {
  before : l.at ≤ l.to;
  inside : l.to ≤ length l.bytes;
  text : drop l.at l.bytes ≡ lines_text (map line_of l.lines) ++ drop l.to l.bytes;
  on : IsUpTo InLines (drop l.at l.bytes) InLines (drop l.to l.bytes);
}

abbrev pub decreases-loop-fault : goal.decreases-loop-fault
decreases-loop-fault l = length l.bytes - l.to
