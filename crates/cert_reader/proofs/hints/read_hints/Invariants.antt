use Rattle.std.proofs.Common.{◌≡◌, ◌-◌, ◌≤◌, ◌++◌, length, drop}
use Rattle.logic_text.specs.Certs.{numbers_text}
use Rattle.term_reader.specs.Phases.{IsUpTo}
use Rattle.cert_reader.specs.Phases.{hints, Has}
use Rattle.cert_reader.proofs.hints.read_hints.Given as goal

abbrev pub invariant-loop-hints : goal.invariant-loop-hints
invariant-loop-hints l = record {
  before : l.at ≤ l.to;
  inside : l.to ≤ length l.bytes;
  text : drop l.at l.bytes ≡ numbers_text l.hints ++ drop l.to l.bytes;
  on : IsUpTo (Has hints) (drop l.at l.bytes) (Has hints) (drop l.to l.bytes);
}

abbrev pub decreases-loop-hints : goal.decreases-loop-hints
decreases-loop-hints l = length l.bytes - l.to
