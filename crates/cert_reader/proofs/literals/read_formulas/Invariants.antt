use Rattle.std.proofs.Common.{◌≡◌, ◌+◌, ◌≤◌, ◌++◌, length, drop, map}
use Rattle.logic_terms.specs.View.{formula as formula_of}
use Rattle.logic_text.specs.Certs.{nodes_text}
use Rattle.term_reader.specs.Phases.{IsUpTo}
use Rattle.cert_reader.specs.Phases.{Phase, times, Has}
use Rattle.cert_reader.proofs.literals.read_formulas.Given as goal

abbrev pub invariant-loop-left : goal.invariant-loop-left
invariant-loop-left l = record {
  before : l.at ≤ l.to;
  inside : l.to ≤ length l.bytes;
  number : length l.literals + l.left ≡ l.count;
  text : drop l.at l.bytes ≡ nodes_text (map formula_of l.literals) ++ drop l.to l.bytes;
  on : (p : Phase) → IsUpTo (Has (times l.count p)) (drop l.at l.bytes) (Has (times l.left p)) (drop l.to l.bytes);
}

abbrev pub decreases-loop-left : goal.decreases-loop-left
decreases-loop-left l = l.left
