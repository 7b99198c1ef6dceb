use Rattle.std.proofs.Common.{◌≡◌, ◌+◌, ◌++◌, ◌≤◌, drop, length}
use Rattle.text_lines.specs.Lines.{starts_from}
use Rattle.text_lines.proofs.lines.starts_in.Given as goal

abbrev pub invariant-loop-at : goal.invariant-loop-at
invariant-loop-at l = (l.starts ++ starts_from (l.first + l.at) (drop l.at l.bytes) ≡ starts_from l.first l.bytes) × (length l.starts ≤ l.at)
