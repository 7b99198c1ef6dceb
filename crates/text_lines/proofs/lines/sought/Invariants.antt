use Rattle.std.proofs.Common.{◌+◌, length}
use Rattle.text_lines.specs.Lines.{seek}
use Rattle.text_lines.proofs.Seeking.{Kept}
use Rattle.text_lines.proofs.lines.sought.Given as goal

abbrev pub invariant-loop-rest : goal.invariant-loop-rest
invariant-loop-rest l = Kept l.first l.line l.start l.at (1 + length l.more) l.rest (seek 1 l.first l.more l.at)

abbrev pub decreases-loop-rest : goal.decreases-loop-rest
decreases-loop-rest l = length l.rest
