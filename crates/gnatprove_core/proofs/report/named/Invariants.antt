use Rattle.std.proofs.Common.{◌≡◌, take, map}
use Rattle.gnatprove_core.specs.Answers.{row_in}
use Rattle.gnatprove_core.proofs.report.named.Given as goal

abbrev pub invariant-loop-row : goal.invariant-loop-row
invariant-loop-row l = l.named ≡ map (row_in l.fn.name) (take l.row-index l.fn.rows)
