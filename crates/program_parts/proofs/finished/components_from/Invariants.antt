use Rattle.std.proofs.Common.{◌≡◌, ◌++◌, ◌+◌}
use Rattle.program_parts.specs.Finished.{listed_from}
use Rattle.program_parts.proofs.finished.components_from.Given as goal

abbrev pub invariant-loop-left : goal.invariant-loop-left
invariant-loop-left l =
    (l.found ++ listed_from l.components l.at l.left ≡ listed_from l.components l.first l.count) × (l.at + l.left ≡ l.first + l.count)

abbrev pub decreases-loop-left : goal.decreases-loop-left
decreases-loop-left l = l.left
