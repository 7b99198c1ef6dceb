use Rattle.std.proofs.Common.{◌≡◌, length}
use Rattle.gnatprove_core.specs.Answers.{name_at}
use Rattle.gnatprove_core.proofs.program.name_at.Given as goal

abbrev pub invariant-loop-files : goal.invariant-loop-files
invariant-loop-files l = name_at l.files l.number ≡ name_at l.initial.files l.initial.number

abbrev pub decreases-loop-files : goal.decreases-loop-files
decreases-loop-files l = length l.files
