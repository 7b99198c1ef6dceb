use Rattle.std.proofs.Common.{◌≡◌, ◌≤◌, length}
use Rattle.std.specs.Prelude.{nat_le}
use Rattle.gnatprove_core.specs.Answers.{most_source_bytes, source_bytes}
use Rattle.gnatprove_core.proofs.files.are_within.Given as goal

abbrev pub invariant-loop-files : goal.invariant-loop-files
invariant-loop-files l = (nat_le (source_bytes l.files) l.left ≡ nat_le (source_bytes l.initial.files) most_source_bytes) × (l.left ≤ most_source_bytes)

abbrev pub decreases-loop-files : goal.decreases-loop-files
decreases-loop-files l = length l.files
