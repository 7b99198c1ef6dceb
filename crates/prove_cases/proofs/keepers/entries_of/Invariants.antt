use Rattle.std.proofs.Common.{length}
use Rattle.prove_cases.proofs.keepers.entries_of.Given as goal

abbrev pub decreases-loop-words : goal.decreases-loop-words
decreases-loop-words l = length l.words
