use Rattle.std.proofs.Common.{length}
use Rattle.type_base.specs.Lookups.{meaning_in}
use Rattle.type_base.proofs.Meanings.{Kept}
use Rattle.type_base.proofs.entities.FileMeanings.get.Given as goal

abbrev pub invariant-loop-rest : goal.invariant-loop-rest
invariant-loop-rest l = Kept l.rest l.at (meaning_in l.self l.at) (length l.initial.rest)

abbrev pub decreases-loop-rest : goal.decreases-loop-rest
decreases-loop-rest l = length l.rest
