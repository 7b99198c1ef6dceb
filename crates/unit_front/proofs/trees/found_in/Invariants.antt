use Rattle.std.proofs.Common.{◌≡◌, ◌<◌, ◌+◌, ◌^◌, ℕ, List, [], ◌∷◌, length}
use Rattle.unit_front.specs.Reading.{AreShort, texts_of}
use Rattle.unit_front.specs.Sofar.{StillLeads}
use Rattle.unit_front.proofs.trees.found_in.Given as goal

abbrev pub invariant-loop-files : goal.invariant-loop-files
invariant-loop-files l =
    StillLeads (texts_of l.initial.files) l.found l.number (texts_of l.files)
    × AreShort (texts_of l.files) × (l.number + length l.files ≡ length l.initial.files)

abbrev pub decreases-loop-files : goal.decreases-loop-files
decreases-loop-files l = length l.files
