use Rattle.std.proofs.Common.{◌≡◌, [], ◌∷◌, length}
use Rattle.name_library.specs.Chains.{rounds}
use Rattle.name_library.proofs.circles.reached.Given as goal

abbrev pub invariant-loop-left : goal.invariant-loop-left
invariant-loop-left l = rounds l.all l.left l.files ≡ rounds l.all l.all (l.file ∷ [])

abbrev pub decreases-loop-left : goal.decreases-loop-left
decreases-loop-left l = length l.left
