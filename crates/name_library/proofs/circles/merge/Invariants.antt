use Rattle.std.proofs.Common.{◌≡◌, length}
use Rattle.name_library.specs.Chains.{merged}
use Rattle.name_library.proofs.circles.merge.Given as goal

abbrev pub invariant-loop-more : goal.invariant-loop-more
invariant-loop-more l = merged l.files l.more ≡ merged l.initial.files l.initial.more

abbrev pub decreases-loop-more : goal.decreases-loop-more
decreases-loop-more l = length l.more
