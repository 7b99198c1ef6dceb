use Rattle.std.proofs.Common.{◌≡◌, length}
use Rattle.name_library.specs.Chains.{turns}
use Rattle.name_library.proofs.circles.take_turns.Given as goal

abbrev pub invariant-loop-left : goal.invariant-loop-left
invariant-loop-left l = turns l.all l.left l.done ≡ turns l.all l.all l.initial.done

abbrev pub decreases-loop-left : goal.decreases-loop-left
decreases-loop-left l = length l.left
