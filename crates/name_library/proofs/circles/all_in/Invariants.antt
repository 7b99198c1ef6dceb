use Rattle.std.proofs.Common.{◌≡◌, length}
use Rattle.name_library.specs.Chains.{all_in}
use Rattle.name_library.proofs.circles.all_in.Given as goal

abbrev pub invariant-loop-files : goal.invariant-loop-files
invariant-loop-files l = all_in l.files l.done ≡ all_in l.initial.files l.done

abbrev pub decreases-loop-files : goal.decreases-loop-files
decreases-loop-files l = length l.files
