use Rattle.std.proofs.Common.{◌≡◌, length}
use Rattle.name_library.specs.Library.{contains}
use Rattle.name_library.proofs.circles.contains.Given as goal

abbrev pub invariant-loop-numbers : goal.invariant-loop-numbers
invariant-loop-numbers l = contains l.number l.numbers ≡ contains l.number l.initial.numbers

abbrev pub decreases-loop-numbers : goal.decreases-loop-numbers
decreases-loop-numbers l = length l.numbers
