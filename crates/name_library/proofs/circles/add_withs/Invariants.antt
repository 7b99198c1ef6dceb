use Rattle.std.proofs.Common.{◌≡◌, length}
use Rattle.name_library.specs.Chains.{withs_added}
use Rattle.name_library.proofs.circles.add_withs.Given as goal

abbrev pub invariant-loop-withs : goal.invariant-loop-withs
invariant-loop-withs l = withs_added l.library l.files l.withs ≡ withs_added l.library l.initial.files l.initial.withs

abbrev pub decreases-loop-withs : goal.decreases-loop-withs
decreases-loop-withs l = length l.withs
