use Rattle.std.proofs.Common.{◌≡◌, [], length}
use Rattle.name_library.specs.Library.{unit_after}
use Rattle.name_library.proofs.library.unit_of.Given as goal

abbrev pub invariant-loop-events : goal.invariant-loop-events
invariant-loop-events l = unit_after l.file l.withs l.events ≡ unit_after l.file [] l.initial.events

abbrev pub decreases-loop-events : goal.decreases-loop-events
decreases-loop-events l = length l.events
