use Rattle.std.proofs.Common.{◌≡◌, ◌+◌, ◌≤◌, ◌++◌, length}
use Rattle.name_library.specs.Library.{exports}
use Rattle.name_library.proofs.library.read_exports.Given as goal

abbrev pub invariant-loop-events : goal.invariant-loop-events
invariant-loop-events l = (l.found ++ exports l.file l.depth l.events ≡ exports l.file 0 l.initial.events) × (l.depth + length l.events ≤ length l.initial.events)

abbrev pub decreases-loop-events : goal.decreases-loop-events
decreases-loop-events l = length l.events
