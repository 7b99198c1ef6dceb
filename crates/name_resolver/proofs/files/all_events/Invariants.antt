use Rattle.std.proofs.Common.{◌≡◌, ◌++◌, length}
use Rattle.name_resolver.specs.Resolved.{all_events}
use Rattle.name_resolver.proofs.files.all_events.Given as goal

abbrev pub invariant-loop-tables : goal.invariant-loop-tables
invariant-loop-tables l = l.found ++ all_events l.tables l.files ≡ all_events l.initial.tables l.initial.files

abbrev pub decreases-loop-tables : goal.decreases-loop-tables
decreases-loop-tables l = length l.tables
