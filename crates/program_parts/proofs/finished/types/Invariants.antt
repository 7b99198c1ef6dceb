use Rattle.std.proofs.Common.{◌≡◌, ◌++◌, ◌-◌, drop}
use Rattle.statement_typing.specs.Units as units
use Rattle.program_parts.proofs.finished.types.Given as goal

abbrev pub invariant-loop-number : goal.invariant-loop-number
invariant-loop-number l = l.found ++ units.types_of (drop l.number l.names) (drop l.number l.subtypes) ≡ units.types_of l.names l.subtypes

abbrev pub decreases-loop-number : goal.decreases-loop-number
decreases-loop-number l = l.count - l.number
