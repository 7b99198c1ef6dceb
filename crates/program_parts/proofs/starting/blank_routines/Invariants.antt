use Rattle.std.proofs.Common.{◌≡◌, ◌++◌, length, map}
use Rattle.statement_typing.specs.Units as units
use Rattle.program_parts.proofs.starting.blank_routines.Given as goal

abbrev pub invariant-loop-routines : goal.invariant-loop-routines
invariant-loop-routines l = l.found ++ map units.no_routine l.routines ≡ map units.no_routine l.initial.routines

abbrev pub decreases-loop-routines : goal.decreases-loop-routines
decreases-loop-routines l = length l.routines
