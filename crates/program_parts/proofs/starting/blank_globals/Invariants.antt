use Rattle.std.proofs.Common.{◌≡◌, ◌++◌, length, map}
use Rattle.statement_typing.specs.Units as units
use Rattle.program_parts.proofs.starting.blank_globals.Given as goal

abbrev pub invariant-loop-variables : goal.invariant-loop-variables
invariant-loop-variables l = l.found ++ map units.blank_global l.variables ≡ map units.blank_global l.initial.variables

abbrev pub decreases-loop-variables : goal.decreases-loop-variables
decreases-loop-variables l = length l.variables
