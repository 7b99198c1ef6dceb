use Rattle.std.proofs.Common.{◌≡◌, ◌++◌, length, map}
use Rattle.statement_typing.specs.Units as units
use Rattle.program_scope.specs.Homes.{file_of}
use Rattle.program_parts.proofs.starting.blank_subs.Given as goal

abbrev pub invariant-loop-routines : goal.invariant-loop-routines
invariant-loop-routines l = l.subs ++ map (λ s. units.blank_sub (units.declared_text (map file_of l.files) s)) l.routines ≡ map (λ s. units.blank_sub (units.declared_text (map file_of l.files) s)) l.initial.routines

abbrev pub decreases-loop-routines : goal.decreases-loop-routines
decreases-loop-routines l = length l.routines
