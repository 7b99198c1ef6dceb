use Rattle.std.proofs.Common.{◌≡◌, ◌++◌, ◌-◌, drop, map}
use Rattle.statement_typing.specs.Units as units
use Rattle.program_parts.proofs.finished.shapes.Given as goal

abbrev pub invariant-loop-number : goal.invariant-loop-number
invariant-loop-number l = l.found ++ map (λ s. units.shape_of l.world s.form) (drop l.number l.world.subtypes) ≡ map (λ s. units.shape_of l.world s.form) l.world.subtypes

abbrev pub decreases-loop-number : goal.decreases-loop-number
decreases-loop-number l = l.count - l.number
