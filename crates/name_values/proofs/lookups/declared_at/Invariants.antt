use Rattle.std.proofs.Common.{◌≡◌, length}
use Rattle.typing_rules.specs.Lookups.{declared_at}
use Rattle.name_values.proofs.lookups.declared_at.Given as goal

abbrev pub invariant-loop-parameters : goal.invariant-loop-parameters
invariant-loop-parameters l = declared_at l.world l.parameters l.spot ≡ declared_at l.world l.initial.parameters l.spot

abbrev pub decreases-loop-parameters : goal.decreases-loop-parameters
decreases-loop-parameters l = length l.parameters
