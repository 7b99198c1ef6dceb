use Rattle.std.proofs.Common.{◌≡◌, ◌≤◌, drop, length}
use Rattle.typing_rules.specs.Conditions.{chosen}
use Rattle.condition_rules.proofs.statics.chosen.Given as goal

abbrev pub invariant-loop-left : goal.invariant-loop-left
invariant-loop-left l = (l.left ≤ length l.arms) × (l.value ≡ chosen (drop l.left l.arms) l.otherwise)

abbrev pub decreases-loop-left : goal.decreases-loop-left
decreases-loop-left l = l.left
