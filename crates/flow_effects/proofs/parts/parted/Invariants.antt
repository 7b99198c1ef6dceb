use Rattle.std.proofs.Common.{◌≡◌, length, map}
use Rattle.flow_rules.specs.Aliases.{parted}
use Rattle.flow_effects.specs.Seen.{step_of}
use Rattle.flow_effects.proofs.parts.parted.Given as goal

abbrev pub invariant-loop-left : goal.invariant-loop-left
invariant-loop-left l = parted (map step_of l.left) (map step_of l.right) ≡ parted (map step_of l.initial.left) (map step_of l.initial.right)

abbrev pub decreases-loop-left : goal.decreases-loop-left
decreases-loop-left l = length l.left
