use Rattle.std.proofs.Common.{◌≡◌, ◌++◌, length}
use Rattle.std.specs.Prelude.{reverse}
use Rattle.condition_rules.proofs.arms.turned.Given as goal

abbrev pub invariant-loop-arm : goal.invariant-loop-arm
invariant-loop-arm l = l.turned ++ reverse l.arms ≡ reverse l.initial.arms

abbrev pub decreases-loop-arm : goal.decreases-loop-arm
decreases-loop-arm l = length l.arms
