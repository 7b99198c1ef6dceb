use Rattle.std.proofs.Common.{◌≡◌, ◌≤◌, drop, length}
use Rattle.condition_rules.specs.Ifs.{number_read}
use Rattle.condition_rules.proofs.statics.number_read.Given as goal

abbrev pub invariant-loop-left : goal.invariant-loop-left
invariant-loop-left l = (l.left ≤ length l.arms) × (l.number ≡ number_read (drop l.left l.arms) l.otherwise)

abbrev pub decreases-loop-left : goal.decreases-loop-left
decreases-loop-left l = l.left
