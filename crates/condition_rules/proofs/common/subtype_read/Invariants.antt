use Rattle.std.proofs.Common.{◌≡◌, length}
use Rattle.condition_rules.specs.Ifs.{subtype_read}
use Rattle.condition_rules.proofs.common.subtype_read.Given as goal

abbrev pub invariant-loop-arms : goal.invariant-loop-arms
invariant-loop-arms l = subtype_read l.arms l.otherwise ≡ subtype_read l.initial.arms l.otherwise

abbrev pub decreases-loop-arms : goal.decreases-loop-arms
decreases-loop-arms l = length l.arms
