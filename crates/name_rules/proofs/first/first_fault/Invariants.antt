use Rattle.std.proofs.Common.{◌≡◌, ◌≤◌, drop, length}
use Rattle.name_rules.specs.Faults.{first_of}
use Rattle.name_rules.proofs.first.first_fault.Given as goal

abbrev pub invariant-loop-left : goal.invariant-loop-left
invariant-loop-left l = (l.left ≤ length l.faults) × (l.first ≡ first_of (drop l.left l.faults))

abbrev pub decreases-loop-left : goal.decreases-loop-left
decreases-loop-left l = l.left
