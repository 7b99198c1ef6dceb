use Rattle.std.proofs.Common.{◌≡◌, length}
use Rattle.name_rules.specs.Faults.{has_twice}
use Rattle.name_rules.proofs.demands.has_twice.Given as goal

abbrev pub invariant-loop-units : goal.invariant-loop-units
invariant-loop-units l = has_twice l.units l.unit ≡ has_twice l.initial.units l.unit

abbrev pub decreases-loop-units : goal.decreases-loop-units
decreases-loop-units l = length l.units
