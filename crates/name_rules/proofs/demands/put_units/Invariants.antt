use Rattle.std.proofs.Common.{◌≡◌, ◌++◌, length}
use Rattle.name_rules.specs.Faults.{all_units}
use Rattle.name_rules.proofs.demands.put_units.Given as goal

abbrev pub invariant-loop-units : goal.invariant-loop-units
invariant-loop-units l = l.faults ++ all_units l.library l.units ≡ l.initial.faults ++ all_units l.library l.library

abbrev pub decreases-loop-units : goal.decreases-loop-units
decreases-loop-units l = length l.units
