use Rattle.std.proofs.Common.{◌≡◌, ◌++◌, length}
use Rattle.name_rules.specs.Faults.{bodies}
use Rattle.name_rules.proofs.files.put_bodies.Given as goal

abbrev pub invariant-loop-entries : goal.invariant-loop-entries
invariant-loop-entries l = l.faults ++ bodies l.entries ≡ l.initial.faults ++ bodies l.initial.entries

abbrev pub decreases-loop-entries : goal.decreases-loop-entries
decreases-loop-entries l = length l.entries
