use Rattle.std.proofs.Common.{◌≡◌, ◌++◌, length}
use Rattle.name_rules.specs.Faults.{AllKept, firsts_from}
use Rattle.name_rules.proofs.files.firsts.Given as goal

abbrev pub invariant-loop-units : goal.invariant-loop-units
invariant-loop-units l = (l.all ++ firsts_from l.files l.library l.units ≡ firsts_from l.files l.library l.library) × AllKept l.files l.library l.kept

abbrev pub decreases-loop-units : goal.decreases-loop-units
decreases-loop-units l = length l.units
