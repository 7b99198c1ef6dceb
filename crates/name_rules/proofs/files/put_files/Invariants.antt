use Rattle.std.proofs.Common.{◌≡◌, ◌++◌, length}
use Rattle.name_rules.specs.Faults.{AllKept, all_files, all_usages, firsts_from}
use Rattle.name_rules.proofs.files.put_files.Given as goal

abbrev pub invariant-loop-units : goal.invariant-loop-units
invariant-loop-units l = record { faults : l.faults ++ all_files l.files l.library l.units ≡ l.initial.faults ++ all_files l.files l.library l.library; usages : l.usages ++ all_usages l.files l.library l.units ≡ l.initial.usages ++ all_usages l.files l.library l.library; firsts : l.firsts ≡ firsts_from l.files l.library l.units; kept : AllKept l.files l.library l.kept }

abbrev pub decreases-loop-units : goal.decreases-loop-units
decreases-loop-units l = length l.units
