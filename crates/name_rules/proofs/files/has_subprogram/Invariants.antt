use Rattle.std.proofs.Common.{◌≡◌, length}
use Rattle.name_rules.specs.Faults.{has_subprogram}
use Rattle.name_rules.proofs.files.has_subprogram.Given as goal

abbrev pub invariant-loop-entries : goal.invariant-loop-entries
invariant-loop-entries l = has_subprogram l.entries ≡ has_subprogram l.initial.entries

abbrev pub decreases-loop-entries : goal.decreases-loop-entries
decreases-loop-entries l = length l.entries
