-- The numbers with which the program ends.
use Rattle.std.specs.Prelude.{ℕ}
use Rattle.gnatprove_core.specs.declared.status.Status.{Status}
use Rattle.gnatprove_core.specs.declared.status.Status.TheVariants.{Proved, Unproved, Refused, Usage, ReadFault, WriteFault, Starved, Limit, Interrupted}

abbrev pub code_of : Status → ℕ
code_of Proved = 0
code_of Unproved = 1
code_of Refused = 2
code_of Usage = 3
code_of ReadFault = 4
code_of WriteFault = 5
code_of Starved = 6
code_of Limit = 7
code_of Interrupted = 8

-- the statuses of a run that read what it needed and wrote its whole answer
abbrev pub IsAnswer : Status → Type 0
IsAnswer Proved = Unit {0}
IsAnswer Unproved = Unit {0}
IsAnswer Refused = Unit {0}
IsAnswer Usage = Unit {0}
IsAnswer Limit = Unit {0}
IsAnswer _ = ⊥
