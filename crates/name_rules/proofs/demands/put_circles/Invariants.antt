use Rattle.std.proofs.Common.{◌≡◌, ◌++◌, length}
use Rattle.name_rules.specs.Faults.{circles}
use Rattle.name_rules.proofs.demands.put_circles.Given as goal

abbrev pub invariant-loop-withs : goal.invariant-loop-withs
invariant-loop-withs l = l.faults ++ circles l.library l.file l.withs ≡ l.initial.faults ++ circles l.library l.file l.initial.withs

abbrev pub decreases-loop-withs : goal.decreases-loop-withs
decreases-loop-withs l = length l.withs
