use Rattle.std.proofs.Common.{◌≡◌, ◌++◌, length, map}
use Rattle.flow_rules.specs.Aliases.{global_faults}
use Rattle.flow_effects.specs.PassedAs.{passed_of}
use Rattle.flow_effects.proofs.passed.push_global_faults.Given as goal

abbrev pub invariant-loop-list : goal.invariant-loop-list
invariant-loop-list l =
    l.found ++ global_faults l.effects l.callee (map passed_of l.list) ≡ l.initial.found ++ global_faults l.effects l.callee (map passed_of l.initial.list)

abbrev pub decreases-loop-list : goal.decreases-loop-list
decreases-loop-list l = length l.list
