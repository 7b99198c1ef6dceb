use Rattle.std.proofs.Common.{◌≡◌, length, map}
use Rattle.flow_rules.specs.Aliases.{clashes_with}
use Rattle.flow_effects.specs.PassedAs.{passed_of}
use Rattle.flow_effects.proofs.passed.clashes_with.Given as goal

abbrev pub invariant-loop-others : goal.invariant-loop-others
invariant-loop-others l = clashes_with (passed_of l.a) (map passed_of l.others) ≡ clashes_with (passed_of l.a) (map passed_of l.initial.others)

abbrev pub decreases-loop-others : goal.decreases-loop-others
decreases-loop-others l = length l.others
