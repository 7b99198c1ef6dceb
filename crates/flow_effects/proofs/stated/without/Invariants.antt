use Rattle.std.proofs.Common.{◌≡◌, ◌++◌, length}
use Rattle.flow_rules.specs.Functions.{without}
use Rattle.flow_effects.proofs.stated.without.Given as goal

abbrev pub invariant-loop-numbers : goal.invariant-loop-numbers
invariant-loop-numbers l = l.found ++ without l.numbers l.others ≡ without l.initial.numbers l.others

abbrev pub decreases-loop-numbers : goal.decreases-loop-numbers
decreases-loop-numbers l = length l.numbers
