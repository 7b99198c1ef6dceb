use Rattle.std.proofs.Common.{◌≡◌, length}
use Rattle.flow_rules.specs.Aliases.{is_in}
use Rattle.flow_effects.proofs.passed.is_in.Given as goal

abbrev pub invariant-loop-numbers : goal.invariant-loop-numbers
invariant-loop-numbers l = is_in l.number l.numbers ≡ is_in l.number l.initial.numbers

abbrev pub decreases-loop-numbers : goal.decreases-loop-numbers
decreases-loop-numbers l = length l.numbers
