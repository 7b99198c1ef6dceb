use Rattle.std.proofs.Common.{◌≡◌, length}
use Rattle.flow_rules.specs.Functions.{all_in}
use Rattle.flow_effects.proofs.stated.all_in.Given as goal

abbrev pub invariant-loop-numbers : goal.invariant-loop-numbers
invariant-loop-numbers l = all_in l.numbers l.others ≡ all_in l.initial.numbers l.others

abbrev pub decreases-loop-numbers : goal.decreases-loop-numbers
decreases-loop-numbers l = length l.numbers
