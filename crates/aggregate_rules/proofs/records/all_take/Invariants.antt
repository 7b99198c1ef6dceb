use Rattle.std.proofs.Common.{◌≡◌, length}
use Rattle.typing_rules.specs.Aggregates.{all_take}
use Rattle.aggregate_rules.proofs.records.all_take.Given as goal

abbrev pub invariant-loop-numbers : goal.invariant-loop-numbers
invariant-loop-numbers l = all_take l.world l.components l.value l.numbers ≡ all_take l.world l.components l.value l.initial.numbers

abbrev pub decreases-loop-numbers : goal.decreases-loop-numbers
decreases-loop-numbers l = length l.numbers
