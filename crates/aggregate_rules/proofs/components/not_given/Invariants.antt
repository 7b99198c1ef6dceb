use Rattle.std.proofs.Common.{◌≡◌, ◌+◌, ◌++◌, ◌≤◌, length}
use Rattle.typing_rules.specs.Aggregates.{not_given}
use Rattle.aggregate_rules.proofs.components.not_given.Given as goal

abbrev pub invariant-loop-components : goal.invariant-loop-components
invariant-loop-components l = (l.numbers ++ not_given l.given l.components l.number ≡ not_given l.given l.initial.components 0) × (l.number + length l.components ≤ 4294967295)

abbrev pub decreases-loop-components : goal.decreases-loop-components
decreases-loop-components l = length l.components
