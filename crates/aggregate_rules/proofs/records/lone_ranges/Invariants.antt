use Rattle.std.proofs.Common.{◌≡◌, ◌++◌, drop, map}
use Rattle.typing_rules.specs.Aggregates.{lone_range}
use Rattle.aggregate_rules.proofs.records.lone_ranges.Given as goal

abbrev pub invariant-loop-number : goal.invariant-loop-number
invariant-loop-number l = l.ranges ++ map lone_range (drop l.number-index l.numbers) ≡ map lone_range l.numbers
