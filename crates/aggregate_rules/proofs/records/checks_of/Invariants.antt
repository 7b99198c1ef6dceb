use Rattle.std.proofs.Common.{◌≡◌, ◌++◌, drop}
use Rattle.typing_rules.specs.Aggregates.{checks_of}
use Rattle.aggregate_rules.proofs.records.checks_of.Given as goal

abbrev pub invariant-loop-number : goal.invariant-loop-number
invariant-loop-number l = l.checks ++ checks_of l.world l.components l.x (drop l.number-index l.numbers) ≡ checks_of l.world l.components l.x l.numbers
