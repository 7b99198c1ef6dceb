use Rattle.std.proofs.Common.{◌≡◌, ◌++◌, drop}
use Rattle.run_values.proofs.GivenParts.{fill_given}
use Rattle.run_values.proofs.aggregates.filled.Given as goal

abbrev pub invariant-loop-one : goal.invariant-loop-one
invariant-loop-one l = l.filled ++ fill_given l.ranges l.others l.component l.v (drop l.one-index l.given) ≡ fill_given l.ranges l.others l.first l.v l.given
