use Rattle.std.proofs.Common.{◌≡◌}
use Rattle.run_values.proofs.GivenParts.{nones}
use Rattle.run_values.proofs.aggregates.nothing_given.Given as goal

abbrev pub invariant-loop-number : goal.invariant-loop-number
invariant-loop-number l = l.given ≡ nones l._number
