use Rattle.std.proofs.Common.{◌≡◌, drop}
use Rattle.choice_cover.specs.Sweeps.{fill}
use Rattle.choice_cover.proofs.sweeps.fills.Given as goal

abbrev pub invariant-loop-range : goal.invariant-loop-range
invariant-loop-range l = fill l.next l.hi (drop l.range-index l.sorted) ≡ fill l.lo l.hi l.sorted
