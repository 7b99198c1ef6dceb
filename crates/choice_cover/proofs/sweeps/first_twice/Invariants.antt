use Rattle.std.proofs.Common.{◌<◌, ◌≤◌, ◌-◌, length, take}
use Rattle.choice_cover.specs.Sweeps.{Crowded, Once}
use Rattle.choice_cover.proofs.sweeps.first_twice.Given as goal

abbrev pub invariant-loop-once : goal.invariant-loop-once
invariant-loop-once l = record {
  below : l.once < l.crowded;
  within : l.crowded ≤ length l.ranges;
  at_once : Once (take l.once l.ranges);
  at_crowded : Crowded (take l.crowded l.ranges);
}

abbrev pub decreases-loop-once : goal.decreases-loop-once
decreases-loop-once l = l.crowded - l.once
