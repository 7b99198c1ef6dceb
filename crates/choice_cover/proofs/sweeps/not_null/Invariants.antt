use Rattle.std.proofs.Common.{◌≡◌, take}
use Rattle.std.specs.Prelude.{filter}
use Rattle.choice_cover.specs.Sweeps.{holds_any}
use Rattle.choice_cover.proofs.sweeps.not_null.Given as goal

abbrev pub invariant-loop-range : goal.invariant-loop-range
invariant-loop-range l = l.found.items ≡ filter holds_any (take l.range-index l.ranges)
