use Rattle.std.proofs.Common.{◌≡◌, drop}
use Rattle.ada_semantics.specs.Operators.{lies_in}
use Rattle.run_values.proofs.aggregates.lies_in.Given as goal

abbrev pub invariant-loop-bounds : goal.invariant-loop-bounds
invariant-loop-bounds l = lies_in (drop l.bounds-index l.ranges) l.component ≡ lies_in l.ranges l.component
