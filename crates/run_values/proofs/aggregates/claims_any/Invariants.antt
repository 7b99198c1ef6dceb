use Rattle.std.proofs.Common.{◌≡◌, drop}
use Rattle.ada_semantics.specs.Operators.{claims_any}
use Rattle.run_values.specs.Components.{slots_of}
use Rattle.run_values.proofs.aggregates.claims_any.Given as goal

abbrev pub invariant-loop-one : goal.invariant-loop-one
invariant-loop-one l = claims_any l.ranges l.others l.component (slots_of (drop l.one-index l.given)) ≡ claims_any l.ranges l.others l.first (slots_of l.given)
