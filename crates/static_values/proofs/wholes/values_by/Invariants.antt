use Rattle.std.proofs.Common.{◌≡◌, ◌++◌, drop}
use Rattle.static_values.specs.Owners.{values_by}
use Rattle.static_values.proofs.wholes.values_by.Given as goal

abbrev pub invariant-loop-owner : goal.invariant-loop-owner
invariant-loop-owner l = l.values ++ values_by l.shares (drop l.owner-index l.owners) ≡ values_by l.shares l.owners
