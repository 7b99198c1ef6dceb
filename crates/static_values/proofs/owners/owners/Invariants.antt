use Rattle.std.proofs.Common.{◌≡◌, ◌≤◌, length, drop}
use Rattle.static_values.specs.Owners.{count_in, owners_from}
use Rattle.static_values.proofs.owners.owners.Given as goal

abbrev pub invariant-loop-left : goal.invariant-loop-left
invariant-loop-left l = record {
  within : l.left ≤ length l.shares;
  given : l.owners.items ≡ owners_from l.left (drop l.left l.shares) (count_in l.bounds) l.bounds.first;
}

abbrev pub decreases-loop-left : goal.decreases-loop-left
decreases-loop-left l = l.left
