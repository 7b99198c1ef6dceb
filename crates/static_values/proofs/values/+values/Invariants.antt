use Rattle.std.proofs.Common.{◌≡◌, ◌+◌, ◌*◌, drop}
use Rattle.static_values.specs.Shares.{shares_onto}
use Rattle.static_values.proofs.values.+values.Given as goal

abbrev pub invariant-shares-loop-association : goal.invariant-shares-loop-association
invariant-shares-loop-association l = shares_onto l.done (drop l.association-index l.association-items) ≡ shares_onto l.initial.done l.association-items

abbrev pub decreases-static_value : goal.decreases-static_value
decreases-static_value l = 4 * goal.size-static_value l

abbrev pub decreases-share_beside : goal.decreases-share_beside
decreases-share_beside l = 4 * goal.size-share_beside l + 1

abbrev pub decreases-shares : goal.decreases-shares
decreases-shares l = 4 * goal.size-shares l + 2

abbrev pub decreases-aggregate : goal.decreases-aggregate
decreases-aggregate l = 4 * goal.size-aggregate l + 3
