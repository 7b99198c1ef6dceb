use Rattle.std.proofs.Common.{◌≡◌, ◌+◌, ◌≤◌, length}
use Rattle.typing_rules.specs.Lookups.{place_among}
use Rattle.name_values.proofs.lookups.place_among.Given as goal

abbrev pub invariant-loop-components : goal.invariant-loop-components
invariant-loop-components l = (place_among l.components l.name l.place ≡ place_among l.initial.components l.name 0) × (l.place + length l.components ≤ 4294967295)

abbrev pub decreases-loop-components : goal.decreases-loop-components
decreases-loop-components l = length l.components
