use Rattle.std.proofs.Common.{◌≡◌, ◌<◌, ℕ, length, get_or, Some, None}
use Rattle.std.specs.Prelude.{if◌then◌else◌, nat_lt, not, ◌&&◌}
use Rattle.static_values.proofs.owners.give_range.Given as goal

abbrev pub invariant-loop-at : goal.invariant-loop-at
invariant-loop-at l = record {
  long : length l.owners.items ≡ length l.initial.owners.items;
  each : (k : ℕ) → k < length l.initial.owners.items → get_or l.owners.items k None ≡ (if not (nat_lt k l.from) && nat_lt k l.at then Some l.share else get_or l.initial.owners.items k None);
}
