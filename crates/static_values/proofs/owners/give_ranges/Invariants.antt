use Rattle.std.proofs.Common.{◌≡◌, length, drop, Some}
use Rattle.static_values.specs.Owners.{owned}
use Rattle.statement_typing.specs.Values.{in_ranges}
use Rattle.static_values.proofs.owners.give_ranges.Given as goal

abbrev pub invariant-loop-range : goal.invariant-loop-range
invariant-loop-range l = record {
  long : length l.owners.items ≡ length l.initial.owners.items;
  rest : owned (Some l.share) (λ n. in_ranges n (drop l.range-index l.ranges)) l.bounds.first l.owners.items ≡ owned (Some l.share) (λ n. in_ranges n l.ranges) l.bounds.first l.initial.owners.items;
}
