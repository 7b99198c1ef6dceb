use Rattle.std.proofs.Common.{◌≡◌, ◌-◌, ◌≤◌, [], length, map, drop, take}
use Rattle.flow_rules.specs.Aliases.{overlap_faults}
use Rattle.flow_effects.specs.PassedAs.{passed_of}
use Rattle.flow_effects.proofs.passed.push_overlap_fault.Given as goal

abbrev pub invariant-loop-at : goal.invariant-loop-at
invariant-loop-at l = record {
  within : l.at ≤ length l.list;
  same : l.found ≡ l.initial.found;
  rest : overlap_faults (map passed_of (take l.at l.list)) (map passed_of (drop l.at l.list)) ≡ overlap_faults [] (map passed_of l.list);
}

abbrev pub decreases-loop-at : goal.decreases-loop-at
decreases-loop-at l = length l.list - l.at
