use Rattle.std.proofs.Common.{◌≡◌, ◌++◌, length}
use Rattle.flow_rules.specs.Headed.{listed}
use Rattle.flow_effects.specs.Modes.{is_mode}
use Rattle.flow_effects.proofs.stated.push_listed.Given as goal

abbrev pub invariant-loop-items : goal.invariant-loop-items
invariant-loop-items l = l.found ++ listed (is_mode l.wanted) l.items ≡ l.initial.found ++ listed (is_mode l.wanted) l.initial.items

abbrev pub decreases-loop-items : goal.decreases-loop-items
decreases-loop-items l = length l.items
