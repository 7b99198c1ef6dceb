use Rattle.std.proofs.Common.{◌≡◌, ◌+◌, ◌≤◌, length}
use Rattle.typing_rules.specs.Calls.{formal_named}
use Rattle.prefix_rules.proofs.arguments.formal_named.Given as goal

abbrev pub invariant-loop-formals : goal.invariant-loop-formals
invariant-loop-formals l = (formal_named l.formals l.name l.number ≡ formal_named l.initial.formals l.name 0) × (l.number + length l.formals ≤ 4294967295)

abbrev pub decreases-loop-formals : goal.decreases-loop-formals
decreases-loop-formals l = length l.formals
