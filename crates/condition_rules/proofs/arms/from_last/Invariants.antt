use Rattle.std.proofs.Common.{◌≡◌, [], length}
use Rattle.std.specs.Prelude.{reverse}
use Rattle.reading_scope.specs.Scopes.{scope_of}
use Rattle.typing_rules.specs.declared.prefix.Found.TheVariants.{Is}
use Rattle.condition_rules.specs.Ifs.{arms_read, common}
use Rattle.condition_rules.proofs.arms.from_last.Given as goal

abbrev pub invariant-loop-arm : goal.invariant-loop-arm
invariant-loop-arm l = arms_read (scope_of l.scope) (common l.kind) l.done (reverse l.arms) ≡ arms_read (scope_of l.scope) (common l.kind) (Is []) (reverse l.initial.arms)

abbrev pub decreases-loop-arm : goal.decreases-loop-arm
decreases-loop-arm l = length l.arms
