use Rattle.std.proofs.Common.{◌≡◌, ◌+◌, ◌*◌, drop}
use Rattle.reading_scope.specs.Scopes.{scope_of}
use Rattle.syntax_view.specs.View.{arms_of, expr}
use Rattle.typing_rules.specs.Kinds.{arms_kind}
use Rattle.typing_rules.specs.Reading.{arms}
use Rattle.expression_kinds.proofs.expressions.+walk.Given as goal

abbrev pub decreases-kind : goal.decreases-kind
decreases-kind l = 16 * goal.size-kind l

abbrev pub decreases-maybe_kind : goal.decreases-maybe_kind
decreases-maybe_kind l = 16 * goal.size-maybe_kind l + 1

abbrev pub decreases-arms_kind : goal.decreases-arms_kind
decreases-arms_kind l = 16 * goal.size-arms_kind l + 2

abbrev pub decreases-item_kind : goal.decreases-item_kind
decreases-item_kind l = 16 * goal.size-item_kind l + 3

abbrev pub decreases-group_kind : goal.decreases-group_kind
decreases-group_kind l = 16 * goal.size-group_kind l + 6

abbrev pub invariant-arms_kind-loop-arm : goal.invariant-arms_kind-loop-arm
invariant-arms_kind-loop-arm l = arms_kind (arms (scope_of l.scope) (arms_of expr (drop l.arm-index l.arm-items))) l.otherwise ≡ arms_kind (arms (scope_of l.scope) (arms_of expr l.arm-items)) l.otherwise
