use Rattle.std.proofs.Common.{◌≡◌, ◌+◌, ◌*◌, ◌++◌, drop}
use Rattle.syntax_view.specs.View.{args_of, arms_of, expr, suffixes_of}
use Rattle.statement_typing.specs.Numbers.{in_args, in_arms, in_suffixes}
use Rattle.text_numbers.proofs.expressions.+walk.Given as goal

abbrev pub decreases-push_expr : goal.decreases-push_expr
decreases-push_expr l = 16 * goal.size-push_expr l

abbrev pub decreases-push_maybe : goal.decreases-push_maybe
decreases-push_maybe l = 16 * goal.size-push_maybe l + 1

abbrev pub decreases-push_range : goal.decreases-push_range
decreases-push_range l = 16 * goal.size-push_range l + 2

abbrev pub decreases-push_arm : goal.decreases-push_arm
decreases-push_arm l = 16 * goal.size-push_arm l + 1

abbrev pub decreases-push_arms : goal.decreases-push_arms
decreases-push_arms l = 16 * goal.size-push_arms l + 2

abbrev pub decreases-push_item : goal.decreases-push_item
decreases-push_item l = 16 * goal.size-push_item l + 3

abbrev pub decreases-push_choice : goal.decreases-push_choice
decreases-push_choice l = 16 * goal.size-push_choice l + 4

abbrev pub decreases-push_value : goal.decreases-push_value
decreases-push_value l = 16 * goal.size-push_value l + 4

abbrev pub decreases-push_arg : goal.decreases-push_arg
decreases-push_arg l = 16 * goal.size-push_arg l + 5

abbrev pub decreases-push_args : goal.decreases-push_args
decreases-push_args l = 16 * goal.size-push_args l + 6

abbrev pub decreases-push_suffix : goal.decreases-push_suffix
decreases-push_suffix l = 16 * goal.size-push_suffix l + 7

abbrev pub decreases-push_name : goal.decreases-push_name
decreases-push_name l = 16 * goal.size-push_name l + 8

abbrev pub invariant-push_arms-loop-arm : goal.invariant-push_arms-loop-arm
invariant-push_arms-loop-arm l = l.found ++ in_arms (arms_of expr (drop l.arm-index l.arm-items)) ≡ l.initial.found ++ in_arms (arms_of expr l.arm-items)

abbrev pub invariant-push_args-loop-arg : goal.invariant-push_args-loop-arg
invariant-push_args-loop-arg l = l.found ++ in_args (args_of expr (drop l.arg-index l.arg-items)) ≡ l.initial.found ++ in_args (args_of expr l.arg-items)

abbrev pub invariant-push_name-loop-suffix : goal.invariant-push_name-loop-suffix
invariant-push_name-loop-suffix l = l.found ++ in_suffixes (suffixes_of expr (drop l.suffix-index l.suffix-items)) ≡ l.initial.found ++ in_suffixes (suffixes_of expr l.suffix-items)
