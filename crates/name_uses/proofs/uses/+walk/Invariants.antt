use Rattle.std.proofs.Common.{◌≡◌, ◌+◌, ◌*◌, drop}
use Rattle.name_numbers.specs.Numbers.{number_at}
use Rattle.syntax_view.specs.View.{args_of, arms_of, expr, suffixes_of}
use Rattle.name_uses.specs.Uses.{args_onto, arms_onto, suffixes_onto}
use Rattle.name_uses.proofs.uses.+walk.Given as goal

abbrev pub decreases-push_expr : goal.decreases-push_expr
decreases-push_expr l = 16 * goal.size-push_expr l

abbrev pub decreases-push_maybe : goal.decreases-push_maybe
decreases-push_maybe l = 16 * goal.size-push_maybe l + 1

abbrev pub decreases-push_range : goal.decreases-push_range
decreases-push_range l = 16 * goal.size-push_range l + 2

abbrev pub decreases-push_arms : goal.decreases-push_arms
decreases-push_arms l = 16 * goal.size-push_arms l + 1

abbrev pub decreases-push_item : goal.decreases-push_item
decreases-push_item l = 16 * goal.size-push_item l + 3

abbrev pub decreases-push_choice : goal.decreases-push_choice
decreases-push_choice l = 16 * goal.size-push_choice l + 4

abbrev pub decreases-push_value : goal.decreases-push_value
decreases-push_value l = 16 * goal.size-push_value l + 4

abbrev pub decreases-push_arg : goal.decreases-push_arg
decreases-push_arg l = 16 * goal.size-push_arg l + 5

abbrev pub decreases-push_args : goal.decreases-push_args
decreases-push_args l = 16 * goal.size-push_args l + 6

abbrev pub decreases-push_attribute : goal.decreases-push_attribute
decreases-push_attribute l = 16 * goal.size-push_attribute l + 7

abbrev pub decreases-push_suffix : goal.decreases-push_suffix
decreases-push_suffix l = 16 * goal.size-push_suffix l + 8

abbrev pub decreases-push_name : goal.decreases-push_name
decreases-push_name l = 16 * goal.size-push_name l + 9

abbrev pub invariant-push_arms-loop-arm : goal.invariant-push_arms-loop-arm
invariant-push_arms-loop-arm l = arms_onto (number_at l.names) l.within l.found (arms_of expr (drop l.arm-index l.arm-items)) ≡ arms_onto (number_at l.names) l.within l.initial.found (arms_of expr l.arm-items)

abbrev pub invariant-push_args-loop-arg : goal.invariant-push_args-loop-arg
invariant-push_args-loop-arg l = args_onto (number_at l.names) l.within l.brackets l.found (args_of expr (drop l.arg-index l.arg-items)) ≡ args_onto (number_at l.names) l.within l.brackets l.initial.found (args_of expr l.arg-items)

abbrev pub invariant-push_name-loop-suffix : goal.invariant-push_name-loop-suffix
invariant-push_name-loop-suffix l = suffixes_onto (number_at l.names) l.within l.constrains l.at l.leading l.found (suffixes_of expr (drop l.suffix-index l.suffix-items)) ≡ suffixes_onto (number_at l.names) l.within l.constrains l.at l.initial.leading l.initial.found (suffixes_of expr l.suffix-items)
