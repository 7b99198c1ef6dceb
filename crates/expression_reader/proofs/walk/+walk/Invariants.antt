use Rattle.std.proofs.Common.{◌≡◌, ◌+◌, ◌-◌, ◌*◌, ◌≤◌, ◌++◌, false, [], Some, drop, length}
use Rattle.condition_rules.specs.Ifs.{read_arms}
use Rattle.reading_scope.specs.Scopes.{scope_of}
use Rattle.syntax_view.specs.View.{args_of, arms_of, expr, suffixes_of}
use Rattle.typing_rules.specs.declared.prefix.Found.TheVariants.{Is}
use Rattle.typing_rules.specs.declared.aggregates.Manner.TheVariants as manner
use Rattle.typing_rules.specs.Aggregates as aggregates
use Rattle.typing_rules.specs.Calls as calls
use Rattle.typing_rules.specs.Forms as forms
use Rattle.typing_rules.specs.Names as names
use Rattle.typing_rules.specs.Reading as reading
use Rattle.expression_reader.proofs.walk.+walk.Given as goal

abbrev pub decreases-prefix : goal.decreases-prefix
decreases-prefix l = 64 * goal.size-prefix l

abbrev pub decreases-seen : goal.decreases-seen
decreases-seen l = 64 * goal.size-seen l + 1

abbrev pub decreases-read_condition : goal.decreases-read_condition
decreases-read_condition l = 64 * goal.size-read_condition l + 2

abbrev pub decreases-read_branch : goal.decreases-read_branch
decreases-read_branch l = 64 * goal.size-read_branch l + 2

abbrev pub decreases-read_else : goal.decreases-read_else
decreases-read_else l = 64 * goal.size-read_else l + 3

abbrev pub decreases-reach_of : goal.decreases-reach_of
decreases-reach_of l = 64 * goal.size-reach_of l + 4

abbrev pub decreases-range_found : goal.decreases-range_found
decreases-range_found l = 64 * goal.size-range_found l + 5

abbrev pub decreases-read_arm : goal.decreases-read_arm
decreases-read_arm l = 64 * goal.size-read_arm l + 5

abbrev pub decreases-read_arms : goal.decreases-read_arms
decreases-read_arms l = 64 * goal.size-read_arms l + 6

abbrev pub decreases-predicate_found : goal.decreases-predicate_found
decreases-predicate_found l = 64 * goal.size-predicate_found l + 3

abbrev pub decreases-item_prefix : goal.decreases-item_prefix
decreases-item_prefix l = 64 * goal.size-item_prefix l + 8

abbrev pub decreases-read_item : goal.decreases-read_item
decreases-read_item l = 64 * goal.size-read_item l + 9

abbrev pub decreases-some_item : goal.decreases-some_item
decreases-some_item l = 64 * goal.size-some_item l + 10

abbrev pub decreases-read_lone : goal.decreases-read_lone
decreases-read_lone l = 64 * goal.size-read_lone l + 11

abbrev pub decreases-read_given : goal.decreases-read_given
decreases-read_given l = 64 * goal.size-read_given l + 11

abbrev pub decreases-read_only : goal.decreases-read_only
decreases-read_only l = 64 * goal.size-read_only l + 12

abbrev pub decreases-one_index : goal.decreases-one_index
decreases-one_index l = 64 * goal.size-one_index l + 12

abbrev pub decreases-index_of : goal.decreases-index_of
decreases-index_of l = 64 * goal.size-index_of l + 13

abbrev pub decreases-argument_beside : goal.decreases-argument_beside
decreases-argument_beside l = 64 * goal.size-argument_beside l + 12

abbrev pub decreases-after_unknown : goal.decreases-after_unknown
decreases-after_unknown l = 64 * goal.size-after_unknown l + 13

abbrev pub decreases-argument_for : goal.decreases-argument_for
decreases-argument_for l = 64 * goal.size-argument_for l + 12

abbrev pub decreases-with_argument : goal.decreases-with_argument
decreases-with_argument l = 64 * goal.size-with_argument l + 13

abbrev pub decreases-arguments : goal.decreases-arguments
decreases-arguments l = 64 * goal.size-arguments l + 14

abbrev pub decreases-with_association : goal.decreases-with_association
decreases-with_association l = 64 * goal.size-with_association l + 12

abbrev pub decreases-record_parts : goal.decreases-record_parts
decreases-record_parts l = 64 * goal.size-record_parts l + 13

abbrev pub decreases-bound_of : goal.decreases-bound_of
decreases-bound_of l = 64 * goal.size-bound_of l + 2

abbrev pub decreases-lone_range : goal.decreases-lone_range
decreases-lone_range l = 64 * goal.size-lone_range l + 10

abbrev pub decreases-read_sort : goal.decreases-read_sort
decreases-read_sort l = 64 * goal.size-read_sort l + 12

abbrev pub decreases-array_items : goal.decreases-array_items
decreases-array_items l = 64 * goal.size-array_items l + 13

abbrev pub decreases-array_aggregate : goal.decreases-array_aggregate
decreases-array_aggregate l = 64 * goal.size-array_aggregate l + 14

abbrev pub decreases-value_item : goal.decreases-value_item
decreases-value_item l = 64 * goal.size-value_item l + 14

abbrev pub decreases-record_by : goal.decreases-record_by
decreases-record_by l = 64 * goal.size-record_by l + 15

abbrev pub decreases-aggregate : goal.decreases-aggregate
decreases-aggregate l = 64 * goal.size-aggregate l + 16

abbrev pub decreases-group_prefix : goal.decreases-group_prefix
decreases-group_prefix l = 64 * goal.size-group_prefix l + 17

abbrev pub decreases-qualified_by : goal.decreases-qualified_by
decreases-qualified_by l = 64 * goal.size-qualified_by l + 17

abbrev pub decreases-qualification : goal.decreases-qualification
decreases-qualification l = 64 * goal.size-qualification l + 18

abbrev pub decreases-part_item : goal.decreases-part_item
decreases-part_item l = 64 * goal.size-part_item l + 14

abbrev pub decreases-function_call : goal.decreases-function_call
decreases-function_call l = 64 * goal.size-function_call l + 15

abbrev pub decreases-routine_call : goal.decreases-routine_call
decreases-routine_call l = 64 * goal.size-routine_call l + 16

abbrev pub decreases-other_item : goal.decreases-other_item
decreases-other_item l = 64 * goal.size-other_item l + 15

abbrev pub decreases-application : goal.decreases-application
decreases-application l = 64 * goal.size-application l + 18

abbrev pub decreases-suffix_prefix : goal.decreases-suffix_prefix
decreases-suffix_prefix l = 64 * goal.size-suffix_prefix l + 19

abbrev pub decreases-name_prefix : goal.decreases-name_prefix
decreases-name_prefix l = 64 * goal.size-name_prefix l + 20

abbrev pub invariant-name_prefix-loop-suffix : goal.invariant-name_prefix-loop-suffix
invariant-name_prefix-loop-suffix l = forms.suffixes_prefix (scope_of l.scope) l.want l.place l.prefix (reading.suffixes (scope_of l.scope) (suffixes_of expr (drop l.suffix-index l.suffix-items))) ≡ forms.suffixes_prefix (scope_of l.scope) l.want l.place l.initial.prefix (reading.suffixes (scope_of l.scope) (suffixes_of expr l.suffix-items))

abbrev pub invariant-arguments-loop-arg : goal.invariant-arguments-loop-arg
invariant-arguments-loop-arg l = calls.arguments (scope_of l.scope) l.place l.formals l.given l.named l.done (reading.args (scope_of l.scope) (args_of expr (drop l.arg-index l.arg-items))) ≡ calls.arguments (scope_of l.scope) l.place l.formals [] false (Is []) (reading.args (scope_of l.scope) (args_of expr l.arg-items))

abbrev pub invariant-after_unknown-loop-left : goal.invariant-after_unknown-loop-left
invariant-after_unknown-loop-left l = (l.left ≤ length l.all) × (l.seen ≡ names.after_unknown (scope_of l.scope) (reading.args (scope_of l.scope) (args_of expr (drop l.left l.all))))

abbrev pub decreases-after_unknown-loop-left : goal.decreases-after_unknown-loop-left
decreases-after_unknown-loop-left l = l.left

abbrev pub invariant-read_arms-loop-arm : goal.invariant-read_arms-loop-arm
invariant-read_arms-loop-arm l = (l.read ++ read_arms (scope_of l.scope) l.want (reading.arms (scope_of l.scope) (arms_of expr (drop l.arm-index l.arm-items)))) ≡ read_arms (scope_of l.scope) l.want (reading.arms (scope_of l.scope) (arms_of expr l.arm-items))

abbrev pub invariant-record_parts-loop-at : goal.invariant-record_parts-loop-at
invariant-record_parts-loop-at l = (l.at ≤ length l.all) × (aggregates.record_parts (scope_of l.scope) l.place l.components l.given l.named l.done (reading.args (scope_of l.scope) (args_of expr (drop l.at l.all))) ≡ aggregates.record_parts (scope_of l.scope) l.place l.components [] false (Is []) (reading.args (scope_of l.scope) (args_of expr l.all)))

abbrev pub decreases-record_parts-loop-at : goal.decreases-record_parts-loop-at
decreases-record_parts-loop-at l = length l.all - l.at

abbrev pub invariant-array_items-loop-at : goal.invariant-array_items-loop-at
invariant-array_items-loop-at l = (l.at ≤ length l.all) × (aggregates.items (scope_of l.scope) (record { index = l.index; bounds = Some l.bounds; item = l.item }) l.bounds l.at l.manner l.gathered (reading.args (scope_of l.scope) (args_of expr (drop l.at l.all))) ≡ aggregates.items (scope_of l.scope) (record { index = l.index; bounds = Some l.bounds; item = l.item }) l.bounds 0 manner.Either aggregates.none_gathered (reading.args (scope_of l.scope) (args_of expr l.all)))

abbrev pub decreases-array_items-loop-at : goal.decreases-array_items-loop-at
decreases-array_items-loop-at l = length l.all - l.at
