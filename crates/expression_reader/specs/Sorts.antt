-- The associations of an array, each value of which has been read.
use Rattle.std.specs.Prelude.{ℕ, Bool, ◌==◌, ◌&&◌, if◌then◌else◌}
use Rattle.typed_units.specs.declared.operators.Bounds.{Bounds}
use Rattle.type_base.specs.Scope.{Scope}
use Rattle.type_base.specs.declared.seen.Want.TheVariants as want
use Rattle.typing_rules.specs.declared.aggregates.ArrayItems.{ArrayItems}
use Rattle.typing_rules.specs.declared.aggregates.Gathered.{Gathered}
use Rattle.typing_rules.specs.declared.aggregates.Manner.{Manner}
use Rattle.typing_rules.specs.declared.aggregates.Manner.TheVariants as manner
use Rattle.typing_rules.specs.declared.prefix.Found.{Found}
use Rattle.typing_rules.specs.Aggregates.{Sort, chosen, misfit, position_range, positional, rest, some_values, stopped}
use Rattle.typing_rules.specs.Parts.{Arg}
use Rattle.aggregate_rules.specs.Steps.{item_gathered, rest_gathered}
use Rattle.operand_rules.specs.Operands.{read_as, value_read}
use Rattle.operand_rules.specs.declared.operands.ReadOperand.{ReadOperand}
use Rattle.expression_reader.specs.declared.sorts.ItemStep.{ItemStep}
use Rattle.expression_reader.specs.declared.sorts.ItemStep.TheVariants as step
use Rattle.expression_reader.specs.declared.sorts.ReadSort.{ReadSort}
use Rattle.expression_reader.specs.declared.sorts.ReadSort.TheVariants as sort

-- with its value read for items of subtype k
abbrev pub sort_read : Scope → ℕ → Sort → ReadSort
sort_read c k (positional o) = sort.Positional (read_as c (want.Subtype k) o)
sort_read c k (chosen r o) = sort.Chosen r (read_as c (want.Subtype k) o)
sort_read c k (rest o) = sort.Rest (read_as c (want.Subtype k) o)
sort_read c k misfit = sort.Misfit

-- what a positional association with such a range leads to
abbrev pub by_place : Scope → ℕ → Manner → Gathered → Arg → Found Bounds → ReadOperand → ItemStep
by_place c k manner.ByChoice g x r o = step.Ended (stopped c g x)
by_place c k _ g x r o = step.Further manner.ByPlace (item_gathered c k g r o.place (value_read c o))

-- one with a choice, which is alone or isn't
abbrev pub by_choice : Scope → ℕ → Bool → Manner → Gathered → Arg → Found Bounds → ReadOperand → ItemStep
by_choice c k alone manner.ByPlace g x r o = step.Ended (stopped c g x)
by_choice c k alone _ g x r o = step.Further manner.ByChoice (item_gathered c k g (some_values alone (c.place x.from) r) o.place (value_read c o))

abbrev pub by_others : Scope → ℕ → Bool → Gathered → Arg → ReadOperand → ItemStep
by_others c k last g x o = if last then step.Ended (rest_gathered c k g o.place (value_read c o)) else step.Ended (stopped c g x)

-- what an association leads to, after n others, which is the last one or isn't
abbrev pub item_step : Scope → ℕ → Bounds → ℕ → Bool → Manner → Gathered → Arg → ReadSort → ItemStep
item_step c k b n last m g x (sort.Positional o) = by_place c k m g x (position_range b n) o
item_step c k b n last m g x (sort.Chosen r o) = by_choice c k ((n == 0) && last) m g x r o
item_step c k b n last m g x (sort.Rest o) = by_others c k last g x o
item_step c k b n last m g x sort.Misfit = step.Ended (stopped c g x)

-- the associations by a step, and by those that follow
abbrev pub items_by : ItemStep → (Manner → Gathered → ArrayItems) → ArrayItems
items_by (step.Ended i) f = i
items_by (step.Further m g) f = f m g
