-- Assertions, loop invariants and loop variants. -- L9, L25, Ada RM 11.4.2, SPARK RM 5.5.3
use Rattle.std.specs.Prelude.{ℕ, Bool, true, Option, Some, None, List, [], ◌++◌}
use Rattle.ada_values.specs.declared.place.Place.{Place}
use Rattle.front_codes.specs.declared.codes.Code.TheVariants.{L9, L25}
use Rattle.front_codes.specs.declared.codes.Refusal.{Refusal}
use Rattle.name_numbers.specs.declared.words.Word.{Word}
use Rattle.name_numbers.specs.declared.words.Word.TheVariants as word
use Rattle.typed_units.specs.declared.expressions.Expr.{Expr}
use Rattle.typed_units.specs.declared.statements.Direction.{Direction}
use Rattle.typed_units.specs.declared.statements.Direction.TheVariants as direction
use Rattle.typed_units.specs.declared.statements.Way.{Way}
use Rattle.type_base.specs.declared.seen.Seen.{Seen}
use Rattle.type_base.specs.declared.seen.Seen.TheVariants as seen'
use Rattle.type_base.specs.declared.seen.Demand.TheVariants as demand
use Rattle.type_base.specs.declared.seen.Want.TheVariants as want
use Rattle.type_base.specs.declared.world.World.{World}
use Rattle.type_base.specs.Demands.{operand, placed_number}
use Rattle.type_base.specs.Scope.{Scope}
use Rattle.type_base.specs.Standard.{integer_base}
use Rattle.syntax_view.specs.Trees as tree
use Rattle.typing_rules.specs.declared.prefix.Found.{Found}
use Rattle.typing_rules.specs.declared.prefix.Found.TheVariants.{Refused, Unknown, Is}
use Rattle.typing_rules.specs.Fits.{with_found}
use Rattle.typing_rules.specs.Reading.{item_seen}
use Rattle.statement_typing.specs.Asked.{item_faults, item_place}
use Rattle.statement_typing.specs.Checks.{added, and_also, broken, fault_beyond, refuse}
use Rattle.statement_typing.specs.Aspects.{item_condition, item_condition_faults}

-- the word of an identifier that is a whole choice
abbrev pub choice_word : (ℕ → Option Word) → tree.ArgChoice → Option Word
choice_word word (tree.part (tree.item s (tree.plain (tree.at t (tree.name (tree.named u n tree.no_suffixes)))))) = word n.from
choice_word word _ = None

-- ---- Assert, Assume and Loop_Invariant have one condition, after `Check =>` where anything stands before it -- L9

abbrev pub checked_by : Scope → Place → Option Word → tree.Item → Found Expr
checked_by c p (Some word.Check) i = item_condition c L9 i
checked_by c p w i = and_also (refuse L9 p) (item_condition c L9 i)

abbrev pub checked_by_faults : Scope → Place → Option Word → tree.Item → List Refusal
checked_by_faults c p (Some word.Check) i = item_condition_faults c L9 i
checked_by_faults c p w i = broken L9 p ++ item_condition_faults c L9 i

abbrev pub checked_arg : (ℕ → Option Word) → Scope → tree.Arg → Found Expr
checked_arg word c (tree.arg s (tree.part i) tree.no_value) = item_condition c L9 i
checked_arg word c (tree.arg s k (tree.value i)) = checked_by c (c.place s.from) (choice_word word k) i
checked_arg word c (tree.arg s k v) = refuse L9 (c.place s.from)

abbrev pub checked_arg_faults : (ℕ → Option Word) → Scope → tree.Arg → List Refusal
checked_arg_faults word c (tree.arg s (tree.part i) tree.no_value) = item_condition_faults c L9 i
checked_arg_faults word c (tree.arg s k (tree.value i)) = checked_by_faults c (c.place s.from) (choice_word word k) i
checked_arg_faults word c (tree.arg s k v) = broken L9 (c.place s.from)

-- the condition of a pragma at p; a second argument is one too many
abbrev pub no_more : Scope → tree.Args → Found Bool
no_more c tree.no_args = Is true
no_more c (tree.args (tree.arg s k v) as') = refuse L9 (c.place s.from)

abbrev pub no_more_faults : Scope → tree.Args → List Refusal
no_more_faults c tree.no_args = []
no_more_faults c (tree.args (tree.arg s k v) as') = broken L9 (c.place s.from)

abbrev pub checked : (ℕ → Option Word) → Scope → Place → tree.Args → Found Expr
checked word c p tree.no_args = refuse L9 p
checked word c p (tree.args a as') = and_also (checked_arg word c a) (no_more c as')

abbrev pub checked_faults : (ℕ → Option Word) → Scope → Place → tree.Args → List Refusal
checked_faults word c p tree.no_args = broken L9 p
checked_faults word c p (tree.args a as') = checked_arg_faults word c a ++ no_more_faults c as'

-- ---- Loop_Variant has directions with integer expressions -- L25

abbrev pub direction_of : Option Word → Option Direction
direction_of (Some word.Increases) = Some direction.Increases
direction_of (Some word.Decreases) = Some direction.Decreases
direction_of _ = None

abbrev pub integer_seen : Place → Seen → Found Expr
integer_seen p (seen'.Refused f) = Refused f
integer_seen p seen'.Unknown = Unknown
integer_seen p (seen'.Number n) = Unknown
integer_seen p (seen'.Typed t x) = Is x

-- a universal number is an Integer
abbrev pub as_integer : World → Place → Seen → Seen
as_integer w p (seen'.Number n) = placed_number w L25 p p integer_base n
as_integer w p s = s

abbrev pub moved_value : World → Place → Seen → Found Expr
moved_value w p s = integer_seen p (as_integer w p (operand w demand.Integer L25 p s))

abbrev pub way_by : Scope → Place → Option Direction → tree.Item → Found Way
way_by c p (Some d) i = with_found (λ x. record { direction = d; value = x }) (moved_value c.world (item_place c i) (item_seen c want.Free i))
way_by c p None i = and_also (refuse L25 p) (moved_value c.world (item_place c i) (item_seen c want.Free i))

abbrev pub way_by_faults : Scope → Place → Option Direction → tree.Item → List Refusal
way_by_faults c p (Some d) i = item_faults c want.Free i ++ fault_beyond (item_seen c want.Free i) (moved_value c.world (item_place c i) (item_seen c want.Free i))
way_by_faults c p None i =
    broken L25 p ++ item_faults c want.Free i ++ fault_beyond (item_seen c want.Free i) (moved_value c.world (item_place c i) (item_seen c want.Free i))

abbrev pub way : (ℕ → Option Word) → Scope → tree.Arg → Found Way
way word c (tree.arg s k (tree.value i)) = way_by c (c.place s.from) (direction_of (choice_word word k)) i
way word c (tree.arg s k tree.no_value) = refuse L25 (c.place s.from)

abbrev pub way_faults : (ℕ → Option Word) → Scope → tree.Arg → List Refusal
way_faults word c (tree.arg s k (tree.value i)) = way_by_faults c (c.place s.from) (direction_of (choice_word word k)) i
way_faults word c (tree.arg s k tree.no_value) = broken L25 (c.place s.from)

abbrev pub ways_onto : (ℕ → Option Word) → Scope → Found (List Way) → tree.Args → Found (List Way)
ways_onto word c done tree.no_args = done
ways_onto word c done (tree.args a as') = ways_onto word c (added done (way word c a)) as'

abbrev pub ways_from_faults : (ℕ → Option Word) → Scope → tree.Args → List Refusal
ways_from_faults word c tree.no_args = []
ways_from_faults word c (tree.args a as') = way_faults word c a ++ ways_from_faults word c as'

abbrev pub ways : (ℕ → Option Word) → Scope → Place → tree.Args → Found (List Way)
ways word c p tree.no_args = refuse L25 p
ways word c p (tree.args a as') = ways_onto word c (Is []) (tree.args a as')

abbrev pub ways_faults : (ℕ → Option Word) → Scope → Place → tree.Args → List Refusal
ways_faults word c p tree.no_args = broken L25 p
ways_faults word c p (tree.args a as') = ways_from_faults word c (tree.args a as')
