-- The type of an expression, as far as its form and its names tell without a context: none of numbers, of `'Length` and of
-- aggregates. It decides what type the expression beside it takes (Ada RM 8.6), and is no test.
use Rattle.std.specs.Prelude.{ℕ, List, [], ◌∷◌, Option, Some, None}
use Rattle.ada_syntax.specs.declared.expressions.UnaryOperator.{UnaryOperator}
use Rattle.ada_syntax.specs.declared.expressions.UnaryOperator.TheVariants as unary'
use Rattle.name_library.specs.declared.links.Link.{Link}
use Rattle.name_numbers.specs.Numbers.{word_of}
use Rattle.name_numbers.specs.declared.words.Word.{Word}
use Rattle.name_numbers.specs.declared.words.Word.TheVariants as word
use Rattle.type_base.specs.Scope.{Scope}
use Rattle.type_base.specs.declared.entities.Entity.{Entity}
use Rattle.type_base.specs.declared.entities.Entity.TheVariants as entity
use Rattle.type_base.specs.declared.seen.Family.{Family}
use Rattle.type_base.specs.declared.seen.Family.TheVariants as family
use Rattle.type_base.specs.declared.world.Component.{Component}
use Rattle.type_base.specs.declared.world.Form.{Form}
use Rattle.type_base.specs.declared.world.Form.TheVariants as form
use Rattle.type_base.specs.declared.world.Formal.{Formal}
use Rattle.type_base.specs.declared.world.Routine.{Routine}
use Rattle.type_base.specs.declared.world.World.{World}
use Rattle.type_base.specs.Lookups.{form_at, routine_at, type_at}
use Rattle.type_base.specs.Standard.{boolean}
use Rattle.typing_rules.specs.declared.hint.Hint.{Hint}
use Rattle.typing_rules.specs.declared.hint.Hint.TheVariants.{Nothing, Subtype, Routine as OfRoutine, Value, Function}
use Rattle.typing_rules.specs.Lookups.{Array, array_at, components_at, entity_by, entity_of, place_among, type_of}
use Rattle.typing_rules.specs.Names.{only_operand}
use Rattle.typing_rules.specs.Parts.{Arg, Arm, Operand, Range, Suffix, applied, attribute, qualified, range_attribute, selected}
use Rattle.typing_rules.specs.Values.{component_subtype, formals_of}

-- ---- names

abbrev pub entity_hint : Entity → Hint
entity_hint (entity.Subtype k) = Subtype k
entity_hint (entity.Routine q) = OfRoutine q
entity_hint (entity.Literal k n) = Value k
entity_hint (entity.Static k n) = Value k
entity_hint (entity.Constant k n) = Value k
entity_hint (entity.Object k o a) = Value k
entity_hint _ = Nothing

abbrev pub value_if : Option ℕ → Hint
value_if (Some k) = Value k
value_if None = Nothing

abbrev pub result_hint : Option Routine → Hint
result_hint (Some r) = value_if r.result
result_hint None = Nothing

-- a subprogram's name alone is its call
abbrev pub called_hint : World → Hint → Hint
called_hint w (OfRoutine q) = result_hint (routine_at w q)
called_hint w h = h

abbrev pub component_at_hint : List Component → Option ℕ → Hint
component_at_hint cs (Some n) = Value (component_subtype (Some cs) n)
component_at_hint cs None = Nothing

abbrev pub components_hint : ℕ → Option (List Component) → Hint
components_hint m (Some cs) = component_at_hint cs (place_among cs m 0)
components_hint m None = Nothing

abbrev pub component_hint : World → ℕ → Hint → Hint
component_hint w m (Value k) = components_hint m (components_at w k)
component_hint w m h = Nothing

abbrev pub selected_hint : Scope → Hint → ℕ → Option Link → Hint
selected_hint c h at (Some l) = entity_hint (entity_by c (Some l))
selected_hint c h at None = component_hint c.world (c.name at) (called_hint c.world h)

abbrev pub item_hint : Option Array → Hint
item_hint (Some a) = Value a.item
item_hint None = Nothing

abbrev pub call_hint : World → Option ℕ → List Formal → Hint
call_hint w (Some k) [] = item_hint (array_at w k)
call_hint w (Some k) (f ∷ fs) = Value k
call_hint w None fs = Nothing

abbrev pub routine_hint : World → Option Routine → Hint
routine_hint w (Some r) = call_hint w r.result (formals_of w r)
routine_hint w None = Nothing

abbrev pub applied_hint : World → Hint → Hint
applied_hint w (Subtype k) = Value k
applied_hint w (OfRoutine q) = routine_hint w (routine_at w q)
applied_hint w (Value k) = item_hint (array_at w k)
applied_hint w (Function k) = Value k
applied_hint w Nothing = Nothing

abbrev pub index_hint : World → Option Array → Hint
index_hint w (Some a) = Value (type_of w a.index)
index_hint w None = Nothing

abbrev pub subtype_bound_hint : World → ℕ → Option Form → Hint
subtype_bound_hint w k (Some (form.Number d s)) = Value k
subtype_bound_hint w k f = index_hint w (array_at w k)

abbrev pub bound_hint : World → Hint → Hint
bound_hint w (Subtype k) = subtype_bound_hint w k (form_at w k)
bound_hint w (Value k) = index_hint w (array_at w k)
bound_hint w h = Nothing

abbrev pub function_hint : Hint → Hint
function_hint (Subtype k) = Function k
function_hint h = Nothing

abbrev pub attribute_hint : World → Hint → Option Word → Hint
attribute_hint w h (Some word.First) = bound_hint w (called_hint w h)
attribute_hint w h (Some word.Last) = bound_hint w (called_hint w h)
attribute_hint w h (Some word.Succ) = function_hint h
attribute_hint w h (Some word.Pred) = function_hint h
attribute_hint w h (Some word.Val) = function_hint h
attribute_hint w h (Some word.Old) = called_hint w h
attribute_hint w h (Some word.LoopEntry) = called_hint w h
attribute_hint w h (Some word.Result) = called_hint w h
attribute_hint w h _ = Nothing

abbrev pub qualified_hint : Hint → Hint
qualified_hint (Subtype k) = Value k
qualified_hint h = Nothing

abbrev pub suffix_hint : Scope → Hint → Suffix → Hint
suffix_hint c h (selected at) = selected_hint c h at (c.link at)
suffix_hint c h (attribute t at) = attribute_hint c.world h (word_of (c.name at))
suffix_hint c h (range_attribute t) = Nothing
suffix_hint c h (qualified t as') = qualified_hint h
suffix_hint c h (applied as') = applied_hint c.world h

abbrev pub suffixes_hint : Scope → Hint → List Suffix → Hint
suffixes_hint c h [] = h
suffixes_hint c h (s ∷ ss) = suffixes_hint c (suffix_hint c h s) ss

abbrev pub value_kind : World → Hint → Option ℕ
value_kind w (Value k) = type_at w k
value_kind w h = None

abbrev pub name_kind : Scope → ℕ → List Suffix → Option ℕ
name_kind c i ss = value_kind c.world (called_hint c.world (suffixes_hint c (entity_hint (entity_of c i)) ss))

-- ---- other forms

abbrev pub first_kind : Option ℕ → Option ℕ → Option ℕ
first_kind (Some t) k = Some t
first_kind None k = k

abbrev pub operand_kind : Option Operand → Option ℕ
operand_kind (Some o) = o.kind
operand_kind None = None

abbrev pub group_kind : List Arg → Option ℕ
group_kind as' = operand_kind (only_operand as')

abbrev pub unary_kind : UnaryOperator → Option ℕ → Option ℕ
unary_kind unary'.Not k = Some boolean
unary_kind o k = k

abbrev pub binary_kind : Family → Option ℕ → Option ℕ → Option ℕ
binary_kind (family.Arithmetic o) a b = first_kind a b
binary_kind (family.Compare r) a b = Some boolean
binary_kind (family.Connect k) a b = Some boolean
binary_kind family.Power a b = a

abbrev pub arms_kind : List Arm → Option ℕ → Option ℕ
arms_kind [] k = k
arms_kind (a ∷ as') k = first_kind a.gives.kind (arms_kind as' k)

-- the first branch that has one
abbrev pub branches_kind : List Arm → Option Operand → Option ℕ
branches_kind as' e = arms_kind as' (operand_kind e)

-- a range's: that of its bounds, or of the index of the array whose range it is
abbrev pub range_kind : Range → Option ℕ
range_kind g = first_kind g.low.kind (operand_kind g.high)
