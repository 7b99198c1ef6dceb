-- What an expression is by its form, a line for each. -- Ada RM 4
use Rattle.std.specs.Prelude.{ℕ, Bool, true, false, not, List, [], ◌∷◌, Option, Some, None}
use Rattle.ada_values.specs.declared.place.Place.{Place}
use Rattle.front_codes.specs.declared.codes.Code.TheVariants as code
use Rattle.type_base.specs.Operators.{family_of, joined, unary_of}
use Rattle.type_base.specs.Scope.{Scope}
use Rattle.type_base.specs.declared.seen.Family.{Family}
use Rattle.type_base.specs.declared.seen.Family.TheVariants as family
use Rattle.type_base.specs.declared.seen.Seen.{Seen}
use Rattle.type_base.specs.declared.seen.Seen.TheVariants as seen
use Rattle.type_base.specs.declared.seen.Want.{Want}
use Rattle.type_base.specs.declared.seen.Want.TheVariants as want
use Rattle.type_base.specs.Demands.{refused}
use Rattle.type_base.specs.Lookups.{routine_at}
use Rattle.type_base.specs.Standard.{boolean, integer_base}
use Rattle.typing_rules.specs.declared.prefix.Prefix.{Prefix}
use Rattle.typing_rules.specs.declared.prefix.Prefix.TheVariants as prefix
use Rattle.typing_rules.specs.Aggregates.{group_seen, qualification}
use Rattle.typing_rules.specs.Attributes.{attributed, bounded, mapped, range_at}
use Rattle.typing_rules.specs.Conditions.{if_seen, quantified_seen}
use Rattle.typing_rules.specs.Kinds.{binary_kind, branches_kind, group_kind, name_kind, range_kind, unary_kind}
use Rattle.typing_rules.specs.Lookups.{entity_of}
use Rattle.typing_rules.specs.Names.{conversion_of, only_operand, part_item, routine_call, selection, value_item}
use Rattle.typing_rules.specs.Lookups.{array_at}
use Rattle.typing_rules.specs.Parts.{Arg, Form, Operand, Suffix, applied, attribute, binary, choose, group, member, name, null, number, qualified, quantified, range_attribute, selected, unary}
use Rattle.typing_rules.specs.Ranges.{member_seen, want_or, weaker}
use Rattle.typing_rules.specs.Values.{entity_prefix, place_of, seen_of, value_of}

-- ---- names (Ada RM 4.1): p is the place of the whole name

-- A conversion, a call, an index or the argument of an attribute. -- L10, L14, L18
abbrev pub application : Scope → Place → Prefix → List Arg → Prefix
application c p (prefix.Subtype k) as' = prefix.Value (conversion_of c p k (only_operand as'))
application c p (prefix.Routine q) as' = routine_call c p q as' (routine_at c.world q)
application c p (prefix.Mapping m t k) as' = prefix.Value (mapped c p m t k (only_operand as'))
application c p (prefix.Part g) as' = part_item c p g as' (array_at c.world g.subtype)
application c p f as' = prefix.Value (value_item c p as' (value_of c p f))

abbrev pub suffix_prefix : Scope → Want → Place → Prefix → Suffix → Prefix
suffix_prefix c w p f (selected at) = selection c p f at
suffix_prefix c w p f (attribute t at) = attributed c w p f t at
suffix_prefix c w p f (range_attribute t) = range_at c p (bounded c p f)
suffix_prefix c w p f (qualified t as') = prefix.Value (qualification c p f (c.place t) as')
suffix_prefix c w p f (applied as') = application c p f as'

abbrev pub suffixes_prefix : Scope → Want → Place → Prefix → List Suffix → Prefix
suffixes_prefix c w p f [] = f
suffixes_prefix c w p f (s ∷ ss) = suffixes_prefix c w p (suffix_prefix c w p f s) ss

-- a name by its first identifier and what follows that
abbrev pub name_prefix : Scope → Want → Place → ℕ → List Suffix → Prefix
name_prefix c w p i ss = suffixes_prefix c w p (entity_prefix c p (entity_of c i)) ss

-- ---- operators (Ada RM 4.5): what the context gives their operands

-- an operand beside another takes that one's type, and else the type that the operator's own context gives
abbrev pub outer_want : Scope → Family → Want → Want
outer_want c (family.Arithmetic o) w = weaker c.world w
outer_want c (family.Connect k) w = weaker c.world w
outer_want c _ w = want.Free

abbrev pub left_want : Scope → Family → Want → Operand → Want
left_want c family.Power w b = weaker c.world w
left_want c f w b = want_or (outer_want c f w) b.kind

abbrev pub right_want : Scope → Family → Want → Operand → Want
right_want c family.Power w a = want.Type integer_base
right_want c f w a = want_or (outer_want c f w) a.kind

abbrev pub binary_seen : Scope → Want → Place → Place → Family → Operand → Operand → Seen
binary_seen c w p o f a b =
    joined c.world w p o (place_of c a) (place_of c b) f (seen_of c a (left_want c f w b)) (seen_of c b (right_want c f w a))

-- ---- all forms

-- an expression at p, in a context
abbrev pub form_prefix : Scope → Place → Form → Want → Prefix
form_prefix c p (number n) w = prefix.Value (seen.Number n)
form_prefix c p null w = prefix.Value (refused code.LeftOut p)
form_prefix c p (name i ss) w = name_prefix c w p i ss
form_prefix c p (group as') w = prefix.Value (group_seen c p w as')
form_prefix c p (unary o a) w = prefix.Value (unary_of c.world p (place_of c a) o (seen_of c a (weaker c.world w)))
form_prefix c p (binary t o a b) w = prefix.Value (binary_seen c w p (c.place t) (family_of o) a b)
form_prefix c p (member b a g) w = prefix.Value (member_seen c p (not b) a g (range_kind g))
form_prefix c p (choose as' e) w = prefix.Value (if_seen c p w (branches_kind as' e) as' e)
form_prefix c p (quantified q at g f) w = prefix.Value (quantified_seen c p q at g f)

abbrev pub form_kind : Scope → Form → Option ℕ
form_kind c (number n) = None
form_kind c null = None
form_kind c (name i ss) = name_kind c i ss
form_kind c (group as') = group_kind as'
form_kind c (unary o a) = unary_kind o a.kind
form_kind c (binary t o a b) = binary_kind (family_of o) a.kind b.kind
form_kind c (member b a g) = Some boolean
form_kind c (choose as' e) = branches_kind as' e
form_kind c (quantified q at g f) = Some boolean

abbrev no_suffix : List Suffix → Bool
no_suffix [] = true
no_suffix (s ∷ ss) = false

-- an identifier alone
abbrev pub is_identifier : Form → Bool
is_identifier (name i ss) = no_suffix ss
is_identifier _ = false
