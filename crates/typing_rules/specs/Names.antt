-- Names with selectors, indexes and conversions. -- Ada RM 4.1, 4.6
use Rattle.std.specs.Prelude.{ℕ, ℤ, Bool, true, false, not, ◌==◌, ◌&&◌, ◌||◌, List, [], ◌∷◌, ◌++◌, length, Option, Some, None, if◌then◌else◌}
use Rattle.ada_values.specs.Scalars.{in_base}
use Rattle.ada_values.specs.declared.place.Place.{Place}
use Rattle.ada_values.specs.declared.values.Value.{Value}
use Rattle.ada_values.specs.declared.values.Value.TheVariants as value
use Rattle.front_codes.specs.declared.codes.Code.{Code}
use Rattle.front_codes.specs.declared.codes.Code.TheVariants as code
use Rattle.front_codes.specs.declared.codes.Refusal.{Refusal}
use Rattle.name_library.specs.declared.links.Link.{Link}
use Rattle.typed_units.specs.declared.expressions.Expr.{Expr, out-Expr}
use Rattle.typed_units.specs.declared.expressions.ExprNode.{ExprNode}
use Rattle.typed_units.specs.declared.expressions.ExprNode.TheVariants as node
use Rattle.typed_units.specs.declared.expressions.Indexed.{Indexed}
use Rattle.typed_units.specs.declared.expressions.Step.TheVariants as step
use Rattle.typed_units.specs.declared.operators.Bounds.{Bounds}
use Rattle.type_base.specs.Scope.{Scope}
use Rattle.type_base.specs.declared.seen.Seen.{Seen}
use Rattle.type_base.specs.declared.seen.Seen.TheVariants as seen
use Rattle.type_base.specs.declared.seen.Want.TheVariants as want
use Rattle.type_base.specs.declared.world.Component.{Component}
use Rattle.type_base.specs.declared.world.Form.{Form}
use Rattle.type_base.specs.declared.world.Form.TheVariants as form
use Rattle.type_base.specs.declared.world.Formal.{Formal}
use Rattle.type_base.specs.declared.world.Routine.{Routine}
use Rattle.type_base.specs.declared.world.World.{World}
use Rattle.type_base.specs.Demands.{broken, check_of, includes, is_whole, known, made, placed_number, refused, subtype_of}
use Rattle.type_base.specs.Lookups.{form_at, type_at}
use Rattle.typing_rules.specs.declared.prefix.Found.{Found}
use Rattle.typing_rules.specs.declared.prefix.Found.TheVariants as found
use Rattle.typing_rules.specs.declared.prefix.Part.{Part}
use Rattle.typing_rules.specs.declared.prefix.Prefix.{Prefix}
use Rattle.typing_rules.specs.declared.prefix.Prefix.TheVariants as prefix
use Rattle.typing_rules.specs.Calls.{arguments, operand_of}
use Rattle.typing_rules.specs.Fits.{spoiled, refused_beside, seen_then}
use Rattle.typing_rules.specs.Lookups.{Array, array_at, components_at, entity_by, place_among, seen_as}
use Rattle.typing_rules.specs.Parts.{Arg, Choice, Operand, single}
use Rattle.typing_rules.specs.Values.{call_value, component_subtype, entity_prefix, formals_of, place_of, prefix_fault, seen_of, value_of}

-- the only argument, where it is an expression alone
abbrev pub alone_by : Choice → Option Operand → List Arg → Option Operand
alone_by (single o) None [] = Some o
alone_by _ v as' = None

abbrev pub only_operand : List Arg → Option Operand
only_operand (a ∷ as') = alone_by a.choice a.value as'
only_operand [] = None

-- ---- components (Ada RM 4.1.3)

abbrev pub component_part : Place → Part → List Component → Option ℕ → Prefix
component_part p g cs None = prefix.Value (refused code.L15 p)
component_part p g cs (Some n) =
    prefix.Part (record g { subtype = component_subtype (Some cs) n; target = record { place = g.target.place; object = g.target.object; path = g.target.path ++ (step.Component n (length cs) ∷ []) } })

abbrev pub part_component : Place → ℕ → Part → Option (List Component) → Prefix
part_component p m g (Some cs) = component_part p g cs (place_among cs m 0)
part_component p m g None = prefix.Value (refused code.L15 p)

abbrev pub component_of : Scope → Place → Expr → List Component → Option ℕ → Seen
component_of c p x cs None = refused code.L15 p
component_of c p x cs (Some n) = seen_as c p (component_subtype (Some cs) n) (node.Component x n)

abbrev pub record_component : Scope → Place → ℕ → Expr → Option (List Component) → Seen
record_component c p m x (Some cs) = component_of c p x cs (place_among cs m 0)
record_component c p m x None = refused code.L15 p

abbrev pub value_component : Scope → Place → ℕ → Seen → Seen
value_component c p m (seen.Refused f) = seen.Refused f
value_component c p m seen.Unknown = seen.Unknown
value_component c p m (seen.Number n) = refused code.L15 p
value_component c p m (seen.Typed t x) = record_component c p m x (components_at c.world (subtype_of x))

-- the component of name m -- L15
abbrev pub component : Scope → Place → ℕ → Prefix → Prefix
component c p m (prefix.Part g) = part_component p m g (components_at c.world g.subtype)
component c p m f = prefix.Value (value_component c p m (value_of c p f))

abbrev pub unless_refused : Option Refusal → Prefix → Prefix
unless_refused (Some f) g = prefix.Value (seen.Refused f)
unless_refused None g = g

-- an identifier that has a link starts anew; another is a component
abbrev pub selected_by : Scope → Place → Prefix → ℕ → Option Link → Prefix
selected_by c p f at (Some l) = unless_refused (prefix_fault f) (entity_prefix c p (entity_by c (Some l)))
selected_by c p f at None = component c p (c.name at) f

abbrev pub selection : Scope → Place → Prefix → ℕ → Prefix
selection c p f at = selected_by c p f at (c.link at)

-- ---- items (Ada RM 4.1.1)

abbrev pub is_checked : World → Option Bounds → Expr → Bool
is_checked w None x = true
is_checked w (Some b) x = not (includes b (known w x))

abbrev pub index_placed : Scope → Option Bounds → Seen → Found (Indexed Expr)
index_placed c b (seen.Refused f) = found.Refused f
index_placed c b (seen.Typed t x) = found.Is (record { checked = is_checked c.world b x; value = x })
index_placed c b _ = found.Unknown

-- an expression at q of type t, by a rule; a number takes the type
abbrev pub typed_as : Scope → Code → ℕ → Place → Seen → Seen
typed_as c r t q (seen.Refused f) = seen.Refused f
typed_as c r t q seen.Unknown = seen.Unknown
typed_as c r t q (seen.Number n) = placed_number c.world r q q t n
typed_as c r t q (seen.Typed u x) = if t == u then seen.Typed t x else refused r q

abbrev pub of_type_by : Scope → Code → Option ℕ → Place → Seen → Seen
of_type_by c r None q (seen.Refused f) = seen.Refused f
of_type_by c r None q _ = seen.Unknown
of_type_by c r (Some t) q s = typed_as c r t q s

-- an expression at q of the type of subtype k
abbrev pub of_type : Scope → Code → ℕ → Place → Seen → Seen
of_type c r k q s = of_type_by c r (type_at c.world k) q s

abbrev pub index_by : Scope → Array → Place → Option Operand → Found (Indexed Expr)
index_by c a q (Some o) = index_placed c a.bounds (of_type c code.L14 a.index (place_of c o) (seen_of c o (want.Subtype a.index)))
index_by c a q None = found.Refused (broken code.L14 q)

-- L14: one index, of the index type
abbrev pub index_of : Scope → Place → Array → List Arg → Found (Indexed Expr)
index_of c p a (i ∷ []) = index_by c a (c.place i.from) (only_operand (i ∷ []))
index_of c p a (i ∷ j ∷ js) = spoiled (index_by c a (c.place i.from) (only_operand (i ∷ []))) (broken code.L14 (c.place j.from))
index_of c p a [] = found.Refused (broken code.L14 p)

abbrev pub item_of : Part → Array → Found (Indexed Expr) → Prefix
item_of g a (found.Refused f) = prefix.Value (seen.Refused f)
item_of g a found.Unknown = prefix.Value seen.Unknown
item_of g a (found.Is i) =
    prefix.Part (record g { subtype = a.item; target = record { place = g.target.place; object = g.target.object; path = g.target.path ++ (step.Item a.bounds i ∷ []) } })

abbrev pub part_item : Scope → Place → Part → List Arg → Option Array → Prefix
part_item c p g as' (Some a) = item_of g a (index_of c p a as')
part_item c p g as' None = prefix.Value (refused code.L14 p)

abbrev pub array_item : Scope → Place → Expr → List Arg → Option Array → Seen
array_item c p x as' (Some a) = seen_then (index_of c p a as') (λ i. seen_as c p a.item (node.Item x i))
array_item c p x as' None = refused code.L14 p

abbrev pub beside : Seen → Seen → Seen
beside (seen.Refused f) s = refused_beside f s
beside _ s = s

abbrev pub operand_beside : Scope → Option Operand → Seen → Seen
operand_beside c (Some o) s = beside (seen_of c o want.Unknown) s
operand_beside c None s = s

-- what follows a name of which nothing is known: only what is refused in it is told
abbrev pub after_unknown : Scope → List Arg → Seen
after_unknown c [] = seen.Unknown
after_unknown c (a ∷ as') = operand_beside c (operand_of a) (after_unknown c as')

abbrev pub value_item : Scope → Place → List Arg → Seen → Seen
value_item c p as' (seen.Refused f) = seen.Refused f
value_item c p as' seen.Unknown = after_unknown c as'
value_item c p as' (seen.Number n) = refused code.L14 p
value_item c p as' (seen.Typed t x) = array_item c p x as' (array_at c.world (subtype_of x))

-- ---- conversions (Ada RM 4.6): to subtype k, of an operand at q

abbrev pub of_same : Scope → Place → ℕ → Expr → Seen
of_same c p k x = seen_as c p k (node.Convert (check_of c.world k x) x)

-- a static value that lies in the subtype
abbrev pub static_or : Scope → Place → ℕ → Expr → Option Bounds → Value → Seen
static_or c p k x None v = seen_as c p k (node.Static v)
static_or c p k x (Some b) v = seen_as c p k (node.Convert (Some b) x)

-- L29
abbrev pub number_converted : Scope → Place → ℕ → Expr → ℤ → Option Form → Seen
number_converted c p k x n (Some (form.Number d s)) =
    if in_base s n then static_or c p k x (check_of c.world k x) (value.Int n) else refused code.L29 p
number_converted c p k x n _ = of_same c p k x

abbrev pub converted : Scope → Place → ℕ → Expr → ExprNode Expr → Seen
converted c p k x (node.Static (value.Int n)) = number_converted c p k x n (form_at c.world k)
converted c p k x (node.Static (value.Bool b)) = seen_as c p k (node.Static (value.Bool b))
converted c p k x _ = of_same c p k x

-- between integer types, or within one type that is no array type
abbrev pub convertible : ℕ → ℕ → Option Form → Option Form → Bool
convertible t u (Some (form.Array i b k)) g = false
convertible t u (Some (form.Number d s)) (Some (form.Number e r)) = (t == u) || (is_whole d && is_whole e)
convertible t u f g = t == u

abbrev pub typed_converted : Scope → Place → ℕ → Place → Option ℕ → ℕ → Expr → Seen
typed_converted c p k q None u x = seen.Unknown
typed_converted c p k q (Some t) u x =
    if convertible t u (form_at c.world k) (form_at c.world u) then converted c p k x (out-Expr x).node else refused code.L18 q

-- a number is converted as it is, where it lies in the base range
abbrev pub universal_converted : Scope → Place → ℕ → Place → ℤ → Option ℕ → Option Form → Seen
universal_converted c p k q n (Some t) (Some (form.Number d s)) =
    if is_whole d then number_converted c p k (made q t (node.Static (value.Int n))) n (Some (form.Number d s)) else refused code.L18 q
universal_converted c p k q n (Some t) (Some f) = refused code.L18 q
universal_converted c p k q n _ f = seen.Unknown

abbrev pub conversion : Scope → Place → ℕ → Place → Seen → Seen
conversion c p k q (seen.Refused f) = seen.Refused f
conversion c p k q seen.Unknown = seen.Unknown
conversion c p k q (seen.Number n) = universal_converted c p k q n (type_at c.world k) (form_at c.world k)
conversion c p k q (seen.Typed u x) = typed_converted c p k q (type_at c.world k) u x

-- L18: one operand
abbrev pub conversion_of : Scope → Place → ℕ → Option Operand → Seen
conversion_of c p k (Some o) = conversion c p k (place_of c o) (seen_of c o want.Free)
conversion_of c p k None = refused code.L18 p

-- ---- calls (Ada RM 6.4)

-- a call without arguments whose value is indexed
abbrev pub indexed_call : Scope → Place → ℕ → Option ℕ → List Arg → Seen
indexed_call c p q k as' = value_item c p as' (call_value c p q k (found.Is []))

abbrev pub function_call : Scope → Place → ℕ → ℕ → List Arg → List Formal → Option Array → Prefix
function_call c p q k as' [] (Some a) = prefix.Value (indexed_call c p q (Some k) as')
function_call c p q k as' [] None = prefix.Value (call_value c p q (Some k) (arguments c p [] [] false (found.Is []) as'))
function_call c p q k as' (f ∷ fs) a = prefix.Value (call_value c p q (Some k) (arguments c p (f ∷ fs) [] false (found.Is []) as'))

abbrev pub call_by : Scope → Place → ℕ → List Arg → Option ℕ → List Formal → Prefix
call_by c p q as' (Some k) fs = function_call c p q k as' fs (array_at c.world k)
call_by c p q as' None fs = prefix.Called q (arguments c p fs [] false (found.Is []) as')

abbrev pub routine_call : Scope → Place → ℕ → List Arg → Option Routine → Prefix
routine_call c p q as' (Some r) = call_by c p q as' r.result (formals_of c.world r)
routine_call c p q as' None = prefix.Value (after_unknown c as')
