-- Static bounds, subtype indications and the definitions of types. -- Ada RM 3.2.2, 3.4, 3.5, 3.6, 3.8
use Rattle.std.specs.Prelude.{ℕ, ℤ, Bool, true, false, Option, Some, None, List, [], ◌++◌, ◌==◌, if◌then◌else◌}
use Rattle.std.specs.Int.RustNames.{int_le}
use Rattle.ada_values.specs.Scalars.{in_scalar}
use Rattle.ada_values.specs.declared.place.Place.{Place}
use Rattle.ada_values.specs.declared.scalars.Scalar.{Scalar}
use Rattle.ada_text.specs.declared.token.Span.{Span}
use Rattle.front_codes.specs.declared.codes.Code.{Code}
use Rattle.front_codes.specs.declared.codes.Code.TheVariants.{L20, L26}
use Rattle.front_codes.specs.declared.codes.Refusal.{Refusal}
use Rattle.typed_units.specs.declared.expressions.Expr.{Expr}
use Rattle.typed_units.specs.declared.operators.Bounds.{Bounds}
use Rattle.type_base.specs.declared.entities.Entity.{Entity}
use Rattle.type_base.specs.declared.entities.Entity.TheVariants as entity
use Rattle.type_base.specs.declared.seen.Seen.{Seen}
use Rattle.type_base.specs.declared.seen.Seen.TheVariants as seen'
use Rattle.type_base.specs.declared.seen.Want.{Want}
use Rattle.type_base.specs.declared.seen.Want.TheVariants as want
use Rattle.type_base.specs.declared.world.Form.{Form}
use Rattle.type_base.specs.declared.world.Form.TheVariants as form
use Rattle.type_base.specs.declared.world.Subtype.{Subtype}
use Rattle.type_base.specs.declared.world.World.{World}
use Rattle.type_base.specs.Demands.{bounds_at, is_comparable, is_integer, placed_number}
use Rattle.type_base.specs.Lookups.{form_at, form_in, subtype_at, type_at}
use Rattle.type_base.specs.Results.{number_in}
use Rattle.type_base.specs.Scope.{Scope}
use Rattle.syntax_view.specs.Trees as tree
use Rattle.typing_rules.specs.declared.prefix.Between.{Between}
use Rattle.typing_rules.specs.Lookups.{entity_of}
use Rattle.typing_rules.specs.Reading.{faults, seen}
use Rattle.statement_typing.specs.declared.parts.Noted.{Noted}
use Rattle.statement_typing.specs.declared.parts.Noted.TheVariants.{Known, New}
use Rattle.statement_typing.specs.declared.parts.StaticRange.{StaticRange}
use Rattle.statement_typing.specs.Asked.{high_place, low_place, place_of, range_faults, range_seen}
use Rattle.typing_rules.specs.declared.prefix.Found.{Found}
use Rattle.typing_rules.specs.declared.prefix.Found.TheVariants.{Refused, Unknown, Is}
use Rattle.typing_rules.specs.Fits.{both, found_then, with_found}
use Rattle.statement_typing.specs.Checks.{and_also, broken, fault_after, fault_beyond, refuse, unless}

-- ---- static numbers

abbrev pub static_number : Code → Place → Option ℤ → Found ℤ
static_number r p None = refuse r p
static_number r p (Some n) = Is n

abbrev pub static_in : Code → Place → Expr → Found ℤ
static_in r p x = static_number r p (number_in x)

abbrev pub is_of_integers : Option Form → Bool
is_of_integers None = false
is_of_integers (Some f) = is_integer f

-- a static number of any integer type -- Ada RM 3.5.4(3), 3.5.4(6)
abbrev pub integer_number : World → Place → Seen → Found ℤ
integer_number w p (seen'.Refused f) = Refused f
integer_number w p seen'.Unknown = Unknown
integer_number w p (seen'.Number n) = Is n
integer_number w p (seen'.Typed t x) = if is_of_integers (form_at w t) then static_in L20 p x else refuse L20 p

abbrev pub static_seen : Code → Place → Seen → Found ℤ
static_seen r p (seen'.Refused f) = Refused f
static_seen r p (seen'.Typed t x) = static_in r p x
static_seen r p _ = Unknown

-- a static value of the discrete type of this number, by a rule -- Ada RM 3.5(5)
abbrev pub value_of_type : World → Code → ℕ → Place → Seen → Found ℤ
value_of_type w r t p (seen'.Refused f) = Refused f
value_of_type w r t p seen'.Unknown = Unknown
value_of_type w r t p (seen'.Number n) = static_seen r p (placed_number w r p p t n)
value_of_type w r t p (seen'.Typed u x) = if t == u then static_in r p x else refuse r p

-- an expression of which a demand is made
abbrev pub part : {A : Type 0} → Scope → Want → tree.Expr → (Seen → Found A) → Found A
part c w e d = d (seen c w e)

abbrev pub part_faults : {A : Type 0} → Scope → Want → tree.Expr → (Seen → Found A) → List Refusal
part_faults c w e d = faults c w e ++ fault_beyond (seen c w e) (d (seen c w e))

-- an expression of which nothing is demanded
abbrev pub heard : Seen → Found (Unit {0})
heard (seen'.Refused f) = Refused f
heard seen'.Unknown = Unknown
heard (seen'.Number n) = Is tt
heard (seen'.Typed t x) = Is tt

-- ---- bounds

abbrev pub bounds : ℤ → ℤ → Bounds
bounds l h = record { first = l; last = h }

-- two bounds, the latter of which isn't the lesser -- L20
abbrev pub in_order : Place → Bounds → Found Bounds
in_order p b = unless (int_le b.first b.last) L20 p b

-- the bounds of a constraint, each of them in the parent subtype -- L20, Ada RM 3.5(4)
abbrev pub bound_in : World → ℕ → Scalar → Place → Seen → Found ℤ
bound_in w t x p s = found_then (value_of_type w L20 t p s) (λ n. unless (in_scalar x n) L20 p n)

abbrev pub range_in : Scope → ℕ → Scalar → tree.Bounds → Found Bounds
range_in c t x b =
    found_then (both bounds (part c (want.Type t) b.low (bound_in c.world t x (place_of c b.low))) (part c (want.Type t) b.high (bound_in c.world t x (place_of c b.high))))
    (in_order (place_of c b.high))

abbrev pub range_in_faults : Scope → ℕ → Scalar → tree.Bounds → List Refusal
range_in_faults c t x b =
    part_faults c (want.Type t) b.low (bound_in c.world t x (place_of c b.low))
    ++ part_faults c (want.Type t) b.high (bound_in c.world t x (place_of c b.high))
    ++ fault_after (both bounds (part c (want.Type t) b.low (bound_in c.world t x (place_of c b.low))) (part c (want.Type t) b.high (bound_in c.world t x (place_of c b.high))))
    (range_in c t x b)

-- bounds where there is nothing that they could be bounds of
abbrev pub loose : Scope → Option tree.Bounds → Found (Unit {0})
loose c None = Is tt
loose c (Some b) = and_also (heard (seen c want.Free b.low)) (heard (seen c want.Free b.high))

abbrev pub loose_faults : Scope → Option tree.Bounds → List Refusal
loose_faults c None = []
loose_faults c (Some b) = faults c want.Free b.low ++ faults c want.Free b.high

-- a range of a discrete type with static bounds: the subtype that it names, or that of its type's base range, and the bounds -- L20, Ada RM 3.6(6), 3.6.1(3)
abbrev pub static_range_of : Scope → tree.Range → Between → Found StaticRange
static_range_of c r o =
    both (λ l h. record { subtype = o.subtype; bounds = bounds l h }) (static_in L20 (low_place c r) o.low) (static_in L20 (high_place c r) o.high)

abbrev pub static_range : Scope → Want → tree.Range → Found StaticRange
static_range c w r = found_then (range_seen c L20 w r) (static_range_of c r)

abbrev pub static_range_faults : Scope → Want → tree.Range → List Refusal
static_range_faults c w r = range_faults c L20 w r ++ fault_after (range_seen c L20 w r) (static_range c w r)

-- the bounds of an array: in its index subtype where there are any indexes -- L20, Ada RM 3.6.1(5)
abbrev pub indexes_in : Place → Place → Bounds → Bounds → Found Bounds
indexes_in p q x b =
    if int_le b.first b.last then both bounds (unless (int_le x.first b.first) L20 p b.first) (unless (int_le b.last x.last) L20 q b.last) else Is b

-- ---- subtype indications -- Ada RM 3.2.2

abbrev pub noted_subtype : World → Noted → Option Subtype
noted_subtype w (Known k) = subtype_at w k
noted_subtype w (New s) = Some s

-- what identifiers and points stand for, and what follows them
pub data Mark : Type 0 where
  mark : Entity → tree.Suffixes → Mark

-- a selector that the names leave to the types is a component
abbrev pub mark_from : Scope → ℕ → tree.Suffixes → Mark
mark_from c at tree.no_suffixes = mark (entity_of c at) tree.no_suffixes
mark_from c at (tree.suffixes (tree.selected s) rest) = elim (c.link s.from) as (λ l. Mark) [ None ↦ mark entity.Package rest | Some l ↦ mark_from c s.from rest ]
mark_from c at (tree.suffixes (tree.ticked p a) rest) = mark (entity_of c at) (tree.suffixes (tree.ticked p a) rest)
mark_from c at (tree.suffixes (tree.applied xs) rest) = mark (entity_of c at) (tree.suffixes (tree.applied xs) rest)

abbrev pub mark_of : Scope → tree.Name → Mark
mark_of c (tree.named s first rest) = mark_from c first.from rest

abbrev pub name_place : Scope → tree.Name → Place
name_place c (tree.named s first rest) = c.place s.from

-- what follows a subtype's name
pub data Constraint : Type 0 where
  free : Constraint
  to_range : tree.Bounds → Constraint
  -- the index of an array, with the place of its first token
  to_index : Span → tree.Range → Constraint
  -- what no subtype has
  other : Constraint

abbrev pub index_of : tree.Args → Option tree.Bounds → Constraint
index_of (tree.args (tree.arg s (tree.parts l h) tree.no_value) tree.no_args) None = to_index s (tree.range l (tree.an_expr h))
index_of (tree.args (tree.arg s (tree.part (tree.item i (tree.plain e))) tree.no_value) tree.no_args) None = to_index s (tree.range e tree.no_expr)
index_of _ b = other

abbrev pub constraint_of : tree.Suffixes → Option tree.Bounds → Constraint
constraint_of tree.no_suffixes None = free
constraint_of tree.no_suffixes (Some b) = to_range b
constraint_of (tree.suffixes (tree.applied xs) tree.no_suffixes) b = index_of xs b
constraint_of (tree.suffixes s rest) b = other

-- a range constraint is for numbers and positions
abbrev pub with_range : Scope → Subtype → tree.Bounds → Found Noted
with_range c s b = elim s.form as (λ f. Found Noted) [
  | form.Number d x ↦ with_found (λ r. New (record { of = s.of; form = form.Number d (record x { lo = r.first; hi = r.last }) })) (range_in c s.of x b)
  | form.Truth ↦ and_also (refuse L20 (place_of c b.low)) (loose c (Some b))
  | form.Array i a t ↦ and_also (refuse L20 (place_of c b.low)) (loose c (Some b))
  | form.Record m n ↦ and_also (refuse L20 (place_of c b.low)) (loose c (Some b))
]

abbrev pub with_range_faults : Scope → Subtype → tree.Bounds → List Refusal
with_range_faults c s b = elim s.form as (λ f. List Refusal) [
  | form.Number d x ↦ range_in_faults c s.of x b
  | form.Truth ↦ broken L20 (place_of c b.low) ++ loose_faults c (Some b)
  | form.Array i a t ↦ broken L20 (place_of c b.low) ++ loose_faults c (Some b)
  | form.Record m n ↦ broken L20 (place_of c b.low) ++ loose_faults c (Some b)
]

-- an index constraint is for an array type without bounds
abbrev pub bounds_for : Scope → tree.Range → Option Bounds → StaticRange → Found Bounds
bounds_for c r None b = Unknown
bounds_for c r (Some x) b = indexes_in (low_place c r) (high_place c r) x b.bounds

abbrev pub type_want : Option ℕ → Want
type_want None = want.Unknown
type_want (Some t) = want.Type t

abbrev pub index_range : Scope → ℕ → tree.Range → Found Bounds
index_range c i r = found_then (static_range c (type_want (type_at c.world i)) r) (bounds_for c r (bounds_at c.world i))

abbrev pub index_range_faults : Scope → ℕ → tree.Range → List Refusal
index_range_faults c i r =
    static_range_faults c (type_want (type_at c.world i)) r
    ++ fault_after (static_range c (type_want (type_at c.world i)) r) (index_range c i r)

abbrev pub no_index : Scope → Span → tree.Range → Found Noted
no_index c a r = and_also (refuse L20 (c.place a.from)) (range_seen c L20 want.Free r)

abbrev pub no_index_faults : Scope → Span → tree.Range → List Refusal
no_index_faults c a r = broken L20 (c.place a.from) ++ range_faults c L20 want.Free r

abbrev pub with_index : Scope → Subtype → Span → tree.Range → Found Noted
with_index c s a r = elim s.form as (λ f. Found Noted) [
  | form.Number d x ↦ no_index c a r
  | form.Truth ↦ no_index c a r
  | form.Array i b t ↦ elim b as (λ o. Found Noted) [
    | None ↦ with_found (λ v. New (record { of = s.of; form = form.Array i (Some v) t })) (index_range c i r)
    | Some v ↦ no_index c a r
  ]
  | form.Record m n ↦ no_index c a r
]

abbrev pub with_index_faults : Scope → Subtype → Span → tree.Range → List Refusal
with_index_faults c s a r = elim s.form as (λ f. List Refusal) [
  | form.Number d x ↦ no_index_faults c a r
  | form.Truth ↦ no_index_faults c a r
  | form.Array i b t ↦ elim b as (λ o. List Refusal) [ None ↦ index_range_faults c i r | Some v ↦ no_index_faults c a r ]
  | form.Record m n ↦ no_index_faults c a r
]

-- a constraint on a subtype, by the rule for a name of which no subtype can be made
abbrev pub constrained : Scope → Code → Place → ℕ → Option Subtype → Constraint → Found Noted
constrained c r p k None x = Unknown
constrained c r p k (Some s) free = Is (Known k)
constrained c r p k (Some s) (to_range b) = with_range c s b
constrained c r p k (Some s) (to_index a i) = with_index c s a i
constrained c r p k (Some s) other = refuse r p

abbrev pub constrained_faults : Scope → Code → Place → Option Subtype → Constraint → List Refusal
constrained_faults c r p None x = []
constrained_faults c r p (Some s) free = []
constrained_faults c r p (Some s) (to_range b) = with_range_faults c s b
constrained_faults c r p (Some s) (to_index a i) = with_index_faults c s a i
constrained_faults c r p (Some s) other = broken r p

-- a constraint on what is no subtype, or isn't known
abbrev pub unsupported : Scope → Constraint → Found (Unit {0})
unsupported c free = Is tt
unsupported c (to_range b) = loose c (Some b)
unsupported c (to_index a r) = with_found (λ o. tt) (range_seen c L20 want.Free r)
unsupported c other = Is tt

abbrev pub unsupported_faults : Scope → Constraint → List Refusal
unsupported_faults c free = []
unsupported_faults c (to_range b) = loose_faults c (Some b)
unsupported_faults c (to_index a r) = range_faults c L20 want.Free r
unsupported_faults c other = []

abbrev pub indication : Scope → Code → Place → Entity → Constraint → Found Noted
indication c r p (entity.Subtype k) x = constrained c r p k (subtype_at c.world k) x
indication c r p entity.Unknown x = and_also Unknown (unsupported c x)
indication c r p _ x = and_also (refuse r p) (unsupported c x)

abbrev pub indication_faults : Scope → Code → Place → Entity → Constraint → List Refusal
indication_faults c r p (entity.Subtype k) x = constrained_faults c r p (subtype_at c.world k) x
indication_faults c r p entity.Unknown x = unsupported_faults c x
indication_faults c r p _ x = broken r p ++ unsupported_faults c x

abbrev pub marked : Scope → Code → tree.SubInd → Mark → Found Noted
marked c r s (mark e rest) = indication c r (name_place c s.name) e (constraint_of rest s.bounds)

abbrev pub marked_faults : Scope → Code → tree.SubInd → Mark → List Refusal
marked_faults c r s (mark e rest) = indication_faults c r (name_place c s.name) e (constraint_of rest s.bounds)

abbrev pub indicated : Scope → Code → tree.SubInd → Found Noted
indicated c r s = marked c r s (mark_of c s.name)

abbrev pub indicated_faults : Scope → Code → tree.SubInd → List Refusal
indicated_faults c r s = marked_faults c r s (mark_of c s.name)

-- a subtype that objects and parts may have -- L26, L27
abbrev pub is_constrained : Option Form → Bool
is_constrained None = true
is_constrained (Some f) = is_comparable f

abbrev pub noted_form : World → Noted → Option Form
noted_form w n = form_in (noted_subtype w n)

abbrev pub whole_of : World → Code → Place → Noted → Found Noted
whole_of w r p n = unless (is_constrained (noted_form w n)) r p n

-- the subtype of a component or an item -- L26
abbrev pub part_subtype : Scope → tree.SubInd → Found Noted
part_subtype c s = found_then (indicated c L26 s) (whole_of c.world L26 (name_place c s.name))

abbrev pub part_subtype_faults : Scope → tree.SubInd → List Refusal
part_subtype_faults c s = indicated_faults c L26 s ++ fault_after (indicated c L26 s) (part_subtype c s)
