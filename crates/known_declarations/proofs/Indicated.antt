-- What is found of subtype indications whose names are declared.
use Rattle.std.proofs.Common.{◌≡◌, refl, sym, subst, ℕ, Bool, true, false, Option, Some, None}
use Rattle.std.specs.Int.RustNames.{int_le}
use Rattle.ada_text.specs.declared.token.Span.{Span}
use Rattle.ada_values.specs.declared.place.Place.{Place}
use Rattle.ada_values.specs.declared.scalars.Scalar.{Scalar}
use Rattle.ada_values.specs.Scalars.{in_scalar}
use Rattle.front_codes.specs.declared.codes.Code.{Code}
use Rattle.front_codes.specs.declared.codes.Code.TheVariants.{L20, L26}
use Rattle.name_library.specs.declared.links.Link.{Link}
use Rattle.syntax_view.specs.Trees as tree
use Rattle.typed_units.specs.declared.operators.Bounds.{Bounds}
use Rattle.type_base.specs.Demands.{bounds_in}
use Rattle.type_base.specs.Lookups.{subtype_at, type_at}
use Rattle.type_base.specs.Scope.{Scope}
use Rattle.type_base.specs.declared.entities.Entity.{Entity}
use Rattle.type_base.specs.declared.entities.Entity.TheVariants as entity
use Rattle.type_base.specs.declared.seen.Want.{Want}
use Rattle.type_base.specs.declared.seen.Want.TheVariants as want
use Rattle.type_base.specs.declared.world.Discrete.{Discrete}
use Rattle.type_base.specs.declared.world.Form.{Form}
use Rattle.type_base.specs.declared.world.Form.TheVariants as form
use Rattle.type_base.specs.declared.world.Subtype.{Subtype}
use Rattle.type_base.specs.declared.world.World.{World}
use Rattle.expression_rules.specs.Known.{SameSort}
use Rattle.typing_rules.specs.Fits.{both, found_then, with_found}
use Rattle.typing_rules.specs.Lookups.{entity_by, entity_of}
use Rattle.typing_rules.specs.Reading.{seen}
use Rattle.typing_rules.specs.declared.prefix.Between.{Between}
use Rattle.typing_rules.specs.declared.prefix.Found.{Found}
use Rattle.typing_rules.specs.declared.prefix.Found.TheVariants.{Refused, Unknown, Is}
use Rattle.typing_laws.specs.Declared.{ArgsDeclared, IsDeclared, IsGiven, IsLinked, IsSound, IsStated, IsThere, IsWhole, NameDeclared, PartsThere, SuffixesDeclared}
use Rattle.typing_laws.specs.Declared as expressions
use Rattle.typing_laws.proofs.KnownRanges.{between_found}
use Rattle.typing_laws.proofs.Standing.{IsFound, both_found, found_if, then_found, type_is}
use Rattle.statement_typing.specs.Asked.{high_place, low_place, place_of, range_seen}
use Rattle.statement_typing.specs.Checks.{and_also, refuse, unless}
use Rattle.statement_typing.specs.Subtypes.{Constraint, Mark, bound_in, bounds, bounds_for, constrained, constraint_of, free, in_order, index_of, index_range, indexes_in, indicated, indication, is_constrained, loose, mark, mark_from, mark_of, marked, name_place, no_index, noted_form, other, part, part_subtype, range_in, static_in, static_range, static_range_of, to_index, to_range, type_want, unsupported, value_of_type, whole_of, with_index, with_range}
use Rattle.statement_typing.specs.declared.parts.Noted.{Noted}
use Rattle.statement_typing.specs.declared.parts.Noted.TheVariants.{Known, New}
use Rattle.known_statements.proofs.Asked.{range_there, seen_known, unless_found}
use Rattle.known_statements.proofs.Chosen.{static_found, value_found}
use Rattle.known_declarations.specs.Declared.{BoundsDeclared, IndexOrdered, IndicationDeclared, IsOrdered, IsReady, RangeDeclared}

-- ---- what a subtype's name stands for

abbrev pub MarkDeclared : Scope → Mark → Type 0
MarkDeclared c (mark e rest) = IsStated c.world e × SuffixesDeclared c rest

linked_declared : (c : Scope) (at : ℕ) (rest : tree.Suffixes) (l : Option Link) → c.link at ≡ l → IsLinked c l → SuffixesDeclared c rest → (IsStated c.world (entity_of c at) → MarkDeclared c (mark_from c at rest))
    → MarkDeclared c (elim l as (λ m. Mark) [ None ↦ mark entity.Package rest | Some m ↦ mark_from c at rest ])
linked_declared c at rest None e h i j = (tt, i)
linked_declared c at rest (Some l) e h i j = j (subst (λ (m : Option Link). IsStated c.world (entity_by c m)) (sym e) h)

mark_from_declared : (c : Scope) (at : ℕ) (ss : tree.Suffixes) → IsStated c.world (entity_of c at) → SuffixesDeclared c ss → MarkDeclared c (mark_from c at ss)
mark_from_declared c at tree.no_suffixes h i = (h, tt)
mark_from_declared c at (tree.suffixes (tree.selected s) rest) h i = linked_declared c s.from rest (c.link s.from) refl i.0 i.1 (λ j. mark_from_declared c s.from rest j i.1)
mark_from_declared c at (tree.suffixes (tree.ticked p a) rest) h i = (h, i)
mark_from_declared c at (tree.suffixes (tree.applied xs) rest) h i = (h, i)

pub mark_declared : (c : Scope) (n : tree.Name) → NameDeclared c n → MarkDeclared c (mark_of c n)
mark_declared c (tree.named s i ss) h = mark_from_declared c i.from ss h.0 h.1

-- ---- what follows it

abbrev ConstraintDeclared : Scope → Constraint → Type 0
ConstraintDeclared c free = Unit {0}
ConstraintDeclared c (to_range b) = BoundsDeclared c b
ConstraintDeclared c (to_index a r) = expressions.RangeDeclared c r
ConstraintDeclared c other = Unit {0}

index_declared : (c : Scope) (xs : tree.Args) (b : Option tree.Bounds) → ArgsDeclared c xs → ConstraintDeclared c (index_of xs b)
index_declared c tree.no_args b h = tt
index_declared c (tree.args (tree.arg s (tree.parts l k) tree.no_value) tree.no_args) None h = h.0.0
index_declared c (tree.args (tree.arg s (tree.parts l k) tree.no_value) tree.no_args) (Some b) h = tt
index_declared c (tree.args (tree.arg s (tree.parts l k) tree.no_value) (tree.args z zs)) None h = tt
index_declared c (tree.args (tree.arg s (tree.parts l k) tree.no_value) (tree.args z zs)) (Some b) h = tt
index_declared c (tree.args (tree.arg s (tree.parts l k) (tree.value j)) tree.no_args) None h = tt
index_declared c (tree.args (tree.arg s (tree.parts l k) (tree.value j)) tree.no_args) (Some b) h = tt
index_declared c (tree.args (tree.arg s (tree.parts l k) (tree.value j)) (tree.args z zs)) None h = tt
index_declared c (tree.args (tree.arg s (tree.parts l k) (tree.value j)) (tree.args z zs)) (Some b) h = tt
index_declared c (tree.args (tree.arg s (tree.part (tree.item i (tree.plain e))) tree.no_value) tree.no_args) None h = (h.0.0, tt)
index_declared c (tree.args (tree.arg s (tree.part (tree.item i (tree.plain e))) tree.no_value) tree.no_args) (Some b) h = tt
index_declared c (tree.args (tree.arg s (tree.part (tree.item i (tree.plain e))) tree.no_value) (tree.args z zs)) None h = tt
index_declared c (tree.args (tree.arg s (tree.part (tree.item i (tree.plain e))) tree.no_value) (tree.args z zs)) (Some b) h = tt
index_declared c (tree.args (tree.arg s (tree.part (tree.item i (tree.plain e))) (tree.value j)) tree.no_args) None h = tt
index_declared c (tree.args (tree.arg s (tree.part (tree.item i (tree.plain e))) (tree.value j)) tree.no_args) (Some b) h = tt
index_declared c (tree.args (tree.arg s (tree.part (tree.item i (tree.plain e))) (tree.value j)) (tree.args z zs)) None h = tt
index_declared c (tree.args (tree.arg s (tree.part (tree.item i (tree.plain e))) (tree.value j)) (tree.args z zs)) (Some b) h = tt
index_declared c (tree.args (tree.arg s (tree.part (tree.item i (tree.choose x e))) tree.no_value) tree.no_args) None h = tt
index_declared c (tree.args (tree.arg s (tree.part (tree.item i (tree.choose x e))) tree.no_value) tree.no_args) (Some b) h = tt
index_declared c (tree.args (tree.arg s (tree.part (tree.item i (tree.choose x e))) tree.no_value) (tree.args z zs)) None h = tt
index_declared c (tree.args (tree.arg s (tree.part (tree.item i (tree.choose x e))) tree.no_value) (tree.args z zs)) (Some b) h = tt
index_declared c (tree.args (tree.arg s (tree.part (tree.item i (tree.choose x e))) (tree.value j)) tree.no_args) None h = tt
index_declared c (tree.args (tree.arg s (tree.part (tree.item i (tree.choose x e))) (tree.value j)) tree.no_args) (Some b) h = tt
index_declared c (tree.args (tree.arg s (tree.part (tree.item i (tree.choose x e))) (tree.value j)) (tree.args z zs)) None h = tt
index_declared c (tree.args (tree.arg s (tree.part (tree.item i (tree.choose x e))) (tree.value j)) (tree.args z zs)) (Some b) h = tt
index_declared c (tree.args (tree.arg s (tree.part (tree.item i (tree.quantified q t g e))) tree.no_value) tree.no_args) None h = tt
index_declared c (tree.args (tree.arg s (tree.part (tree.item i (tree.quantified q t g e))) tree.no_value) tree.no_args) (Some b) h = tt
index_declared c (tree.args (tree.arg s (tree.part (tree.item i (tree.quantified q t g e))) tree.no_value) (tree.args z zs)) None h = tt
index_declared c (tree.args (tree.arg s (tree.part (tree.item i (tree.quantified q t g e))) tree.no_value) (tree.args z zs)) (Some b) h = tt
index_declared c (tree.args (tree.arg s (tree.part (tree.item i (tree.quantified q t g e))) (tree.value j)) tree.no_args) None h = tt
index_declared c (tree.args (tree.arg s (tree.part (tree.item i (tree.quantified q t g e))) (tree.value j)) tree.no_args) (Some b) h = tt
index_declared c (tree.args (tree.arg s (tree.part (tree.item i (tree.quantified q t g e))) (tree.value j)) (tree.args z zs)) None h = tt
index_declared c (tree.args (tree.arg s (tree.part (tree.item i (tree.quantified q t g e))) (tree.value j)) (tree.args z zs)) (Some b) h = tt
index_declared c (tree.args (tree.arg s tree.other_parts tree.no_value) tree.no_args) None h = tt
index_declared c (tree.args (tree.arg s tree.other_parts tree.no_value) tree.no_args) (Some b) h = tt
index_declared c (tree.args (tree.arg s tree.other_parts tree.no_value) (tree.args z zs)) None h = tt
index_declared c (tree.args (tree.arg s tree.other_parts tree.no_value) (tree.args z zs)) (Some b) h = tt
index_declared c (tree.args (tree.arg s tree.other_parts (tree.value j)) tree.no_args) None h = tt
index_declared c (tree.args (tree.arg s tree.other_parts (tree.value j)) tree.no_args) (Some b) h = tt
index_declared c (tree.args (tree.arg s tree.other_parts (tree.value j)) (tree.args z zs)) None h = tt
index_declared c (tree.args (tree.arg s tree.other_parts (tree.value j)) (tree.args z zs)) (Some b) h = tt

constraint_declared : (c : Scope) (rest : tree.Suffixes) (b : Option tree.Bounds) → SuffixesDeclared c rest → RangeDeclared c b → ConstraintDeclared c (constraint_of rest b)
constraint_declared c tree.no_suffixes None h i = tt
constraint_declared c tree.no_suffixes (Some b) h i = i
constraint_declared c (tree.suffixes (tree.applied xs) tree.no_suffixes) b h i = index_declared c xs b h.0
constraint_declared c (tree.suffixes (tree.applied xs) (tree.suffixes s rest)) b h i = tt
constraint_declared c (tree.suffixes (tree.selected s) rest) b h i = tt
constraint_declared c (tree.suffixes (tree.ticked s a) rest) b h i = tt

-- ---- constraints

bound_found : (c : Scope) (t : ℕ) (x : Scalar) (e : tree.Expr) → IsSound c.world → IsThere c.world t → IsDeclared c e → IsFound (part c (want.Type t) e (bound_in c.world t x (place_of c e)))
bound_found c t x e sound h i =
    let s = seen c (want.Type t) e in
    then_found (value_of_type c.world L20 t (place_of c e) s) (λ n. unless (in_scalar x n) L20 (place_of c e) n)
    (value_found c.world L20 t (place_of c e) s h (seen_known c (want.Type t) e sound h i)) (λ n. unless_found (in_scalar x n) L20 (place_of c e) n)

in_order_found : (p : Place) (b : Bounds) → IsFound (in_order p b)
in_order_found p b = unless_found (int_le b.first b.last) L20 p b

range_in_found : (c : Scope) (t : ℕ) (x : Scalar) (b : tree.Bounds) → IsSound c.world → IsThere c.world t → BoundsDeclared c b → IsFound (range_in c t x b)
range_in_found c t x b sound h i =
    let l = part c (want.Type t) b.low (bound_in c.world t x (place_of c b.low)) in
    let k = part c (want.Type t) b.high (bound_in c.world t x (place_of c b.high)) in
    then_found (both bounds l k) (in_order (place_of c b.high)) (both_found bounds l k (bound_found c t x b.low sound h i.0) (bound_found c t x b.high sound h i.1)) (in_order_found (place_of c b.high))

static_range_found_of : (c : Scope) (r : tree.Range) (o : Between) → IsFound (static_range_of c r o)
static_range_found_of c r o =
    both_found (λ l h. record { subtype = o.subtype; bounds = bounds l h }) (static_in L20 (low_place c r) o.low) (static_in L20 (high_place c r) o.high)
    (static_found L20 (low_place c r) o.low) (static_found L20 (high_place c r) o.high)

pub static_range_found : (c : Scope) (v : Want) (r : tree.Range) → IsSound c.world → IsGiven c.world v → expressions.RangeDeclared c r → IsFound (static_range c v r)
static_range_found c v r sound g h =
    then_found (range_seen c L20 v r) (static_range_of c r) (between_found c.world (range_seen c L20 v r) (range_there c L20 v r sound g h)) (static_range_found_of c r)

indexes_in_found : (p q : Place) (x b : Bounds) → IsFound (indexes_in p q x b)
indexes_in_found p q x b =
    let l = unless (int_le x.first b.first) L20 p b.first in
    let h = unless (int_le b.last x.last) L20 q b.last in
    found_if (int_le b.first b.last) (both bounds l h) (Is b) (both_found bounds l h (unless_found (int_le x.first b.first) L20 p b.first) (unless_found (int_le b.last x.last) L20 q b.last)) tt

-- within a subtype of numbers
pub index_range_found : (c : Scope) (i : ℕ) (r : tree.Range) → IsSound c.world → IsThere c.world i → IsOrdered c.world i → expressions.RangeDeclared c r → IsFound (index_range c i r)
index_range_found c i r sound h o k =
    let t = h.subtype.of in
    let x = static_range c (want.Type t) r in
    subst (λ (m : Option Form). IsFound (found_then (static_range c (type_want (type_at c.world i)) r) (bounds_for c r (bounds_in m)))) (sym o.is)
    (subst (λ (m : Option ℕ). IsFound (found_then (static_range c (type_want m) r) (bounds_for c r (bounds_in (Some (form.Number o.discrete o.scalar)))))) (sym (type_is c.world i h))
    (then_found x (bounds_for c r (bounds_in (Some (form.Number o.discrete o.scalar)))) (static_range_found c (want.Type t) r sound (sound.subtypes i h.subtype h.is).type k)
    (λ b. indexes_in_found (low_place c r) (high_place c r) (bounds o.scalar.lo o.scalar.hi) b.bounds)))

-- ---- indications

-- a subtype that stands in the world, or is to stand there
abbrev pub NotedThere : World → Noted → Type 0
NotedThere w (Known k) = IsThere w k
NotedThere w (New s) = IsWhole w s

abbrev pub NotedFound : World → Found Noted → Type 0
NotedFound w (Refused f) = Unit {0}
NotedFound w Unknown = ⊥
NotedFound w (Is n) = NotedThere w n

pub noted_found : (w : World) (n : Found Noted) → NotedFound w n → IsFound n
noted_found w (Refused f) h = tt
noted_found w Unknown h = absurd h
noted_found w (Is n) h = tt

refused_there : {B : Type 0} → (w : World) (r : Code) (p : Place) (b : Found B) → NotedFound w (and_also (refuse r p) b)
refused_there w r p (Refused f) = tt
refused_there w r p Unknown = tt
refused_there w r p (Is x) = tt

numbers_sort : (d : Discrete) (x y : Scalar) (f : Form) → SameSort (form.Number d x) f → SameSort (form.Number d y) f
numbers_sort d x y (form.Number e u) h = tt
numbers_sort d x y form.Truth h = absurd h
numbers_sort d x y (form.Array i b t) h = absurd h
numbers_sort d x y (form.Record i n) h = absurd h

ranged_there : (w : World) (of : ℕ) (d : Discrete) (x : Scalar) (b : Found Bounds) → IsWhole w (record { of = of; form = form.Number d x }) → IsFound b
    → NotedFound w (with_found (λ r. New (record { of = of; form = form.Number d (record x { lo = r.first; hi = r.last }) })) b)
ranged_there w of d x (Refused f) h i = tt
ranged_there w of d x Unknown h i = absurd i
ranged_there w of d x (Is r) h i = record { type = h.type; sort = numbers_sort d x (record x { lo = r.first; hi = r.last }) h.type.subtype.form h.sort; parts = tt }

with_range_there : (c : Scope) (of : ℕ) (f : Form) (b : tree.Bounds) → IsSound c.world → IsWhole c.world (record { of = of; form = f }) → BoundsDeclared c b → NotedFound c.world (with_range c (record { of = of; form = f }) b)
with_range_there c of (form.Number d x) b sound h i = ranged_there c.world of d x (range_in c of x b) h (range_in_found c of x b sound h.type i)
with_range_there c of form.Truth b sound h i = refused_there c.world L20 (place_of c b.low) (loose c (Some b))
with_range_there c of (form.Array j a t) b sound h i = refused_there c.world L20 (place_of c b.low) (loose c (Some b))
with_range_there c of (form.Record m n) b sound h i = refused_there c.world L20 (place_of c b.low) (loose c (Some b))

no_index_there : (c : Scope) (a : Span) (r : tree.Range) → NotedFound c.world (no_index c a r)
no_index_there c a r = refused_there c.world L20 (c.place a.from) (range_seen c L20 want.Free r)

indexed_there : (w : World) (of i t : ℕ) (b : Found Bounds) → IsWhole w (record { of = of; form = form.Array i None t }) → IsFound b
    → NotedFound w (with_found (λ v. New (record { of = of; form = form.Array i (Some v) t })) b)
indexed_there w of i t (Refused f) h k = tt
indexed_there w of i t Unknown h k = absurd k
indexed_there w of i t (Is v) h k = record { type = h.type; sort = tt; parts = h.parts }

with_index_there : (c : Scope) (of : ℕ) (f : Form) (a : Span) (r : tree.Range) → IsSound c.world → IsWhole c.world (record { of = of; form = f }) → IndexOrdered c.world f → expressions.RangeDeclared c r
    → NotedFound c.world (with_index c (record { of = of; form = f }) a r)
with_index_there c of (form.Number d x) a r sound h o i = no_index_there c a r
with_index_there c of form.Truth a r sound h o i = no_index_there c a r
with_index_there c of (form.Array j None t) a r sound h o i = indexed_there c.world of j t (index_range c j r) h (index_range_found c j r sound h.parts.0 o i)
with_index_there c of (form.Array j (Some v) t) a r sound h o i = no_index_there c a r
with_index_there c of (form.Record m n) a r sound h o i = no_index_there c a r

constrained_there : (c : Scope) (r : Code) (p : Place) (k : ℕ) (s : Subtype) (x : Constraint) → IsReady c.world → subtype_at c.world k ≡ Some s → ConstraintDeclared c x → NotedFound c.world (constrained c r p k (Some s) x)
constrained_there c r p k s free ready e i = record { subtype = s; is = e }
constrained_there c r p k s (to_range b) ready e i = with_range_there c s.of s.form b ready.sound (ready.sound.subtypes k s e) i
constrained_there c r p k s (to_index a g) ready e i = with_index_there c s.of s.form a g ready.sound (ready.sound.subtypes k s e) (ready.indexes k s e) i
constrained_there c r p k s other ready e i = tt

indication_there : (c : Scope) (r : Code) (p : Place) (e : Entity) (x : Constraint) → IsReady c.world → IsStated c.world e → ConstraintDeclared c x → NotedFound c.world (indication c r p e x)
indication_there c r p (entity.Subtype k) x ready h i =
    subst (λ (m : Option Subtype). NotedFound c.world (constrained c r p k m x)) (sym h.is) (constrained_there c r p k h.subtype x ready h.is i)
indication_there c r p entity.Unknown x ready h i = absurd h
indication_there c r p entity.Package x ready h i = refused_there c.world r p (unsupported c x)
indication_there c r p (entity.Routine k) x ready h i = refused_there c.world r p (unsupported c x)
indication_there c r p (entity.Number n) x ready h i = refused_there c.world r p (unsupported c x)
indication_there c r p (entity.Literal k n) x ready h i = refused_there c.world r p (unsupported c x)
indication_there c r p (entity.Static k n) x ready h i = refused_there c.world r p (unsupported c x)
indication_there c r p (entity.Constant k n) x ready h i = refused_there c.world r p (unsupported c x)
indication_there c r p (entity.Object k o a) x ready h i = refused_there c.world r p (unsupported c x)

marked_there : (c : Scope) (r : Code) (s : tree.SubInd) (m : Mark) → IsReady c.world → MarkDeclared c m → RangeDeclared c s.bounds → NotedFound c.world (marked c r s m)
marked_there c r s (mark e rest) ready h i = indication_there c r (name_place c s.name) e (constraint_of rest s.bounds) ready h.0 (constraint_declared c rest s.bounds h.1 i)

pub indicated_there : (c : Scope) (r : Code) (s : tree.SubInd) → IsReady c.world → IndicationDeclared c s → NotedFound c.world (indicated c r s)
indicated_there c r s ready h = marked_there c r s (mark_of c s.name) ready (mark_declared c s.name h.0) h.1

unless_there : (w : World) (b : Bool) (r : Code) (p : Place) (n : Noted) → NotedThere w n → NotedFound w (unless b r p n)
unless_there w true r p n h = h
unless_there w false r p n h = tt

pub whole_there : (w : World) (r : Code) (p : Place) (n : Found Noted) → NotedFound w n → NotedFound w (found_then n (whole_of w r p))
whole_there w r p (Refused f) h = tt
whole_there w r p Unknown h = absurd h
whole_there w r p (Is n) h = unless_there w (is_constrained (noted_form w n)) r p n h

pub part_subtype_there : (c : Scope) (s : tree.SubInd) → IsReady c.world → IndicationDeclared c s → NotedFound c.world (part_subtype c s)
part_subtype_there c s ready h = whole_there c.world L26 (name_place c s.name) (indicated c L26 s) (indicated_there c L26 s ready h)
