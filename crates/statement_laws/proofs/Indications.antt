-- What is told of static bounds and subtype indications.
use Rattle.std.proofs.Common.{refl, List, [], ◌++◌, Option, Some, None}
use Rattle.std.specs.Prelude.{ℕ}
use Rattle.ada_text.specs.declared.token.Span.{Span}
use Rattle.ada_values.specs.declared.place.Place.{Place}
use Rattle.ada_values.specs.declared.scalars.Scalar.{Scalar}
use Rattle.front_codes.specs.declared.codes.Code.{Code}
use Rattle.front_codes.specs.declared.codes.Code.TheVariants.{L20, L26}
use Rattle.front_codes.specs.declared.codes.Refusal.{Refusal}
use Rattle.typed_units.specs.declared.operators.Bounds.{Bounds}
use Rattle.type_base.specs.declared.entities.Entity.{Entity}
use Rattle.type_base.specs.declared.entities.Entity.TheVariants as entity
use Rattle.type_base.specs.declared.seen.Want.{Want}
use Rattle.type_base.specs.declared.seen.Want.TheVariants as want
use Rattle.type_base.specs.declared.world.Form.{Form}
use Rattle.type_base.specs.declared.world.Form.TheVariants as form
use Rattle.type_base.specs.declared.world.Subtype.{Subtype}
use Rattle.type_base.specs.declared.world.World.{World}
use Rattle.type_base.specs.Demands.{bounds_at}
use Rattle.type_base.specs.Lookups.{subtype_at, type_at}
use Rattle.type_base.specs.Scope.{Scope}
use Rattle.syntax_view.specs.Trees as tree
use Rattle.typing_rules.specs.Fits.{both, found_then}
use Rattle.typing_rules.specs.Reading.{faults, seen}
use Rattle.typing_rules.specs.declared.prefix.Found.{Found}
use Rattle.typing_rules.specs.declared.prefix.Found.TheVariants.{Unknown}
use Rattle.statement_typing.specs.Asked.{place_of, range_faults, range_seen}
use Rattle.statement_typing.specs.Checks.{and_also, broken, fault_after, refuse}
use Rattle.statement_typing.specs.declared.parts.Noted.{Noted}
use Rattle.statement_typing.specs.declared.parts.Noted.TheVariants.{New}
use Rattle.statement_typing.specs.Subtypes.{bound_in, bounds, bounds_for, constrained, constrained_faults, Constraint, free, heard, in_order, index_range, index_range_faults, indicated, indicated_faults, indication, indication_faults, loose, loose_faults, Mark, mark, mark_of, constraint_of, marked, marked_faults, name_place, no_index, no_index_faults, other, part, part_faults, part_subtype, part_subtype_faults, range_in, range_in_faults, static_range, static_range_faults, static_range_of, to_index, to_range, type_want, unsupported, unsupported_faults, whole_of, with_index, with_index_faults, with_range, with_range_faults}
use Rattle.statement_laws.proofs.Telling.{Hears, Told, told_both, told_broken, told_heard, told_part, told_range, told_then, told_with}

-- two parts, and a demand on both
pub told_two : {A : Type 0} → {B : Type 0} → {C : Type 0} → {D : Type 0} → (f : A → B → C) (a : Found A) (b : Found B) (d : C → Found D) (fs gs : List Refusal)
    → Told a fs → Told b gs → Told (found_then (both f a b) d) (fs ++ gs ++ fault_after (both f a b) (found_then (both f a b) d))
told_two f a b d fs gs h i =
    told_then (both f a b) d (fs ++ gs) (told_both f a b fs gs h i)

-- ---- bounds

bound_hears : (w : World) (t : ℕ) (x : Scalar) (p : Place) → Hears (bound_in w t x p)
bound_hears w t x p = record { refused = λ f. refl; unknown = refl }

pub range_in_told : (c : Scope) (t : ℕ) (x : Scalar) (b : tree.Bounds) → Told (range_in c t x b) (range_in_faults c t x b)
range_in_told c t x b =
    let low = bound_in c.world t x (place_of c b.low) in
    let high = bound_in c.world t x (place_of c b.high) in
    told_two bounds (part c (want.Type t) b.low low) (part c (want.Type t) b.high high) (in_order (place_of c b.high))
    (part_faults c (want.Type t) b.low low) (part_faults c (want.Type t) b.high high)
    (told_part c (want.Type t) b.low low (bound_hears c.world t x (place_of c b.low)))
    (told_part c (want.Type t) b.high high (bound_hears c.world t x (place_of c b.high)))

pub both_heard : {A : Type 0} → (f : Unit {0} → Unit {0} → A) (c : Scope) (w : Want) (l h : tree.Expr) → Told (both f (heard (seen c w l)) (heard (seen c w h))) (faults c w l ++ faults c w h)
both_heard f c w l h = told_both f (heard (seen c w l)) (heard (seen c w h)) (faults c w l) (faults c w h) (told_heard c w l) (told_heard c w h)

pub loose_told : (c : Scope) (b : Option tree.Bounds) → Told (loose c b) (loose_faults c b)
loose_told c None = refl
loose_told c (Some b) = both_heard (λ x y. x) c want.Free b.low b.high

pub static_range_told : (c : Scope) (w : Want) (r : tree.Range) → Told (static_range c w r) (static_range_faults c w r)
static_range_told c w r = told_then (range_seen c L20 w r) (static_range_of c r) (range_faults c L20 w r) (told_range c L20 w r)

-- ---- constraints

loosely : (c : Scope) (b : tree.Bounds) → Told (and_also {A = Noted} (refuse L20 (place_of c b.low)) (loose c (Some b))) (broken L20 (place_of c b.low) ++ loose_faults c (Some b))
loosely c b =
    told_both (λ x y. x) (refuse {A = Noted} L20 (place_of c b.low)) (loose c (Some b)) (broken L20 (place_of c b.low)) (loose_faults c (Some b))
    (told_broken L20 (place_of c b.low)) (loose_told c (Some b))

pub with_range_told : (c : Scope) (o : ℕ) (f : Form) (b : tree.Bounds) → Told (with_range c (record { of = o; form = f }) b) (with_range_faults c (record { of = o; form = f }) b)
with_range_told c o (form.Number d x) b =
    told_with (λ (r : Bounds). New (record { of = o; form = form.Number d (record x { lo = r.first; hi = r.last }) })) (range_in c o x b) (range_in_faults c o x b) (range_in_told c o x b)
with_range_told c o form.Truth b = loosely c b
with_range_told c o (form.Array i a t) b = loosely c b
with_range_told c o (form.Record m n) b = loosely c b

pub index_range_told : (c : Scope) (i : ℕ) (r : tree.Range) → Told (index_range c i r) (index_range_faults c i r)
index_range_told c i r =
    let w = type_want (type_at c.world i) in
    told_then (static_range c w r) (bounds_for c r (bounds_at c.world i)) (static_range_faults c w r) (static_range_told c w r)

pub no_index_told : (c : Scope) (a : Span) (r : tree.Range) → Told (no_index c a r) (no_index_faults c a r)
no_index_told c a r =
    told_both (λ x y. x) (refuse {A = Noted} L20 (c.place a.from)) (range_seen c L20 want.Free r) (broken L20 (c.place a.from)) (range_faults c L20 want.Free r)
    (told_broken L20 (c.place a.from)) (told_range c L20 want.Free r)

pub with_index_told : (c : Scope) (o : ℕ) (f : Form) (a : Span) (r : tree.Range) → Told (with_index c (record { of = o; form = f }) a r) (with_index_faults c (record { of = o; form = f }) a r)
with_index_told c o (form.Number d x) a r = no_index_told c a r
with_index_told c o form.Truth a r = no_index_told c a r
with_index_told c o (form.Array i None t) a r =
    told_with (λ (v : Bounds). New (record { of = o; form = form.Array i (Some v) t })) (index_range c i r) (index_range_faults c i r) (index_range_told c i r)
with_index_told c o (form.Array i (Some v) t) a r = no_index_told c a r
with_index_told c o (form.Record m n) a r = no_index_told c a r

pub constrained_told : (c : Scope) (r : Code) (p : Place) (k : ℕ) (s : Option Subtype) (x : Constraint) → Told (constrained c r p k s x) (constrained_faults c r p s x)
constrained_told c r p k None x = refl
constrained_told c r p k (Some s) free = refl
constrained_told c r p k (Some s) (to_range b) = with_range_told c s.of s.form b
constrained_told c r p k (Some s) (to_index a i) = with_index_told c s.of s.form a i
constrained_told c r p k (Some s) other = told_broken r p

pub unsupported_told : (c : Scope) (x : Constraint) → Told (unsupported c x) (unsupported_faults c x)
unsupported_told c free = refl
unsupported_told c (to_range b) = loose_told c (Some b)
unsupported_told c (to_index a r) = told_with (λ o. tt) (range_seen c L20 want.Free r) (range_faults c L20 want.Free r) (told_range c L20 want.Free r)
unsupported_told c other = refl

-- ---- indications

no_subtype : (c : Scope) (r : Code) (p : Place) (x : Constraint) → Told (and_also {A = Noted} (refuse r p) (unsupported c x)) (broken r p ++ unsupported_faults c x)
no_subtype c r p x = told_both (λ a b. a) (refuse {A = Noted} r p) (unsupported c x) (broken r p) (unsupported_faults c x) (told_broken r p) (unsupported_told c x)

abbrev nothing : Found Noted
nothing = Unknown

pub indication_told : (c : Scope) (r : Code) (p : Place) (e : Entity) (x : Constraint) → Told (indication c r p e x) (indication_faults c r p e x)
indication_told c r p entity.Unknown x =
    told_both (λ a b. a) nothing (unsupported c x) [] (unsupported_faults c x) refl (unsupported_told c x)
indication_told c r p entity.Package x = no_subtype c r p x
indication_told c r p (entity.Subtype k) x = constrained_told c r p k (subtype_at c.world k) x
indication_told c r p (entity.Routine q) x = no_subtype c r p x
indication_told c r p (entity.Number n) x = no_subtype c r p x
indication_told c r p (entity.Literal k n) x = no_subtype c r p x
indication_told c r p (entity.Static k n) x = no_subtype c r p x
indication_told c r p (entity.Constant k n) x = no_subtype c r p x
indication_told c r p (entity.Object k o a) x = no_subtype c r p x

marked_told : (c : Scope) (r : Code) (s : tree.SubInd) (m : Mark) → Told (marked c r s m) (marked_faults c r s m)
marked_told c r s (mark e rest) = indication_told c r (name_place c s.name) e (constraint_of rest s.bounds)

pub indicated_told : (c : Scope) (r : Code) (s : tree.SubInd) → Told (indicated c r s) (indicated_faults c r s)
indicated_told c r s = marked_told c r s (mark_of c s.name)

pub part_subtype_told : (c : Scope) (s : tree.SubInd) → Told (part_subtype c s) (part_subtype_faults c s)
part_subtype_told c s = told_then (indicated c L26 s) (whole_of c.world L26 (name_place c s.name)) (indicated_faults c L26 s) (indicated_told c L26 s)
