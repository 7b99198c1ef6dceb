-- What is found of subtype indications, of definitions of types and of profiles is made of what stands in the world.
use Rattle.std.proofs.Common.{◌≡◌, refl, ℕ, Option, Some, None, List, map}
use Rattle.std.specs.Prelude.{◌||◌, not}
use Rattle.std.specs.List.{All}
use Rattle.std.specs.Option.{IfSome}
use Rattle.ada_text.specs.declared.token.Span.{Span}
use Rattle.ada_values.specs.declared.place.Place.{Place}
use Rattle.ada_values.specs.declared.scalars.Scalar.{Scalar}
use Rattle.front_codes.specs.declared.codes.Code.{Code}
use Rattle.front_codes.specs.declared.codes.Code.TheVariants.{L20, L26, L27}
use Rattle.syntax_view.specs.Trees as tree
use Rattle.typed_units.specs.declared.programs.Mode as typed
use Rattle.type_base.specs.declared.entities.Entity.{Entity}
use Rattle.type_base.specs.declared.entities.Entity.TheVariants as entity
use Rattle.type_base.specs.declared.seen.Want.TheVariants as want
use Rattle.type_base.specs.declared.world.Discrete.{Discrete}
use Rattle.type_base.specs.declared.world.Discrete.TheVariants as discrete
use Rattle.type_base.specs.declared.world.Form.{Form}
use Rattle.type_base.specs.declared.world.Form.TheVariants as form
use Rattle.type_base.specs.declared.world.Subtype.{Subtype}
use Rattle.type_base.specs.declared.world.World.{World}
use Rattle.type_base.specs.Demands.{is_ordered, placed_number}
use Rattle.type_base.specs.Lookups.{form_at, subtype_at}
use Rattle.type_base.specs.Scope.{Scope}
use Rattle.type_base.specs.Standard.{integer_base}
use Rattle.expression_rules.specs.Known.{SameSort}
use Rattle.typing_rules.specs.declared.prefix.Between.{Between}
use Rattle.typing_rules.specs.declared.prefix.Found.{Found}
use Rattle.typing_rules.specs.declared.prefix.Found.TheVariants.{Refused, Unknown, Is}
use Rattle.typing_rules.specs.declared.prefix.Reach.{Reach}
use Rattle.typing_rules.specs.declared.prefix.Reach.TheVariants as reach
use Rattle.typing_rules.specs.Fits.{both}
use Rattle.typing_rules.specs.Lookups.{type_of}
use Rattle.typing_rules.specs.Parts.{Range}
use Rattle.typing_rules.specs.Ranges.{found_expr, high_place as high_end, reach_in, reach_of}
use Rattle.typing_rules.specs.Reading.{range, seen}
use Rattle.typing_rules.specs.Values.{place_of as at_of}
use Rattle.statement_typing.specs.declared.parts.Definition.{Definition}
use Rattle.statement_typing.specs.declared.parts.Definition.TheVariants.{ArrayOf, Integer, RecordOf, Single}
use Rattle.statement_typing.specs.declared.parts.Formals.{Formals}
use Rattle.statement_typing.specs.declared.parts.Group.{Group}
use Rattle.statement_typing.specs.declared.parts.Indexes.{Indexes}
use Rattle.statement_typing.specs.declared.parts.Noted.{Noted}
use Rattle.statement_typing.specs.declared.parts.Noted.TheVariants.{Known, New}
use Rattle.statement_typing.specs.declared.parts.Profile.{Profile}
use Rattle.statement_typing.specs.declared.parts.StaticRange.{StaticRange}
use Rattle.statement_typing.specs.Asked.{high_place, is_wanted, low_place, of_wanted, place_of, range_between, range_seen}
use Rattle.statement_typing.specs.Checks.{all_of, refuse}
use Rattle.statement_typing.specs.Objects.{object_subtype}
use Rattle.statement_typing.specs.Routines.{formals, formals_of, is_out, marked_subtype, mode_of, named_subtype, profile, result_mark, result_subtype}
use Rattle.statement_typing.specs.Subtypes.{Constraint, free, to_range, to_index, other, Mark, mark, bounds, constrained, constraint_of, heard, index_range, indicated, indication, is_constrained, loose, mark_of, marked, name_place, no_index, noted_form, noted_subtype, part, part_subtype, range_in, static_in, static_range, static_range_of, unsupported, whole_of, with_index, with_range}
use Rattle.statement_typing.specs.Types.{definition, derived_form, derived_of, discrete_form, discrete_mark, discrete_subtype, group, indexes, indexes_by, modular_scalar, modulus, of_range, signed, signed_scalar, within_mark}
use Rattle.sound_subtypes.specs.Sound.{IfIs}
use Rattle.typing_laws.specs.Declared.{IsSound, IsThere, IsWhole, PartsThere, ResultThere}
use Rattle.typing_laws.proofs.Standing.{form_there, integer_there}
use Rattle.declared_worlds.proofs.Found.{all_of_has, and_also_keeps, both_has, both_is, found_then_keeps, unless_keeps, with_found_has, with_found_is}
use Rattle.declared_worlds.proofs.Growing.{Grows, there_in, whole_in}
use Rattle.declared_worlds.proofs.Reading.{ReachThere, range_reach_there}

-- ---- subtype indications

abbrev pub NotedThere : World → Noted → Type 0
NotedThere w (Known k) = IsThere w k
NotedThere w (New s) = IsWhole w s

pub noted_in : (w v : World) → Grows w v → (n : Noted) → NotedThere w n → NotedThere v n
noted_in w v g (Known k) h = there_in w v g k h
noted_in w v g (New s) h = whole_in w v g s h

numbers_sort : (d : Discrete) (x y : Scalar) (g : Form) → SameSort (form.Number d x) g → SameSort (form.Number d y) g
numbers_sort d x y (form.Number e z) h = tt
numbers_sort d x y form.Truth h = h
numbers_sort d x y (form.Array i b t) h = h
numbers_sort d x y (form.Record i n) h = h

range_noted : (c : Scope) (of : ℕ) (f : Form) (b : tree.Bounds) → IsWhole c.world (record { of = of; form = f }) → IfIs (NotedThere c.world) (with_range c (record { of = of; form = f }) b)
range_noted c of (form.Number d x) b h =
    with_found_is (NotedThere c.world) (λ r. New (record { of = of; form = form.Number d (record x { lo = r.first; hi = r.last }) })) (range_in c of x b)
    (λ r. record { type = h.type; sort = numbers_sort d x (record x { lo = r.first; hi = r.last }) h.type.subtype.form h.sort; parts = tt })
range_noted c of form.Truth b h = and_also_keeps (NotedThere c.world) (refuse L20 (place_of c b.low)) (loose c (Some b)) tt
range_noted c of (form.Array i a t) b h = and_also_keeps (NotedThere c.world) (refuse L20 (place_of c b.low)) (loose c (Some b)) tt
range_noted c of (form.Record m n) b h = and_also_keeps (NotedThere c.world) (refuse L20 (place_of c b.low)) (loose c (Some b)) tt

no_index_noted : (c : Scope) (a : Span) (r : tree.Range) → IfIs (NotedThere c.world) (no_index c a r)
no_index_noted c a r = and_also_keeps (NotedThere c.world) (refuse L20 (c.place a.from)) (range_seen c L20 want.Free r) tt

index_noted : (c : Scope) (of : ℕ) (f : Form) (a : Span) (r : tree.Range) → IsWhole c.world (record { of = of; form = f }) → IfIs (NotedThere c.world) (with_index c (record { of = of; form = f }) a r)
index_noted c of (form.Number d x) a r h = no_index_noted c a r
index_noted c of form.Truth a r h = no_index_noted c a r
index_noted c of (form.Array i None t) a r h =
    with_found_is (NotedThere c.world) (λ v. New (record { of = of; form = form.Array i (Some v) t })) (index_range c i r) (λ v. record { type = h.type; sort = tt; parts = h.parts })
index_noted c of (form.Array i (Some v) t) a r h = no_index_noted c a r
index_noted c of (form.Record m n) a r h = no_index_noted c a r

constrained_noted : (c : Scope) (r : Code) (p : Place) (k : ℕ) (m : Option Subtype) (x : Constraint) → subtype_at c.world k ≡ m → IsSound c.world → IfIs (NotedThere c.world) (constrained c r p k m x)
constrained_noted c r p k None x e sound = tt
constrained_noted c r p k (Some s) free e sound = record { subtype = s; is = e }
constrained_noted c r p k (Some s) (to_range b) e sound = range_noted c s.of s.form b (sound.subtypes k s e)
constrained_noted c r p k (Some s) (to_index a i) e sound = index_noted c s.of s.form a i (sound.subtypes k s e)
constrained_noted c r p k (Some s) other e sound = tt

indication_noted : (c : Scope) (r : Code) (p : Place) (e : Entity) (x : Constraint) → IsSound c.world → IfIs (NotedThere c.world) (indication c r p e x)
indication_noted c r p (entity.Subtype k) x sound = constrained_noted c r p k (subtype_at c.world k) x refl sound
indication_noted c r p entity.Unknown x sound = and_also_keeps (NotedThere c.world) Unknown (unsupported c x) tt
indication_noted c r p e x sound = and_also_keeps (NotedThere c.world) (refuse r p) (unsupported c x) tt

marked_noted : (c : Scope) (r : Code) (s : tree.SubInd) (m : Mark) → IsSound c.world → IfIs (NotedThere c.world) (marked c r s m)
marked_noted c r s (mark e rest) sound = indication_noted c r (name_place c s.name) e (constraint_of rest s.bounds) sound

pub indicated_noted : (c : Scope) (r : Code) (s : tree.SubInd) → IsSound c.world → IfIs (NotedThere c.world) (indicated c r s)
indicated_noted c r s sound = marked_noted c r s (mark_of c s.name) sound

whole_noted : (w : World) (r : Code) (p : Place) (n : Noted) → NotedThere w n → IfIs (NotedThere w) (whole_of w r p n)
whole_noted w r p n h = unless_keeps (NotedThere w) (is_constrained (noted_form w n)) r p n h

pub part_noted : (c : Scope) (s : tree.SubInd) → IsSound c.world → IfIs (NotedThere c.world) (part_subtype c s)
part_noted c s sound =
    found_then_keeps (NotedThere c.world) (NotedThere c.world) (indicated c L26 s) (whole_of c.world L26 (name_place c s.name)) (indicated_noted c L26 s sound) (whole_noted c.world L26 (name_place c s.name))

pub object_noted : (c : Scope) (p : Place) (s : tree.SubInd) → IsSound c.world → IfIs (NotedThere c.world) (object_subtype c p s)
object_noted c p s sound =
    found_then_keeps (NotedThere c.world) (NotedThere c.world) (indicated c L27 s) (whole_of c.world L27 p) (indicated_noted c L27 s sound) (whole_noted c.world L27 p)

-- the subtype that an indication gives
noted_at : (w : World) (k : ℕ) (m : Option Subtype) → subtype_at w k ≡ m → IsSound w → IfSome m (IsWhole w)
noted_at w k None e sound = tt
noted_at w k (Some s) e sound = sound.subtypes k s e

pub noted_whole : (w : World) (n : Noted) → IsSound w → NotedThere w n → IfSome (noted_subtype w n) (IsWhole w)
noted_whole w (Known k) sound h = noted_at w k (subtype_at w k) refl sound
noted_whole w (New s) sound h = h

-- ---- ranges and indexes

abbrev BetweenThere : World → Between → Type 0
BetweenThere w b = IsThere w b.subtype

abbrev RangeThere : World → StaticRange → Type 0
RangeThere w r = IsThere w r.subtype

abbrev IndexThere : World → Indexes → Type 0
IndexThere w i = IsThere w i.subtype

reached_there : (c : Scope) (r : Code) (t : ℕ) (g : Range) (u : Reach) → IsThere c.world t → ReachThere c.world u → IfIs (BetweenThere c.world) (reach_in c r t g u)
reached_there c r t g (reach.Refused f) h i = tt
reached_there c r t g reach.Unknown h i = tt
reached_there c r t g (reach.Between b) h i = i
reached_there c r t g (reach.Numbers a b) h i =
    both_is (BetweenThere c.world) (λ x y. record { subtype = t; low = x; high = y })
    (found_expr (placed_number c.world r (at_of c g.low) (at_of c g.low) t a)) (found_expr (placed_number c.world r (high_end c g g.high) (high_end c g g.high) t b)) (λ x y. h)

range_seen_there : (c : Scope) (g : tree.Range) → IsSound c.world → IfIs (BetweenThere c.world) (range_seen c L20 want.Free g)
range_seen_there c g sound =
    found_then_keeps (BetweenThere c.world) (BetweenThere c.world) (range_between c L20 want.Free g) (of_wanted c L20 want.Free g)
    (reached_there c L20 integer_base (range c g) (reach_of c L20 want.Free (range c g)) (integer_there c.world sound) (range_reach_there c L20 want.Free g sound))
    (λ b h. unless_keeps (BetweenThere c.world) (is_wanted want.Free (type_of c.world b.subtype)) L20 (low_place c g) b h)

static_there : (c : Scope) (g : tree.Range) → IsSound c.world → IfIs (RangeThere c.world) (static_range c want.Free g)
static_there c g sound =
    found_then_keeps (BetweenThere c.world) (RangeThere c.world) (range_seen c L20 want.Free g) (static_range_of c g) (range_seen_there c g sound)
    (λ o h. both_is (RangeThere c.world) (λ x y. record { subtype = o.subtype; bounds = bounds x y }) (static_in L20 (low_place c g) o.low) (static_in L20 (high_place c g) o.high) (λ x y. h))

ranged_there : (c : Scope) (g : tree.Range) → IsSound c.world → IfIs (IndexThere c.world) (of_range (static_range c want.Free g))
ranged_there c g sound =
    with_found_has (RangeThere c.world) (IndexThere c.world) (λ s. record { subtype = s.subtype; bounds = Some s.bounds }) (static_range c want.Free g) (static_there c g sound) (λ s h. h)

discrete_form_there : (w : World) (p : Place) (k : ℕ) (m : Option Form) → form_at w k ≡ m → IfIs (IsThere w) (discrete_form p k m)
discrete_form_there w p k None e = tt
discrete_form_there w p k (Some f) e = unless_keeps (IsThere w) (is_ordered f) L20 p k (form_there w k f e)

discrete_mark_there : (c : Scope) (p : Place) (m : Mark) → IfIs (IsThere c.world) (discrete_mark c p m)
discrete_mark_there c p (mark (entity.Subtype k) tree.no_suffixes) = discrete_form_there c.world p k (form_at c.world k) refl
discrete_mark_there c p (mark entity.Unknown tree.no_suffixes) = tt
discrete_mark_there c p (mark e rest) = tt

discrete_there : (c : Scope) (e : tree.Expr) → IfIs (IsThere c.world) (discrete_subtype c e)
discrete_there c (tree.at s (tree.name n)) = discrete_mark_there c (c.place s.from) (mark_of c n)
discrete_there c (tree.at s n) = and_also_keeps (IsThere c.world) (refuse L20 (c.place s.from)) (heard (seen c want.Free (tree.at s n))) tt

within_there : (c : Scope) (m : Found ℕ) (b : tree.Bounds) → IfIs (IsThere c.world) m → IfIs (IndexThere c.world) (within_mark c m b)
within_there c (Is k) b h = with_found_is (IndexThere c.world) (λ v. record { subtype = k; bounds = Some v }) (index_range c k (tree.range b.low (tree.an_expr b.high))) (λ v. h)
within_there c Unknown b h = and_also_keeps (IndexThere c.world) Unknown (both (λ x y. x) (heard (seen c want.Free b.low)) (heard (seen c want.Free b.high))) tt
within_there c (Refused f) b h = and_also_keeps (IndexThere c.world) (Refused f) (both (λ x y. x) (heard (seen c want.Free b.low)) (heard (seen c want.Free b.high))) tt

indexes_by_there : (c : Scope) (e : tree.Expr) (f : tree.IndexForm) → IsSound c.world → IfIs (IndexThere c.world) (indexes_by c e f)
indexes_by_there c e tree.alone sound = ranged_there c (tree.range e tree.no_expr) sound
indexes_by_there c e (tree.up_to h) sound = ranged_there c (tree.range e (tree.an_expr h)) sound
indexes_by_there c e tree.unconstrained sound = with_found_has (IsThere c.world) (IndexThere c.world) (λ k. record { subtype = k; bounds = None }) (discrete_subtype c e) (discrete_there c e) (λ k h. h)
indexes_by_there c e (tree.constrained b) sound = within_there c (discrete_subtype c e) b (discrete_there c e)

-- ---- definitions of types

abbrev pub GroupThere : World → Group → Type 0
GroupThere w g = NotedThere w g.subtype

abbrev pub DefinitionThere : World → Definition → Type 0
DefinitionThere w (Integer c x) = Unit {0}
DefinitionThere w (Single f) = PartsThere w f
DefinitionThere w (ArrayOf i n) = IsThere w i.subtype × NotedThere w n
DefinitionThere w (RecordOf gs) = All (GroupThere w) gs

derived_form_there : (w : World) (p : Place) (f : Form) → PartsThere w f → IfIs (DefinitionThere w) (derived_form p f)
derived_form_there w p (form.Number k x) h = tt
derived_form_there w p form.Truth h = tt
derived_form_there w p (form.Array i b t) h = h
derived_form_there w p (form.Record m n) h = tt

derived_there : (w : World) (p : Place) (m : Option Subtype) → IfSome m (IsWhole w) → IfIs (DefinitionThere w) (derived_of p m)
derived_there w p None h = tt
derived_there w p (Some s) h = derived_form_there w p s.form h.parts

group_there : (c : Scope) → IsSound c.world → (g : tree.Component) → IfIs (GroupThere c.world) (group c g)
group_there c sound g = with_found_has (NotedThere c.world) (GroupThere c.world) (λ n. record { names = g.names; subtype = n }) (part_subtype c g.subtype) (part_noted c g.subtype sound) (λ n h. h)

pub definition_there : (c : Scope) (t : tree.TypeForm) → IsSound c.world → IfIs (DefinitionThere c.world) (definition c t)
definition_there c (tree.signed b) sound = with_found_is (DefinitionThere c.world) (λ r. Integer discrete.Signed (signed_scalar r)) (signed c b) (λ r. tt)
definition_there c (tree.modular e) sound = with_found_is (DefinitionThere c.world) (λ n. Integer discrete.Modular (modular_scalar n)) (part c want.Free e (modulus c.world (place_of c e))) (λ n. tt)
definition_there c (tree.enumeration ns) sound = tt
definition_there c (tree.array_of i s) sound =
    both_has (IndexThere c.world) (NotedThere c.world) (DefinitionThere c.world) ArrayOf (indexes c i) (part_subtype c s) (indexes_by_there c i.first i.form sound) (part_noted c s sound) (λ x y h j. (h, j))
definition_there c (tree.record_of gs) sound =
    with_found_has (All (GroupThere c.world)) (DefinitionThere c.world) RecordOf (all_of (map (group c) gs)) (all_of_has (GroupThere c.world) (group c) (group_there c sound) gs) (λ xs h. h)
definition_there c (tree.derived s) sound =
    found_then_keeps (NotedThere c.world) (DefinitionThere c.world) (indicated c L20 s) (λ n. derived_of (name_place c s.name) (noted_subtype c.world n)) (indicated_noted c L20 s sound)
    (λ n h. derived_there c.world (name_place c s.name) (noted_subtype c.world n) (noted_whole c.world n sound h))

-- ---- profiles

abbrev pub FormalThere : World → Formals → Type 0
FormalThere w f = IsThere w f.subtype

pub record ProfileThere (w : World) (p : Profile) : Type 0 where
  pub formals : All (FormalThere w) p.formals
  pub result : ResultThere w p.result

named_there : (w : World) (p : Place) (n : Noted) → NotedThere w n → IfIs (IsThere w) (named_subtype p n)
named_there w p (Known k) h = h
named_there w p (New s) h = tt

marked_there : (c : Scope) (s : tree.SubInd) → IsSound c.world → IfIs (IsThere c.world) (marked_subtype c s)
marked_there c s sound =
    found_then_keeps (NotedThere c.world) (IsThere c.world) (indicated c L27 s) (named_subtype (name_place c s.name)) (indicated_noted c L27 s sound) (named_there c.world (name_place c s.name))

formals_of_there : (w : World) (p : Place) (ss : List Span) (m : typed.Mode) (k : ℕ) → IsThere w k → IfIs (FormalThere w) (formals_of w p ss m k)
formals_of_there w p ss m k h = unless_keeps (FormalThere w) (not (is_out m) || is_constrained (form_at w k)) L27 p (record { names = ss; mode = m; subtype = k }) h

formals_there : (c : Scope) → IsSound c.world → (q : tree.Param) → IfIs (FormalThere c.world) (formals c q)
formals_there c sound q =
    found_then_keeps (IsThere c.world) (FormalThere c.world) (marked_subtype c q.subtype) (formals_of c.world (c.place q.span.from) q.names (mode_of q.mode)) (marked_there c q.subtype sound)
    (formals_of_there c.world (c.place q.span.from) q.names (mode_of q.mode))

result_there : (c : Scope) (m : Option tree.Name) → IsSound c.world → IfIs (ResultThere c.world) (result_subtype c m)
result_there c None sound = tt
result_there c (Some n) sound = with_found_has (IsThere c.world) (ResultThere c.world) Some (marked_subtype c (result_mark c n)) (marked_there c (result_mark c n) sound) (λ k h. h)

pub profile_there : (c : Scope) (s : tree.Heading) → IsSound c.world → IfIs (ProfileThere c.world) (profile c s)
profile_there c s sound =
    both_has (All (FormalThere c.world)) (ResultThere c.world) (ProfileThere c.world) (λ fs r. record { formals = fs; result = r }) (all_of (map (formals c) s.params)) (result_subtype c s.result)
    (all_of_has (FormalThere c.world) (formals c) (formals_there c sound) s.params) (result_there c s.result sound) (λ fs r h i. record { formals = h; result = i })
