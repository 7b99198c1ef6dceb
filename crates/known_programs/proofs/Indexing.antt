-- Declarations keep the index of each array one of numbers.
use Rattle.std.proofs.Common.{◌≡◌, refl, sym, ◌∙◌, ap, subst, ℕ, zero, suc, ◌+◌, ◌-◌, ℤ, pos, Bool, true, false, List, [], ◌∷◌, ◌++◌, map, length, Option, Some, None}
use Rattle.std.specs.Prelude.{slice_get}
use Rattle.ada_text.specs.declared.token.Span.{Span}
use Rattle.ada_values.specs.declared.place.Place.{Place}
use Rattle.ada_values.specs.declared.values.Value.{Value}
use Rattle.ada_values.specs.declared.values.Value.TheVariants as value
use Rattle.front_codes.specs.declared.codes.Code.{Code}
use Rattle.front_codes.specs.declared.codes.Code.TheVariants.{L20, L26, L27}
use Rattle.front_codes.specs.declared.codes.Refusal.{Refusal}
use Rattle.syntax_view.specs.Trees as tree
use Rattle.typed_units.specs.declared.expressions.Expr.{Expr}
use Rattle.typed_units.specs.declared.expressions.Fitted.{Fitted}
use Rattle.typed_units.specs.declared.operators.Bounds.{Bounds}
use Rattle.typed_units.specs.declared.statements.Stmt.{Stmt}
use Rattle.typed_units.specs.declared.programs.Mode as typed
use Rattle.type_base.specs.Lookups.{form_in, subtype_at}
use Rattle.type_base.specs.Results.{bit}
use Rattle.type_base.specs.Scope.{Scope}
use Rattle.type_base.specs.declared.entities.Entity.{Entity}
use Rattle.type_base.specs.declared.entities.Entity.TheVariants as entity
use Rattle.type_base.specs.declared.seen.Want.TheVariants as want
use Rattle.type_base.specs.declared.world.Discrete.TheVariants as discrete
use Rattle.type_base.specs.declared.world.Form.{Form}
use Rattle.type_base.specs.declared.world.Form.TheVariants as form
use Rattle.type_base.specs.declared.world.Subtype.{Subtype}
use Rattle.type_base.specs.declared.world.World.{World}
use Rattle.type_base.specs.Standard.{standard}
use Rattle.typing_rules.specs.Reading.{seen}
use Rattle.typing_rules.specs.Fits.{both, found_then, with_found}
use Rattle.typing_rules.specs.declared.prefix.Between.{Between}
use Rattle.typing_rules.specs.declared.prefix.Found.{Found}
use Rattle.typing_rules.specs.declared.prefix.Found.TheVariants.{Refused, Unknown, Is}
use Rattle.typing_laws.specs.Declared.{IsDeclared}
use Rattle.typing_laws.proofs.Standing.{form_there, no_some}
use Rattle.statement_typing.specs.Asked.{high_place, low_place, place_of, range_seen}
use Rattle.statement_typing.specs.Checks.{added, all_of, all_onto, and_also, refuse, unless}
use Rattle.statement_typing.specs.Drafts.{Entered, declare, declare_all, declare_literals, entered, in_world, next_subtype, with_components, with_group, with_groups, with_subtype, with_type}
use Rattle.statement_typing.specs.Files.{Home, place_at, rank, spot_of}
use Rattle.statement_typing.specs.Objects.{entered_by, named_number, number_declared, object_declared_as, object_entered, object_subtype, object_value, of_package, present, settled_value, with_constant, with_global, with_globals, with_local, with_locals, with_number, with_objects, with_package_objects, with_settled}
use Rattle.statement_typing.specs.Routines.{profile, with_formals, with_param, with_params, with_profile}
use Rattle.statement_typing.specs.Statements.{nothing, pragma_by, stmt_at, stmts}
use Rattle.statement_typing.specs.Subtypes.{Constraint, Mark, constrained, constraint_of, free, heard, index_range, indicated, indication, is_constrained, loose, mark, mark_of, marked, name_place, no_index, noted_form, noted_subtype, other, part, part_subtype, range_in, static_in, static_range_of, to_index, to_range, unsupported, whole_of, with_index, with_range}
use Rattle.statement_typing.specs.Types.{definition, derived_form, derived_of, discrete_subtype, group, indexes, indexes_by, modular_scalar, modulus, of_range, signed, signed_scalar, within_mark}
use Rattle.statement_typing.specs.Units.{around, contract_home, heading_declared, pragma_declared, returns_of, with_body, with_definition, with_heading, with_indication, with_opening, with_statements, with_subtype_of}
use Rattle.statement_typing.specs.declared.draft.Draft.{Draft}
use Rattle.statement_typing.specs.declared.parts.Definition.{Definition}
use Rattle.statement_typing.specs.declared.parts.Definition.TheVariants.{ArrayOf, Integer, RecordOf, Single}
use Rattle.statement_typing.specs.declared.parts.Formals.{Formals}
use Rattle.statement_typing.specs.declared.parts.Group.{Group}
use Rattle.statement_typing.specs.declared.parts.Indexes.{Indexes}
use Rattle.statement_typing.specs.declared.parts.Noted.{Noted}
use Rattle.statement_typing.specs.declared.parts.Noted.TheVariants.{Known, New}
use Rattle.statement_typing.specs.declared.parts.Profile.{Profile}
use Rattle.known_declarations.specs.Declared.{DefinitionDeclared, HasIndexes, IndexFormDeclared, IndexOrdered, IsOrdered, IsReady}
use Rattle.known_declarations.proofs.Defined.{OrderedFound, discrete_subtype_there}
use Rattle.declared_worlds.proofs.Growing.{Grows, grows_on, one_grows, same_some, stays, with_one}
use Rattle.known_programs.proofs.Ordering.{BetweenOrdered, free_range_ordered}

-- ---- worlds that grow

ordered_on : (w v : World) → Grows w v → (k : ℕ) → IsOrdered w k → IsOrdered v k
ordered_on w v g k h =
    let z = form_there w k (form.Number h.discrete h.scalar) h.is in
    record { discrete = h.discrete; scalar = h.scalar; is = ap form_in (g k z.subtype z.is) ∙ sym (ap form_in z.is) ∙ h.is }

pub index_on : (w v : World) → Grows w v → (f : Form) → IndexOrdered w f → IndexOrdered v f
index_on w v g (form.Array i b t) h = ordered_on w v g i h
index_on w v g (form.Number d s) h = tt
index_on w v g form.Truth h = tt
index_on w v g (form.Record i n) h = tt

get_each : {A : Type 0} (P : A → Type 0) (xs : List A) (a : A) → ((k : ℕ) (x : A) → slice_get xs k ≡ Some x → P x) → P a → (k : ℕ) (x : A) → slice_get (xs ++ a ∷ []) k ≡ Some x → P x
get_each P [] a h p zero x e = subst P (same_some a x e) p
get_each P [] a h p (suc k) x e = no_some x e
get_each P (y ∷ ys) a h p zero x e = h 0 x e
get_each P (y ∷ ys) a h p (suc k) x e = get_each P ys a (λ j z f. h (suc j) z f) p k x e

pub one_indexed : (w : World) (s : Subtype) → HasIndexes w → IndexOrdered w s.form → HasIndexes (with_one w s)
one_indexed w s h i =
    let v = with_one w s in
    get_each (λ (z : Subtype). IndexOrdered v z.form) w.subtypes s (λ k x e. index_on w v (one_grows w s) x.form (h k x e)) (index_on w v (one_grows w s) s.form i)

-- with the same subtypes
pub same_indexed : (w v : World) → w.subtypes ≡ v.subtypes → HasIndexes w → HasIndexes v
same_indexed w v q h k s e =
    index_on w v (λ j z f. subst (λ (y : List Subtype). slice_get y j ≡ Some z) q f) s.form (h k s (subst (λ (y : List Subtype). slice_get y k ≡ Some s) (sym q) e))

-- ---- what is noted

abbrev pub NotedIndexed : World → Noted → Type 0
NotedIndexed w (Known k) = Unit {0}
NotedIndexed w (New s) = IndexOrdered w s.form

abbrev pub IfNoted : World → Found Noted → Type 0
IfNoted w (Is n) = NotedIndexed w n
IfNoted w Unknown = Unit {0}
IfNoted w (Refused f) = Unit {0}

pub noted_on : (w v : World) → Grows w v → (n : Noted) → NotedIndexed w n → NotedIndexed v n
noted_on w v g (Known k) h = tt
noted_on w v g (New s) h = index_on w v g s.form h

made_noted : {A : Type 0} → (w : World) (f : A → Noted) (x : Found A) → ((a : A) → NotedIndexed w (f a)) → IfNoted w (with_found f x)
made_noted w f (Is a) h = h a
made_noted w f Unknown h = tt
made_noted w f (Refused g) h = tt

refused_noted : {B : Type 0} → (w : World) (r : Code) (p : Place) (b : Found B) → IfNoted w (and_also (refuse r p) b)
refused_noted w r p (Refused f) = tt
refused_noted w r p Unknown = tt
refused_noted w r p (Is x) = tt

unknown_noted : {B : Type 0} → (w : World) (b : Found B) → IfNoted w (and_also Unknown b)
unknown_noted w (Refused f) = tt
unknown_noted w Unknown = tt
unknown_noted w (Is x) = tt

range_noted : (c : Scope) (of : ℕ) (f : Form) (b : tree.Bounds) → IfNoted c.world (with_range c (record { of = of; form = f }) b)
range_noted c of (form.Number d x) b = made_noted c.world (λ r. New (record { of = of; form = form.Number d (record x { lo = r.first; hi = r.last }) })) (range_in c of x b) (λ r. tt)
range_noted c of form.Truth b = refused_noted c.world L20 (place_of c b.low) (loose c (Some b))
range_noted c of (form.Array i a t) b = refused_noted c.world L20 (place_of c b.low) (loose c (Some b))
range_noted c of (form.Record m n) b = refused_noted c.world L20 (place_of c b.low) (loose c (Some b))

no_index_noted : (c : Scope) (a : Span) (r : tree.Range) → IfNoted c.world (no_index c a r)
no_index_noted c a r = refused_noted c.world L20 (c.place a.from) (range_seen c L20 want.Free r)

index_noted : (c : Scope) (of : ℕ) (f : Form) (a : Span) (r : tree.Range) → IndexOrdered c.world f → IfNoted c.world (with_index c (record { of = of; form = f }) a r)
index_noted c of (form.Number d x) a r h = no_index_noted c a r
index_noted c of form.Truth a r h = no_index_noted c a r
index_noted c of (form.Array i None t) a r h = made_noted c.world (λ v. New (record { of = of; form = form.Array i (Some v) t })) (index_range c i r) (λ v. h)
index_noted c of (form.Array i (Some v) t) a r h = no_index_noted c a r
index_noted c of (form.Record m n) a r h = no_index_noted c a r

constrained_noted : (c : Scope) (r : Code) (p : Place) (k : ℕ) (o : Option Subtype) (x : Constraint) → HasIndexes c.world → subtype_at c.world k ≡ o → IfNoted c.world (constrained c r p k o x)
constrained_noted c r p k None x h e = tt
constrained_noted c r p k (Some s) free h e = tt
constrained_noted c r p k (Some s) (to_range b) h e = range_noted c s.of s.form b
constrained_noted c r p k (Some s) (to_index a i) h e = index_noted c s.of s.form a i (h k s e)
constrained_noted c r p k (Some s) other h e = tt

indication_noted : (c : Scope) (r : Code) (p : Place) (e : Entity) (x : Constraint) → HasIndexes c.world → IfNoted c.world (indication c r p e x)
indication_noted c r p (entity.Subtype k) x h = constrained_noted c r p k (subtype_at c.world k) x h refl
indication_noted c r p entity.Unknown x h = unknown_noted c.world (unsupported c x)
indication_noted c r p entity.Package x h = refused_noted c.world r p (unsupported c x)
indication_noted c r p (entity.Routine k) x h = refused_noted c.world r p (unsupported c x)
indication_noted c r p (entity.Number n) x h = refused_noted c.world r p (unsupported c x)
indication_noted c r p (entity.Literal k n) x h = refused_noted c.world r p (unsupported c x)
indication_noted c r p (entity.Static k n) x h = refused_noted c.world r p (unsupported c x)
indication_noted c r p (entity.Constant k n) x h = refused_noted c.world r p (unsupported c x)
indication_noted c r p (entity.Object k o a) x h = refused_noted c.world r p (unsupported c x)

marked_noted : (c : Scope) (r : Code) (s : tree.SubInd) (m : Mark) → HasIndexes c.world → IfNoted c.world (marked c r s m)
marked_noted c r s (mark e rest) h = indication_noted c r (name_place c s.name) e (constraint_of rest s.bounds) h

pub indicated_noted : (c : Scope) (r : Code) (s : tree.SubInd) → HasIndexes c.world → IfNoted c.world (indicated c r s)
indicated_noted c r s h = marked_noted c r s (mark_of c s.name) h

whole_if : (w : World) (b : Bool) (r : Code) (p : Place) (n : Noted) → NotedIndexed w n → IfNoted w (unless b r p n)
whole_if w true r p n h = h
whole_if w false r p n h = tt

pub whole_noted : (w : World) (r : Code) (p : Place) (n : Found Noted) → IfNoted w n → IfNoted w (found_then n (whole_of w r p))
whole_noted w r p (Is n) h = whole_if w (is_constrained (noted_form w n)) r p n h
whole_noted w r p Unknown h = tt
whole_noted w r p (Refused f) h = tt

part_noted : (c : Scope) (s : tree.SubInd) → HasIndexes c.world → IfNoted c.world (part_subtype c s)
part_noted c s h = whole_noted c.world L26 (name_place c s.name) (indicated c L26 s) (indicated_noted c L26 s h)

-- ---- definitions of types

abbrev GroupsIndexed : World → List Group → Type 0
GroupsIndexed w [] = Unit {0}
GroupsIndexed w (g ∷ gs) = NotedIndexed w g.subtype × GroupsIndexed w gs

abbrev pub DefinitionIndexed : World → Definition → Type 0
DefinitionIndexed w (Integer d x) = Unit {0}
DefinitionIndexed w (Single f) = IndexOrdered w f
DefinitionIndexed w (ArrayOf i n) = IsOrdered w i.subtype × NotedIndexed w n
DefinitionIndexed w (RecordOf gs) = GroupsIndexed w gs

abbrev pub IfDefinition : World → Found Definition → Type 0
IfDefinition w (Is x) = DefinitionIndexed w x
IfDefinition w Unknown = Unit {0}
IfDefinition w (Refused f) = Unit {0}

plain_definition : {A : Type 0} → (w : World) (f : A → Definition) (x : Found A) → ((a : A) → DefinitionIndexed w (f a)) → IfDefinition w (with_found f x)
plain_definition w f (Is a) h = h a
plain_definition w f Unknown h = tt
plain_definition w f (Refused g) h = tt

abbrev IfIndexes : World → Found Indexes → Type 0
IfIndexes w (Is x) = IsOrdered w x.subtype
IfIndexes w Unknown = Unit {0}
IfIndexes w (Refused f) = Unit {0}

both_static : (w : World) (k : ℕ) (x y : Found ℤ) → IsOrdered w k → IfIndexes w (of_range (both (λ l h. record { subtype = k; bounds = record { first = l; last = h } }) x y))
both_static w k (Refused f) (Refused g) h = tt
both_static w k (Refused f) Unknown h = tt
both_static w k (Refused f) (Is y) h = tt
both_static w k Unknown (Refused g) h = tt
both_static w k Unknown Unknown h = tt
both_static w k Unknown (Is y) h = tt
both_static w k (Is x) (Refused g) h = tt
both_static w k (Is x) Unknown h = tt
both_static w k (Is x) (Is y) h = h

of_between : (c : Scope) (g : tree.Range) (x : Found Between) → BetweenOrdered c.world x → IfIndexes c.world (of_range (found_then x (static_range_of c g)))
of_between c g (Is o) h = both_static c.world o.subtype (static_in L20 (low_place c g) o.low) (static_in L20 (high_place c g) o.high) h
of_between c g Unknown h = tt
of_between c g (Refused f) h = tt

named_indexes : (w : World) (k : Found ℕ) → OrderedFound w k → IfIndexes w (with_found (λ n. record { subtype = n; bounds = None }) k)
named_indexes w (Is k) h = h.1
named_indexes w Unknown h = tt
named_indexes w (Refused f) h = tt

bounded_indexes : (w : World) (k : ℕ) (b : Found Bounds) → IsOrdered w k → IfIndexes w (with_found (λ v. record { subtype = k; bounds = Some v }) b)
bounded_indexes w k (Is v) h = h
bounded_indexes w k Unknown h = tt
bounded_indexes w k (Refused f) h = tt

beside_indexes : {B : Type 0} → (w : World) (f : Refusal) (b : Found B) → IfIndexes w (and_also (Refused f) b)
beside_indexes w f (Refused g) = tt
beside_indexes w f Unknown = tt
beside_indexes w f (Is x) = tt

within_indexes : (c : Scope) (k : Found ℕ) (b : tree.Bounds) → OrderedFound c.world k → IfIndexes c.world (within_mark c k b)
within_indexes c (Is k) b h = bounded_indexes c.world k (index_range c k (tree.range b.low (tree.an_expr b.high))) h.1
within_indexes c Unknown b h = absurd h
within_indexes c (Refused f) b h = beside_indexes c.world f (both (λ l k. l) (heard (seen c want.Free b.low)) (heard (seen c want.Free b.high)))

indexes_ordered : (c : Scope) (e : tree.Expr) (f : tree.IndexForm) → IsReady c.world → IsDeclared c e → IndexFormDeclared c f → IfIndexes c.world (indexes_by c e f)
indexes_ordered c e tree.alone ready h i =
    let g = tree.range e tree.no_expr in of_between c g (range_seen c L20 want.Free g) (free_range_ordered c L20 g ready (h, tt))
indexes_ordered c e (tree.up_to k) ready h i =
    let g = tree.range e (tree.an_expr k) in of_between c g (range_seen c L20 want.Free g) (free_range_ordered c L20 g ready (h, i))
indexes_ordered c e tree.unconstrained ready h i = named_indexes c.world (discrete_subtype c e) (discrete_subtype_there c e ready.sound h)
indexes_ordered c e (tree.constrained b) ready h i = within_indexes c (discrete_subtype c e) b (discrete_subtype_there c e ready.sound h)

array_indexed : (w : World) (x : Found Indexes) (n : Found Noted) → IfIndexes w x → IfNoted w n → IfDefinition w (both ArrayOf x n)
array_indexed w (Refused f) (Refused g) h i = tt
array_indexed w (Refused f) Unknown h i = tt
array_indexed w (Refused f) (Is n) h i = tt
array_indexed w Unknown (Refused g) h i = tt
array_indexed w Unknown Unknown h i = tt
array_indexed w Unknown (Is n) h i = tt
array_indexed w (Is x) (Refused g) h i = tt
array_indexed w (Is x) Unknown h i = tt
array_indexed w (Is x) (Is n) h i = (h, i)

abbrev IfGroups : World → Found (List Group) → Type 0
IfGroups w (Is gs) = GroupsIndexed w gs
IfGroups w Unknown = Unit {0}
IfGroups w (Refused f) = Unit {0}

groups_more : (w : World) (gs : List Group) (g : Group) → GroupsIndexed w gs → NotedIndexed w g.subtype → GroupsIndexed w (gs ++ g ∷ [])
groups_more w [] g h i = (i, tt)
groups_more w (x ∷ xs) g h i = (h.0, groups_more w xs g h.1 i)

one_group : (w : World) (ns : List Span) (done : Found (List Group)) (n : Found Noted) → IfGroups w done → IfNoted w n → IfGroups w (added done (with_found (λ m. record { names = ns; subtype = m }) n))
one_group w ns (Refused f) (Refused g) h i = tt
one_group w ns (Refused f) Unknown h i = tt
one_group w ns (Refused f) (Is n) h i = tt
one_group w ns Unknown (Refused g) h i = tt
one_group w ns Unknown Unknown h i = tt
one_group w ns Unknown (Is n) h i = tt
one_group w ns (Is gs) (Refused g) h i = tt
one_group w ns (Is gs) Unknown h i = tt
one_group w ns (Is gs) (Is n) h i = groups_more w gs (record { names = ns; subtype = n }) h i

groups_indexed : (c : Scope) (done : Found (List Group)) (gs : List tree.Component) → HasIndexes c.world → IfGroups c.world done → IfGroups c.world (all_onto done (map (group c) gs))
groups_indexed c done [] h i = i
groups_indexed c done (g ∷ gs) h i = groups_indexed c (added done (group c g)) gs h (one_group c.world g.names done (part_subtype c g.subtype) i (part_noted c g.subtype h))

record_indexed : (w : World) (gs : Found (List Group)) → IfGroups w gs → IfDefinition w (with_found RecordOf gs)
record_indexed w (Is gs) h = h
record_indexed w Unknown h = tt
record_indexed w (Refused f) h = tt

derived_indexed : (w : World) (p : Place) (f : Form) → IndexOrdered w f → IfDefinition w (derived_form p f)
derived_indexed w p (form.Number k x) h = tt
derived_indexed w p form.Truth h = tt
derived_indexed w p (form.Array i b t) h = h
derived_indexed w p (form.Record m n) h = tt

derived_at : (w : World) (p : Place) (k : ℕ) (o : Option Subtype) → HasIndexes w → subtype_at w k ≡ o → IfDefinition w (derived_of p o)
derived_at w p k None h e = tt
derived_at w p k (Some s) h e = derived_indexed w p s.form (h k s e)

derived_from : (w : World) (p : Place) (n : Found Noted) → HasIndexes w → IfNoted w n → IfDefinition w (found_then n (λ m. derived_of p (noted_subtype w m)))
derived_from w p (Is (Known k)) h i = derived_at w p k (subtype_at w k) h refl
derived_from w p (Is (New s)) h i = derived_indexed w p s.form i
derived_from w p Unknown h i = tt
derived_from w p (Refused f) h i = tt

pub definition_indexed : (c : Scope) (t : tree.TypeForm) → IsReady c.world → DefinitionDeclared c t → IfDefinition c.world (definition c t)
definition_indexed c (tree.signed b) ready h = plain_definition c.world (λ r. Integer discrete.Signed (signed_scalar r)) (signed c b) (λ r. tt)
definition_indexed c (tree.modular e) ready h =
    plain_definition c.world (λ n. Integer discrete.Modular (modular_scalar n)) (part c want.Free e (modulus c.world (place_of c e))) (λ n. tt)
definition_indexed c (tree.enumeration ns) ready h = tt
definition_indexed c (tree.array_of i s) ready h =
    array_indexed c.world (indexes c i) (part_subtype c s) (indexes_ordered c i.first i.form ready h.0.0 h.0.1) (part_noted c s ready.indexes)
definition_indexed c (tree.record_of gs) ready h = record_indexed c.world (all_of (map (group c) gs)) (groups_indexed c (Is []) gs ready.indexes tt)
definition_indexed c (tree.derived s) ready h = derived_from c.world (name_place c s.name) (indicated c L20 s) ready.indexes (indicated_noted c L20 s ready.indexes)

-- ---- what is entered

pub entered_grows : (n : Noted) (d : Draft) → Grows d.world (entered n d).draft.world
entered_grows (Known k) d = stays d.world
entered_grows (New s) d = one_grows d.world s

pub entered_indexed : (n : Noted) (d : Draft) → HasIndexes d.world → NotedIndexed d.world n → HasIndexes (entered n d).draft.world
entered_indexed (Known k) d h i = h
entered_indexed (New s) d h i = one_indexed d.world s h i

components_same : (name : ℕ → ℕ) (ss : List Span) (k : ℕ) (d : Draft) → d.world.subtypes ≡ (with_components name ss k d).world.subtypes
components_same name [] k d = refl
components_same name (s ∷ ss) k d = components_same name ss k (in_world (λ w. record w { components = w.components ++ record { name = name s.from; subtype = k } ∷ [] }) d)

same_grows : (w v : World) → w.subtypes ≡ v.subtypes → Grows w v
same_grows w v q k s e = subst (λ (y : List Subtype). slice_get y k ≡ Some s) q e

groups_on : (w v : World) → Grows w v → (gs : List Group) → GroupsIndexed w gs → GroupsIndexed v gs
groups_on w v g [] h = tt
groups_on w v g (x ∷ xs) h = (noted_on w v g x.subtype h.0, groups_on w v g xs h.1)

groups_entered : (names : ℕ → ℕ) (gs : List Group) (d : Draft) → HasIndexes d.world → GroupsIndexed d.world gs → HasIndexes (with_groups names gs d).world
groups_entered names [] d h i = h
groups_entered names (g ∷ gs) d h i =
    let e = entered g.subtype d in
    let later = with_group names g.names e in
    let q = components_same names g.names e.number e.draft in
    groups_entered names gs later (same_indexed e.draft.world later.world q (entered_indexed g.subtype d h i.0))
    (groups_on d.world later.world (grows_on d.world e.draft.world later.world (entered_grows g.subtype d) (same_grows e.draft.world later.world q)) gs i.1)

type_entered : (names : ℕ → ℕ) (name : List ℕ) (t : Definition) (d : Draft) → HasIndexes d.world → DefinitionIndexed d.world t → HasIndexes (with_type names name t d).draft.world
type_entered names name (Integer c x) d h i =
    let base : Subtype = record { of = next_subtype d; form = form.Number c (record x { lo = x.base_lo; hi = x.base_hi }) } in
    one_indexed (with_one d.world base) (record { of = next_subtype d; form = form.Number c x }) (one_indexed d.world base h tt) tt
type_entered names name (Single f) d h i = one_indexed d.world (record { of = next_subtype d; form = f }) h i
type_entered names name (ArrayOf x n) d h i =
    let e = entered n d in
    one_indexed e.draft.world (record { of = next_subtype e.draft; form = form.Array x.subtype x.bounds e.number }) (entered_indexed n d h i.1) (ordered_on d.world e.draft.world (entered_grows n d) x.subtype i.0)
type_entered names name (RecordOf gs) d h i =
    let later = with_groups names gs d in
    one_indexed later.world (record { of = next_subtype later; form = form.Record (length d.world.components) (length later.world.components - length d.world.components) }) (groups_entered names gs d h i) tt

pub literals_same : (file k n : ℕ) (ss : List Span) (d : Draft) → d.world.subtypes ≡ (declare_literals file k n ss d).world.subtypes
literals_same file k n [] d = refl
literals_same file k n (s ∷ ss) d = literals_same file k (suc n) ss (declare file s (entity.Literal k (pos n)) d)

pub declared_same : (file : ℕ) (ss : List Span) (e : Entity) (d : Draft) → d.world.subtypes ≡ (declare_all file ss e d).world.subtypes
declared_same file [] e d = refl
declared_same file (s ∷ ss) e d = declared_same file ss e (declare file s e d)

pub definition_entered : (h : Home) (n : Span) (ls : List Span) (t : Found Definition) (d : Draft) → HasIndexes d.world → IfDefinition d.world t → HasIndexes (with_definition h n ls t d).world
definition_entered h n ls (Is t) d i j =
    let e = with_type h.file.name (h.file.spelled n.from) t d in
    let x = declare h.file.number n (entity.Subtype e.number) e.draft in
    same_indexed x.world (declare_literals h.file.number e.number 0 ls x).world (literals_same h.file.number e.number 0 ls x)
    (same_indexed e.draft.world x.world refl (type_entered h.file.name (h.file.spelled n.from) t d i j))
definition_entered h n ls Unknown d i j = i
definition_entered h n ls (Refused f) d i j = i

named_entered : (h : Home) (n : Span) (o : Option Subtype) (d : Draft) → HasIndexes d.world → ((s : Subtype) → o ≡ Some s → IndexOrdered d.world s.form) → HasIndexes (with_subtype_of h n o d).world
named_entered h n None d i j = i
named_entered h n (Some s) d i j = let x = with_subtype (Some (h.file.spelled n.from)) s d in same_indexed x.world (with_subtype_of h n (Some s) d).world refl (one_indexed d.world s i (j s refl))

noted_indexed : (w : World) (n : Noted) → HasIndexes w → NotedIndexed w n → (s : Subtype) → noted_subtype w n ≡ Some s → IndexOrdered w s.form
noted_indexed w (Known k) h i s e = h k s e
noted_indexed w (New z) h i s e = subst (λ (y : Subtype). IndexOrdered w y.form) (same_some z s e) i

pub indication_entered : (h : Home) (n : Span) (x : Found Noted) (d : Draft) → HasIndexes d.world → IfNoted d.world x → HasIndexes (with_indication h n x d).world
indication_entered h n (Is s) d i j = named_entered h n (noted_subtype d.world s) d i (noted_indexed d.world s i j)
indication_entered h n Unknown d i j = i
indication_entered h n (Refused f) d i j = i

-- ---- objects and profiles enter no subtype but that of the object

globals_same : (h : Home) (k : ℕ) (v : Option Value) (ss : List Span) (d : Draft) → d.world.subtypes ≡ (with_globals h k v ss d).world.subtypes
globals_same h k v [] d = refl
globals_same h k v (s ∷ ss) d = globals_same h k v ss (with_global h k v s (rank h.globals (spot_of h.file s)) d)

constants_same : (h : Home) (k : ℕ) (v : Value) (ss : List Span) (d : Draft) → d.world.subtypes ≡ (with_constant h k v ss d).world.subtypes
constants_same h k v ss d = declared_same h.file.number ss (entity.Constant k (length d.world.constants)) (in_world (λ w. record w { constants = w.constants ++ v ∷ [] }) d)

settled_same : (h : Home) (k : ℕ) (v : Value) (ss : List Span) (d : Draft) → d.world.subtypes ≡ (with_settled h k v ss d).world.subtypes
settled_same h k (value.Int n) ss d = declared_same h.file.number ss (entity.Static k n) d
settled_same h k (value.Bool b) ss d = declared_same h.file.number ss (entity.Static k (bit b)) d
settled_same h k v ss d = constants_same h k v ss d

package_same : (h : Home) (b : Bool) (ss : List Span) (k : ℕ) (v : Option Value) (d : Draft) → d.world.subtypes ≡ (of_package h b ss k v d).world.subtypes
package_same h false ss k v d = globals_same h k v ss d
package_same h true ss k (Some v) d = settled_same h k v ss d
package_same h true ss k None d = refl

locals_same : (h : Home) (b : Bool) (k : ℕ) (v : Option (Fitted Expr)) (ss : List Span) (d : Draft) → d.world.subtypes ≡ (with_locals h b k v ss d).world.subtypes
locals_same h b k v [] d = refl
locals_same h b k v (s ∷ ss) d = locals_same h b k v ss (with_local h b k v s (length d.locals) d)

objects_same : (h : Home) (b : Bool) (ss : List Span) (k : ℕ) (x : Found (Option (Fitted Expr))) (d : Draft) → d.world.subtypes ≡ (with_objects h b ss k x d).world.subtypes
objects_same h b ss k (Is v) d = locals_same h b k v ss d
objects_same h b ss k Unknown d = refl
objects_same h b ss k (Refused f) d = refl

package_objects_same : (h : Home) (b : Bool) (ss : List Span) (k : ℕ) (x : Found (Option Value)) (d : Draft) → d.world.subtypes ≡ (with_package_objects h b ss k x d).world.subtypes
package_objects_same h b ss k (Is v) d = package_same h b ss k v d
package_objects_same h b ss k Unknown d = refl
package_objects_same h b ss k (Refused f) d = refl

object_entered_same : (h : Home) (own : Option ℕ) (b : Bool) (ss : List Span) (v : Option tree.Expr) (x : Found (Option (Fitted Expr))) (e : Entered) → e.draft.world.subtypes ≡ (object_entered h own b ss v x e).world.subtypes
object_entered_same h (Some q) b ss v x e = objects_same h b ss e.number x e.draft
object_entered_same h None b ss v x e = package_objects_same h b ss e.number (found_then x (settled_value (present h e.draft) v)) e.draft

entered_by_indexed : (x : Found Noted) (d : Draft) → HasIndexes d.world → IfNoted d.world x → HasIndexes (entered_by x d).draft.world
entered_by_indexed (Is n) d h i = entered_indexed n d h i
entered_by_indexed Unknown d h i = h
entered_by_indexed (Refused f) d h i = h

number_same : (h : Home) (ss : List Span) (x : Found ℤ) (d : Draft) → d.world.subtypes ≡ (with_number h ss x d).world.subtypes
number_same h ss (Is n) d = declared_same h.file.number ss (entity.Number n) d
number_same h ss Unknown d = refl
number_same h ss (Refused f) d = refl

numbers_same : (h : Home) (ss : List Span) (v : Option tree.Expr) (d : Draft) → d.world.subtypes ≡ (number_declared h ss v d).world.subtypes
numbers_same h ss None d = refl
numbers_same h ss (Some e) d = number_same h ss (part (present h d) want.Free e (named_number d.world (place_of (present h d) e))) d

pub object_indexed : (h : Home) (p : Place) (ss : List Span) (b : Bool) (s : Option tree.SubInd) (v : Option tree.Expr) (d : Draft) → HasIndexes d.world → HasIndexes (object_declared_as h p ss b s v d).world
object_indexed h p ss b None v d i = same_indexed d.world (number_declared h ss v d).world (numbers_same h ss v d) i
object_indexed h p ss b (Some s) v d i =
    let c = present h d in
    let n = object_subtype c p s in
    let e = entered_by n d in
    let x = object_value h p b v n e in
    same_indexed e.draft.world (object_entered h h.own b ss v x e).world (object_entered_same h h.own b ss v x e)
    (entered_by_indexed n d i (whole_noted c.world L27 p (indicated c L27 s) (indicated_noted c L27 s i)))

params_same : (h : Home) (q : ℕ) (m : typed.Mode) (k : ℕ) (ss : List Span) (i : ℕ) (d : Draft) → d.world.subtypes ≡ (with_params h q m k ss i d).world.subtypes
params_same h q m k [] i d = refl
params_same h q m k (s ∷ ss) i d = params_same h q m k ss (suc i) (with_param h q m k s i d)

formals_same : (h : Home) (q : ℕ) (fs : List Formals) (i : ℕ) (d : Draft) → d.world.subtypes ≡ (with_formals h q fs i d).world.subtypes
formals_same h q [] i d = refl
formals_same h q (f ∷ fs) i d =
    let later = with_params h q f.mode f.subtype f.names i d in params_same h q f.mode f.subtype f.names i d ∙ formals_same h q fs (i + length f.names) later

profile_same : (h : Home) (q : ℕ) (s : Span) (x : Found Profile) (d : Draft) → d.world.subtypes ≡ (with_profile h q s x d).world.subtypes
profile_same h q s (Is p) d = formals_same h q p.formals 0 d
profile_same h q s Unknown d = refl
profile_same h q s (Refused f) d = refl

pub with_heading_indexed : (b : Bool) (h : Home) (q : ℕ) (s : tree.Heading) (d : Draft) → HasIndexes d.world → HasIndexes (with_heading b h q s d).world
with_heading_indexed true h q s d i =
    let x = profile (present (contract_home h q s) d) s in same_indexed d.world (heading_declared h q s d).world (profile_same h q s.name x d) i
with_heading_indexed false h q s d i = i

with_body_indexed : (p : Place) (q : ℕ) (ds : tree.Decls) (ss : tree.Stmts) (x : Found (List Stmt)) (d : Draft) → HasIndexes d.world → HasIndexes (with_body p q ds ss x d).world
with_body_indexed p q ds ss (Is xs) d i = i
with_body_indexed p q ds ss Unknown d i = i
with_body_indexed p q ds ss (Refused f) d i = i

pub statements_indexed : (h : Home) (q : ℕ) (s : tree.Heading) (ds : tree.Decls) (ss : tree.Stmts) (d : Draft) → HasIndexes d.world → HasIndexes (with_statements h q s ds ss d).world
statements_indexed h q s ds ss d i = with_body_indexed (place_at h s.name) q ds ss (stmts (around h (returns_of (present h d) s.result) d.world) ss) d i

opening_indexed : (x : Found Stmt) (d : Draft) → HasIndexes d.world → HasIndexes (with_opening x d).world
opening_indexed (Is s) d i = i
opening_indexed Unknown d i = i
opening_indexed (Refused f) d i = i

pub pragma_indexed : (h : Home) (own : Option ℕ) (p : Place) (q : tree.Pragma) (d : Draft) → HasIndexes d.world → HasIndexes (pragma_declared h own p q d).world
pragma_indexed h None p q d i = i
pragma_indexed h (Some n) p q d i = opening_indexed (stmt_at p (pragma_by (around h nothing d.world) p (h.file.word q.name.from) q.args)) d i

-- ---- the beginning

abbrev AllIndexed : World → List Subtype → Type 0
AllIndexed w [] = Unit {0}
AllIndexed w (s ∷ ss) = IndexOrdered w s.form × AllIndexed w ss

indexed_at : (w : World) (ss : List Subtype) → AllIndexed w ss → (k : ℕ) (s : Subtype) → slice_get ss k ≡ Some s → IndexOrdered w s.form
indexed_at w [] h k s e = no_some s e
indexed_at w (x ∷ xs) h zero s e = subst (λ (z : Subtype). IndexOrdered w z.form) (same_some x s e) h.0
indexed_at w (x ∷ xs) h (suc k) s e = indexed_at w xs h.1 k s e

-- Standard has no arrays
pub no_arrays : (w : World) → w.subtypes ≡ standard.subtypes → HasIndexes w
no_arrays w e k s i = indexed_at w standard.subtypes (tt, (tt, (tt, (tt, (tt, (tt, (tt, tt))))))) k s (subst (λ (z : List Subtype). slice_get z k ≡ Some s) e i)
