-- What is found of definitions of types and of profiles whose names are declared.
use Rattle.std.proofs.Common.{◌≡◌, refl, sym, subst, ℕ, ℤ, pos, negsuc, List, [], ◌∷◌, map, Option, Some, None, ◌||◌}
use Rattle.std.specs.Prelude.{not}
use Rattle.std.specs.Int.RustNames.{int_le}
use Rattle.ada_values.specs.Scalars.{within}
use Rattle.ada_values.specs.declared.place.Place.{Place}
use Rattle.front_codes.specs.declared.codes.Code.TheVariants.{L20, L27}
use Rattle.syntax_view.specs.Trees as tree
use Rattle.typed_units.specs.declared.operators.Bounds.{Bounds}
use Rattle.type_base.specs.Lookups.{form_at, form_in, subtype_at}
use Rattle.type_base.specs.Scope.{Scope}
use Rattle.type_base.specs.declared.entities.Entity.TheVariants as entity
use Rattle.type_base.specs.declared.seen.Seen.{Seen}
use Rattle.type_base.specs.declared.seen.Seen.TheVariants as seen'
use Rattle.type_base.specs.declared.seen.Want.TheVariants as want
use Rattle.type_base.specs.declared.world.Discrete.TheVariants as discrete
use Rattle.type_base.specs.declared.world.Form.{Form}
use Rattle.type_base.specs.declared.world.Form.TheVariants as form
use Rattle.type_base.specs.declared.world.Subtype.{Subtype}
use Rattle.type_base.specs.declared.world.World.{World}
use Rattle.expression_rules.specs.Known.{IsKnown}
use Rattle.typing_rules.specs.Fits.{both, found_then}
use Rattle.typing_rules.specs.Reading.{seen}
use Rattle.typing_rules.specs.declared.prefix.Found.{Found}
use Rattle.typing_rules.specs.declared.prefix.Found.TheVariants.{Refused, Unknown, Is}
use Rattle.typing_laws.specs.Declared.{IsDeclared, IsSound, IsThere, NameDeclared}
use Rattle.typing_laws.proofs.Standing.{IsFound, both_found, found_if, then_found, with_found_found}
use Rattle.statement_typing.specs.Asked.{place_of}
use Rattle.statement_typing.specs.Checks.{all_of, and_also, refuse, unless}
use Rattle.statement_typing.specs.Routines.{formals, formals_of, is_out, marked_subtype, mode_of, named_subtype, profile, result_mark, result_subtype}
use Rattle.statement_typing.specs.Subtypes.{Mark, bounds, heard, in_order, index_range, indicated, integer_number, is_constrained, is_of_integers, mark, mark_of, name_place, noted_subtype, part, part_subtype, static_in, static_range}
use Rattle.statement_typing.specs.Types.{definition, derived_form, derived_of, discrete_form, discrete_mark, discrete_subtype, group, indexes, indexes_by, modular_scalar, modulus, of_range, signed, signed_bound, signed_bounds, signed_scalar, within_mark}
use Rattle.statement_typing.specs.declared.parts.Definition.TheVariants.{ArrayOf, Integer, RecordOf}
use Rattle.statement_typing.specs.declared.parts.Indexes.{Indexes}
use Rattle.statement_typing.specs.declared.parts.Noted.{Noted}
use Rattle.statement_typing.specs.declared.parts.Noted.TheVariants.{Known, New}
use Rattle.statement_typing.specs.declared.parts.StaticRange.{StaticRange}
use Rattle.known_statements.proofs.Asked.{AllFound, all_found, refused_found, seen_known, unless_found}
use Rattle.known_statements.proofs.Chosen.{static_found}
use Rattle.known_declarations.specs.Declared.{BoundsDeclared, ComponentsDeclared, DefinitionDeclared, IndexFormDeclared, IndicationDeclared, IsOrdered, IsReady, ParamsDeclared, ProfileDeclared, ResultDeclared}
use Rattle.known_declarations.proofs.Indicated.{MarkDeclared, NotedFound, index_range_found, indicated_there, mark_declared, noted_found, part_subtype_there, static_range_found}

-- ---- integer types

integer_number_found : (w : World) (p : Place) (s : Seen) → IsKnown w s → IsFound (integer_number w p s)
integer_number_found w p (seen'.Refused f) h = tt
integer_number_found w p seen'.Unknown h = absurd h
integer_number_found w p (seen'.Number n) h = tt
integer_number_found w p (seen'.Typed t x) h = found_if (is_of_integers (form_at w t)) (static_in L20 p x) (refuse L20 p) (static_found L20 p x) tt

signed_bound_found : (c : Scope) (e : tree.Expr) → IsSound c.world → IsDeclared c e → IsFound (part c want.Free e (signed_bound c.world (place_of c e)))
signed_bound_found c e sound h =
    let f : ℤ → Found ℤ = λ n. unless (within (negsuc 9223372036854775807) (pos 9223372036854775807) n) L20 (place_of c e) n in
    then_found (integer_number c.world (place_of c e) (seen c want.Free e)) f (integer_number_found c.world (place_of c e) (seen c want.Free e) (seen_known c want.Free e sound tt h))
    (λ n. unless_found (within (negsuc 9223372036854775807) (pos 9223372036854775807) n) L20 (place_of c e) n)

modulus_found : (c : Scope) (e : tree.Expr) → IsSound c.world → IsDeclared c e → IsFound (part c want.Free e (modulus c.world (place_of c e)))
modulus_found c e sound h =
    let f : ℤ → Found ℤ = λ n. unless (within (pos 2) (pos 4294967296) n) L20 (place_of c e) n in
    then_found (integer_number c.world (place_of c e) (seen c want.Free e)) f (integer_number_found c.world (place_of c e) (seen c want.Free e) (seen_known c want.Free e sound tt h))
    (λ n. unless_found (within (pos 2) (pos 4294967296) n) L20 (place_of c e) n)

signed_found : (c : Scope) (b : tree.Bounds) → IsSound c.world → BoundsDeclared c b → IsFound (signed c b)
signed_found c b sound h =
    let l = part c want.Free b.low (signed_bound c.world (place_of c b.low)) in
    let k = part c want.Free b.high (signed_bound c.world (place_of c b.high)) in
    then_found (signed_bounds c b) (in_order (place_of c b.high)) (both_found bounds l k (signed_bound_found c b.low sound h.0) (signed_bound_found c b.high sound h.1))
    (λ (x : Bounds). unless_found (int_le x.first x.last) L20 (place_of c b.high) x)

-- ---- the index of an array

-- a subtype of numbers that stands in the world
abbrev pub OrderedFound : World → Found ℕ → Type 0
OrderedFound w (Refused f) = Unit {0}
OrderedFound w Unknown = ⊥
OrderedFound w (Is k) = IsThere w k × IsOrdered w k

ordered_found : (w : World) (k : Found ℕ) → OrderedFound w k → IsFound k
ordered_found w (Refused f) h = tt
ordered_found w Unknown h = absurd h
ordered_found w (Is k) h = tt

discrete_form_there : (w : World) (p : Place) (k : ℕ) (f : Form) → IsThere w k → form_at w k ≡ Some f → OrderedFound w (discrete_form p k (Some f))
discrete_form_there w p k (form.Number d x) h e = (h, record { discrete = d; scalar = x; is = e })
discrete_form_there w p k form.Truth h e = tt
discrete_form_there w p k (form.Array i b t) h e = tt
discrete_form_there w p k (form.Record m n) h e = tt

named_there : (w : World) (p : Place) (k : ℕ) → IsThere w k → OrderedFound w (discrete_form p k (form_at w k))
named_there w p k h =
    subst (λ (m : Option Subtype). OrderedFound w (discrete_form p k (form_in m))) (sym h.is)
    (discrete_form_there w p k h.subtype.form h (subst (λ (m : Option Subtype). form_in m ≡ Some h.subtype.form) (sym h.is) refl))

discrete_mark_there : (c : Scope) (p : Place) (m : Mark) → MarkDeclared c m → OrderedFound c.world (discrete_mark c p m)
discrete_mark_there c p (mark (entity.Subtype k) tree.no_suffixes) h = named_there c.world p k h.0
discrete_mark_there c p (mark entity.Unknown tree.no_suffixes) h = absurd h.0
discrete_mark_there c p (mark entity.Package tree.no_suffixes) h = tt
discrete_mark_there c p (mark (entity.Routine q) tree.no_suffixes) h = tt
discrete_mark_there c p (mark (entity.Number n) tree.no_suffixes) h = tt
discrete_mark_there c p (mark (entity.Literal k n) tree.no_suffixes) h = tt
discrete_mark_there c p (mark (entity.Static k n) tree.no_suffixes) h = tt
discrete_mark_there c p (mark (entity.Constant k n) tree.no_suffixes) h = tt
discrete_mark_there c p (mark (entity.Object k o a) tree.no_suffixes) h = tt
discrete_mark_there c p (mark (entity.Subtype k) (tree.suffixes s rest)) h = tt
discrete_mark_there c p (mark entity.Unknown (tree.suffixes s rest)) h = tt
discrete_mark_there c p (mark entity.Package (tree.suffixes s rest)) h = tt
discrete_mark_there c p (mark (entity.Routine q) (tree.suffixes s rest)) h = tt
discrete_mark_there c p (mark (entity.Number n) (tree.suffixes s rest)) h = tt
discrete_mark_there c p (mark (entity.Literal k n) (tree.suffixes s rest)) h = tt
discrete_mark_there c p (mark (entity.Static k n) (tree.suffixes s rest)) h = tt
discrete_mark_there c p (mark (entity.Constant k n) (tree.suffixes s rest)) h = tt
discrete_mark_there c p (mark (entity.Object k o a) (tree.suffixes s rest)) h = tt

unnamed_there : (c : Scope) (at : ℕ) (s : Seen) → OrderedFound c.world (and_also (refuse L20 (c.place at)) (heard s))
unnamed_there c at (seen'.Refused f) = tt
unnamed_there c at seen'.Unknown = tt
unnamed_there c at (seen'.Number n) = tt
unnamed_there c at (seen'.Typed t x) = tt

pub discrete_subtype_there : (c : Scope) (e : tree.Expr) → IsSound c.world → IsDeclared c e → OrderedFound c.world (discrete_subtype c e)
discrete_subtype_there c (tree.at s (tree.name n)) sound h = discrete_mark_there c (c.place s.from) (mark_of c n) (mark_declared c n h)
discrete_subtype_there c (tree.at s (tree.number n)) sound h = unnamed_there c s.from (seen c want.Free (tree.at s (tree.number n)))
discrete_subtype_there c (tree.at s tree.null) sound h = unnamed_there c s.from (seen c want.Free (tree.at s tree.null))
discrete_subtype_there c (tree.at s (tree.group as')) sound h = unnamed_there c s.from (seen c want.Free (tree.at s (tree.group as')))
discrete_subtype_there c (tree.at s (tree.unary p o a)) sound h = unnamed_there c s.from (seen c want.Free (tree.at s (tree.unary p o a)))
discrete_subtype_there c (tree.at s (tree.binary p o a b)) sound h = unnamed_there c s.from (seen c want.Free (tree.at s (tree.binary p o a b)))
discrete_subtype_there c (tree.at s (tree.member p b a g)) sound h = unnamed_there c s.from (seen c want.Free (tree.at s (tree.member p b a g)))

of_range_found : (r : Found StaticRange) → IsFound r → IsFound (of_range r)
of_range_found r h = with_found_found (λ (s : StaticRange). record { subtype = s.subtype; bounds = Some s.bounds }) r h

within_mark_found : (c : Scope) (k : Found ℕ) (b : tree.Bounds) → IsSound c.world → OrderedFound c.world k → BoundsDeclared c b → IsFound (within_mark c k b)
within_mark_found c (Is k) b sound h i =
    let r = tree.range b.low (tree.an_expr b.high) in
    with_found_found (λ v. record { subtype = k; bounds = Some v }) (index_range c k r) (index_range_found c k r sound h.0 h.1 i)
within_mark_found c Unknown b sound h i = absurd h
within_mark_found c (Refused f) b sound h i = refused_found (λ (x : Indexes) y. x) f (both (λ l h. l) (heard (seen c want.Free b.low)) (heard (seen c want.Free b.high)))

indexes_found : (c : Scope) (e : tree.Expr) (f : tree.IndexForm) → IsSound c.world → IsDeclared c e → IndexFormDeclared c f → IsFound (indexes_by c e f)
indexes_found c e tree.alone sound h i = of_range_found (static_range c want.Free (tree.range e tree.no_expr)) (static_range_found c want.Free (tree.range e tree.no_expr) sound tt (h, tt))
indexes_found c e (tree.up_to k) sound h i = of_range_found (static_range c want.Free (tree.range e (tree.an_expr k))) (static_range_found c want.Free (tree.range e (tree.an_expr k)) sound tt (h, i))
indexes_found c e tree.unconstrained sound h i =
    with_found_found (λ k. record { subtype = k; bounds = None }) (discrete_subtype c e) (ordered_found c.world (discrete_subtype c e) (discrete_subtype_there c e sound h))
indexes_found c e (tree.constrained b) sound h i = within_mark_found c (discrete_subtype c e) b sound (discrete_subtype_there c e sound h) i

-- ---- definitions

groups_found : (c : Scope) (gs : List tree.Component) → IsReady c.world → ComponentsDeclared c gs → AllFound (map (group c) gs)
groups_found c [] ready h = tt
groups_found c (g ∷ gs) ready h =
    (with_found_found (λ (n : Noted). record { names = g.names; subtype = n }) (part_subtype c g.subtype) (noted_found c.world (part_subtype c g.subtype) (part_subtype_there c g.subtype ready h.0)), groups_found c gs ready h.1)

derived_form_found : (p : Place) (f : Form) → IsFound (derived_form p f)
derived_form_found p (form.Number k x) = tt
derived_form_found p form.Truth = tt
derived_form_found p (form.Array i b t) = tt
derived_form_found p (form.Record m n) = tt

derived_known : (w : World) (p : Place) (k : ℕ) → IsThere w k → IsFound (derived_of p (subtype_at w k))
derived_known w p k h = subst (λ (m : Option Subtype). IsFound (derived_of p m)) (sym h.is) (derived_form_found p h.subtype.form)

derived_found : (c : Scope) (p : Place) (n : Found Noted) → NotedFound c.world n → IsFound (found_then n (λ m. derived_of p (noted_subtype c.world m)))
derived_found c p (Refused f) h = tt
derived_found c p Unknown h = absurd h
derived_found c p (Is (Known k)) h = derived_known c.world p k h
derived_found c p (Is (New s)) h = derived_form_found p s.form

pub definition_found : (c : Scope) (t : tree.TypeForm) → IsReady c.world → DefinitionDeclared c t → IsFound (definition c t)
definition_found c (tree.signed b) ready h = with_found_found (λ r. Integer discrete.Signed (signed_scalar r)) (signed c b) (signed_found c b ready.sound h)
definition_found c (tree.modular e) ready h =
    with_found_found (λ n. Integer discrete.Modular (modular_scalar n)) (part c want.Free e (modulus c.world (place_of c e))) (modulus_found c e ready.sound h)
definition_found c (tree.enumeration ns) ready h = tt
definition_found c (tree.array_of i s) ready h =
    both_found ArrayOf (indexes c i) (part_subtype c s) (indexes_found c i.first i.form ready.sound h.0.0 h.0.1) (noted_found c.world (part_subtype c s) (part_subtype_there c s ready h.1))
definition_found c (tree.record_of gs) ready h = with_found_found RecordOf (all_of (map (group c) gs)) (all_found (map (group c) gs) (groups_found c gs ready h))
definition_found c (tree.derived s) ready h = derived_found c (name_place c s.name) (indicated c L20 s) (indicated_there c L20 s ready h)

-- ---- profiles

-- a subtype that stands in the world
abbrev pub SubtypeFound : World → Found ℕ → Type 0
SubtypeFound w (Refused f) = Unit {0}
SubtypeFound w Unknown = ⊥
SubtypeFound w (Is k) = IsThere w k

marked_found : (w : World) (p : Place) (n : Found Noted) → NotedFound w n → SubtypeFound w (found_then n (named_subtype p))
marked_found w p (Refused f) h = tt
marked_found w p Unknown h = absurd h
marked_found w p (Is (Known k)) h = h
marked_found w p (Is (New s)) h = tt

pub marked_subtype_there : (c : Scope) (s : tree.SubInd) → IsReady c.world → IndicationDeclared c s → SubtypeFound c.world (marked_subtype c s)
marked_subtype_there c s ready h = marked_found c.world (name_place c s.name) (indicated c L27 s) (indicated_there c L27 s ready h)

subtype_found : (w : World) (k : Found ℕ) → SubtypeFound w k → IsFound k
subtype_found w (Refused f) h = tt
subtype_found w Unknown h = absurd h
subtype_found w (Is k) h = tt

formals_found : (c : Scope) (q : tree.Param) → IsReady c.world → IndicationDeclared c q.subtype → IsFound (formals c q)
formals_found c q ready h =
    let m = mode_of q.mode in
    then_found (marked_subtype c q.subtype) (formals_of c.world (c.place q.span.from) q.names m) (subtype_found c.world (marked_subtype c q.subtype) (marked_subtype_there c q.subtype ready h))
    (λ k. unless_found (not (is_out m) || is_constrained (form_at c.world k)) L27 (c.place q.span.from) (record { names = q.names; mode = m; subtype = k }))

params_found : (c : Scope) (qs : List tree.Param) → IsReady c.world → ParamsDeclared c qs → AllFound (map (formals c) qs)
params_found c [] ready h = tt
params_found c (q ∷ qs) ready h = (formals_found c q ready h.0, params_found c qs ready h.1)

-- the result's mark is its name alone
pub result_there : (c : Scope) (n : tree.Name) → IsReady c.world → NameDeclared c n → SubtypeFound c.world (marked_subtype c (result_mark c n))
result_there c (tree.named s i ss) ready h = marked_subtype_there c (result_mark c (tree.named s i ss)) ready (h, tt)

result_found : (c : Scope) (n : Option tree.Name) → IsReady c.world → ResultDeclared c n → IsFound (result_subtype c n)
result_found c None ready h = tt
result_found c (Some n) ready h = with_found_found Some (marked_subtype c (result_mark c n)) (subtype_found c.world (marked_subtype c (result_mark c n)) (result_there c n ready h))

pub profile_found : (c : Scope) (h : tree.Heading) → IsReady c.world → ProfileDeclared c h → IsFound (profile c h)
profile_found c h ready i =
    both_found (λ fs r. record { formals = fs; result = r }) (all_of (map (formals c) h.params)) (result_subtype c h.result)
    (all_found (map (formals c) h.params) (params_found c h.params ready i.0)) (result_found c h.result ready i.1)
