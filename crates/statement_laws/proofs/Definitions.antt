-- What is told of indexes of arrays, definitions of types, objects and profiles.
use Rattle.std.proofs.Common.{◌≡◌, refl, List, [], ◌∷◌, ◌++◌, Option, Some, None, Bool, true, false}
use Rattle.std.specs.Prelude.{ℕ, map}
use Rattle.ada_values.specs.declared.place.Place.{Place}
use Rattle.front_codes.specs.declared.codes.Code.{Code}
use Rattle.front_codes.specs.declared.codes.Code.TheVariants.{L8, L20, L27}
use Rattle.front_codes.specs.declared.codes.Refusal.{Refusal}
use Rattle.type_base.specs.declared.seen.Seen.TheVariants as seen'
use Rattle.type_base.specs.declared.seen.Want.{Want}
use Rattle.type_base.specs.declared.seen.Want.TheVariants as want
use Rattle.type_base.specs.declared.world.Discrete.TheVariants as discrete
use Rattle.type_base.specs.declared.world.Subtype.{Subtype}
use Rattle.type_base.specs.declared.world.World.{World}
use Rattle.type_base.specs.Lookups.{type_at}
use Rattle.type_base.specs.Scope.{Scope}
use Rattle.syntax_view.specs.Trees as tree
use Rattle.typing_rules.specs.Fits.{both, fit, fit_as, found_fault, found_then}
use Rattle.typing_rules.specs.Reading.{faults, seen}
use Rattle.typing_rules.specs.declared.prefix.Found.{Found}
use Rattle.typing_rules.specs.declared.prefix.Found.TheVariants.{Refused, Unknown, Is}
use Rattle.statement_typing.specs.Asked.{place_of}
use Rattle.statement_typing.specs.Checks.{added, all_of, all_onto, and_also, broken, fault_after, refuse}
use Rattle.statement_typing.specs.declared.parts.Definition.{Definition}
use Rattle.statement_typing.specs.declared.parts.Definition.TheVariants.{ArrayOf, Integer, RecordOf}
use Rattle.statement_typing.specs.declared.parts.Formals.{Formals}
use Rattle.statement_typing.specs.declared.parts.Group.{Group}
use Rattle.statement_typing.specs.declared.parts.Indexes.{Indexes}
use Rattle.statement_typing.specs.declared.parts.Noted.{Noted}
use Rattle.statement_typing.specs.declared.parts.StaticRange.{StaticRange}
use Rattle.statement_typing.specs.Subtypes.{bounds, heard, in_order, index_range, index_range_faults, indicated, indicated_faults, mark_of, noted_subtype, part, part_faults, part_subtype, part_subtype_faults, static_range, static_range_faults, whole_of, name_place}
use Rattle.statement_typing.specs.Types.{definition, definition_faults, derived_of, discrete_mark, discrete_subtype, discrete_subtype_faults, group, groups_faults, indexes, indexes_by, indexes_by_faults, indexes_faults, modular_scalar, modulus, of_range, signed, signed_bound, signed_faults, signed_scalar, within_mark, within_mark_faults}
use Rattle.statement_typing.specs.Objects.{given, given_faults, initial, initial_faults, named_number, object_subtype, object_subtype_faults}
use Rattle.statement_typing.specs.Routines.{formals, formals_faults, formals_of, marked_subtype, mode_of, named_subtype, params_faults, profile, profile_faults, result_faults, result_mark, result_subtype}
use Rattle.typing_laws.proofs.Merging.{first_after, first_alone, first_as, first_joined}
use Rattle.statement_laws.proofs.Telling.{Hears, Told, told_both, told_broken, told_heard, told_in, told_part, told_swapped, told_then, told_with}
use Rattle.statement_laws.proofs.Indications.{both_heard, index_range_told, indicated_told, part_subtype_told, static_range_told, told_two}

-- ---- integer types

signed_hears : (w : World) (p : Place) → Hears (signed_bound w p)
signed_hears w p = record { refused = λ f. refl; unknown = refl }

pub signed_told : (c : Scope) (b : tree.Bounds) → Told (signed c b) (signed_faults c b)
signed_told c b =
    let low = signed_bound c.world (place_of c b.low) in
    let high = signed_bound c.world (place_of c b.high) in
    told_two bounds (part c want.Free b.low low) (part c want.Free b.high high) (in_order (place_of c b.high))
    (part_faults c want.Free b.low low) (part_faults c want.Free b.high high)
    (told_part c want.Free b.low low (signed_hears c.world (place_of c b.low)))
    (told_part c want.Free b.high high (signed_hears c.world (place_of c b.high)))

modulus_hears : (w : World) (p : Place) → Hears (modulus w p)
modulus_hears w p = record { refused = λ f. refl; unknown = refl }

-- ---- indexes

no_name : (c : Scope) (e : tree.Expr) → Told (and_also {A = ℕ} (refuse L20 (place_of c e)) (heard (seen c want.Free e))) (faults c want.Free e ++ broken L20 (place_of c e))
no_name c e =
    told_swapped (λ x y. x) (refuse {A = ℕ} L20 (place_of c e)) (heard (seen c want.Free e)) (broken L20 (place_of c e)) (faults c want.Free e)
    (told_broken L20 (place_of c e)) (told_heard c want.Free e)

pub discrete_told : (c : Scope) (e : tree.Expr) → Told (discrete_subtype c e) (discrete_subtype_faults c e)
discrete_told c (tree.at s (tree.name n)) = told_in (discrete_mark c (c.place s.from) (mark_of c n))
discrete_told c (tree.at s (tree.number n)) = no_name c (tree.at s (tree.number n))
discrete_told c (tree.at s tree.null) = no_name c (tree.at s tree.null)
discrete_told c (tree.at s (tree.group as')) = no_name c (tree.at s (tree.group as'))
discrete_told c (tree.at s (tree.unary t o a)) = no_name c (tree.at s (tree.unary t o a))
discrete_told c (tree.at s (tree.binary t o a b)) = no_name c (tree.at s (tree.binary t o a b))
discrete_told c (tree.at s (tree.member t b a g)) = no_name c (tree.at s (tree.member t b a g))

pub of_range_told : (c : Scope) (r : tree.Range) → Told (of_range (static_range c want.Free r)) (static_range_faults c want.Free r)
of_range_told c r =
    told_with (λ (s : StaticRange). record { subtype = s.subtype; bounds = Some s.bounds }) (static_range c want.Free r) (static_range_faults c want.Free r) (static_range_told c want.Free r)

abbrev no_indexes : Found Indexes
no_indexes = Unknown

abbrev refused_indexes : Refusal → Found Indexes
refused_indexes f = Refused f

-- an index's subtype, and its bounds there
pub within_told : (c : Scope) (k : Found ℕ) (b : tree.Bounds) (fs : List Refusal) → Told k fs → Told (within_mark c k b) (fs ++ within_mark_faults c k b)
within_told c (Is k) b fs h =
    first_as (found_fault (within_mark c (Is k) b)) (found_fault (within_mark c (Is k) b)) (fs ++ index_range_faults c k (tree.range b.low (tree.an_expr b.high))) refl
    (first_after (found_fault (within_mark c (Is k) b)) fs (index_range_faults c k (tree.range b.low (tree.an_expr b.high))) h
    (told_with (λ v. record { subtype = k; bounds = Some v }) (index_range c k (tree.range b.low (tree.an_expr b.high))) (index_range_faults c k (tree.range b.low (tree.an_expr b.high)))
    (index_range_told c k (tree.range b.low (tree.an_expr b.high)))))
within_told c Unknown b fs h =
    told_both (λ x y. x) no_indexes (both (λ l u. l) (heard (seen c want.Free b.low)) (heard (seen c want.Free b.high))) fs (faults c want.Free b.low ++ faults c want.Free b.high)
    h (both_heard (λ l u. l) c want.Free b.low b.high)
within_told c (Refused f) b fs h =
    told_both (λ x y. x) (refused_indexes f) (both (λ l u. l) (heard (seen c want.Free b.low)) (heard (seen c want.Free b.high))) fs (faults c want.Free b.low ++ faults c want.Free b.high)
    h (both_heard (λ l u. l) c want.Free b.low b.high)

pub indexes_by_told : (c : Scope) (e : tree.Expr) (f : tree.IndexForm) → Told (indexes_by c e f) (indexes_by_faults c e f)
indexes_by_told c e tree.alone = of_range_told c (tree.range e tree.no_expr)
indexes_by_told c e (tree.up_to h) = of_range_told c (tree.range e (tree.an_expr h))
indexes_by_told c e tree.unconstrained =
    told_with (λ k. record { subtype = k; bounds = None }) (discrete_subtype c e) (discrete_subtype_faults c e) (discrete_told c e)
indexes_by_told c e (tree.constrained b) = within_told c (discrete_subtype c e) b (discrete_subtype_faults c e) (discrete_told c e)

pub indexes_told : (c : Scope) (i : tree.Index) → Told (indexes c i) (indexes_faults c i)
indexes_told c i = indexes_by_told c i.first i.form

-- ---- lists

-- one part more
pub told_added : {A : Type 0} → (done : Found (List A)) (a : Found A) (fs gs : List Refusal) → Told done fs → Told a gs → Told (added done a) (fs ++ gs)
told_added done a fs gs h i = told_both (λ xs x. xs ++ (x ∷ [])) done a fs gs h i

groups_told : (c : Scope) (gs : List tree.Component) (done : Found (List Group)) (fs : List Refusal) → Told done fs → Told (all_onto done (map (group c) gs)) (fs ++ groups_faults c gs)
groups_told c [] done fs h = first_alone (found_fault done) fs h
groups_told c (g ∷ gs) done fs h =
    first_joined (found_fault (all_onto (added done (group c g)) (map (group c) gs))) fs (part_subtype_faults c g.subtype) (groups_faults c gs)
    (groups_told c gs (added done (group c g)) (fs ++ part_subtype_faults c g.subtype)
    (told_added done (group c g) fs (part_subtype_faults c g.subtype) h
    (told_with (λ n. record { names = g.names; subtype = n }) (part_subtype c g.subtype) (part_subtype_faults c g.subtype) (part_subtype_told c g.subtype))))

-- ---- definitions

pub definition_told : (c : Scope) (t : tree.TypeForm) → Told (definition c t) (definition_faults c t)
definition_told c (tree.signed b) = told_with (λ r. Integer discrete.Signed (signed_scalar r)) (signed c b) (signed_faults c b) (signed_told c b)
definition_told c (tree.modular e) =
    told_with (λ n. Integer discrete.Modular (modular_scalar n)) (part c want.Free e (modulus c.world (place_of c e))) (part_faults c want.Free e (modulus c.world (place_of c e)))
    (told_part c want.Free e (modulus c.world (place_of c e)) (modulus_hears c.world (place_of c e)))
definition_told c (tree.enumeration ns) = refl
definition_told c (tree.array_of i s) =
    told_both ArrayOf (indexes c i) (part_subtype c s) (indexes_faults c i) (part_subtype_faults c s) (indexes_told c i) (part_subtype_told c s)
definition_told c (tree.record_of gs) =
    told_with RecordOf (all_of (map (group c) gs)) (groups_faults c gs) (groups_told c gs (Is []) [] refl)
definition_told c (tree.derived s) =
    told_then (indicated c L20 s) (λ n. derived_of (name_place c s.name) (noted_subtype c.world n)) (indicated_faults c L20 s) (indicated_told c L20 s)

-- ---- objects

fit_refused : (w : World) (r : Code) (b : Bool) (k : ℕ) (p : Place) (t : Option ℕ) (f : Refusal) → found_fault (fit_as w r b k p t (seen'.Refused f)) ≡ Some f
fit_refused w r b k p None f = refl
fit_refused w r b k p (Some t) f = refl

fit_unknown : (w : World) (r : Code) (b : Bool) (k : ℕ) (p : Place) (t : Option ℕ) → found_fault (fit_as w r b k p t seen'.Unknown) ≡ None
fit_unknown w r b k p None = refl
fit_unknown w r b k p (Some t) = refl

pub fit_hears : (w : World) (r : Code) (b : Bool) (k : ℕ) (p : Place) → Hears (fit w r b k p)
fit_hears w r b k p = record { refused = λ f. fit_refused w r b k p (type_at w k) f; unknown = fit_unknown w r b k p (type_at w k) }

pub object_subtype_told : (c : Scope) (p : Place) (s : tree.SubInd) → Told (object_subtype c p s) (object_subtype_faults c p s)
object_subtype_told c p s = told_then (indicated c L27 s) (whole_of c.world L27 p) (indicated_faults c L27 s) (indicated_told c L27 s)

pub given_told : (c : Scope) (w : Want) (k : ℕ) (e : tree.Expr) → Told (given c w k e) (given_faults c w k e)
given_told c w k e = told_part c w e (fit c.world L8 true k (place_of c e)) (fit_hears c.world L8 true k (place_of c e))

pub initial_told : (c : Scope) (p : Place) (b : Bool) (w : Want) (k : ℕ) (e : Option tree.Expr) → Told (initial c p b w k e) (initial_faults c p b w k e)
initial_told c p true w k (Some e) = told_with Some (given c w k e) (given_faults c w k e) (given_told c w k e)
initial_told c p false w k (Some e) = told_with Some (given c w k e) (given_faults c w k e) (given_told c w k e)
initial_told c p true w k None = told_broken L27 p
initial_told c p false w k None = refl

named_hears : (w : World) (p : Place) → Hears (named_number w p)
named_hears w p = record { refused = λ f. refl; unknown = refl }

pub named_told : (c : Scope) (e : tree.Expr) → Told (part c want.Free e (named_number c.world (place_of c e))) (part_faults c want.Free e (named_number c.world (place_of c e)))
named_told c e = told_part c want.Free e (named_number c.world (place_of c e)) (named_hears c.world (place_of c e))

-- ---- profiles

pub marked_subtype_told : (c : Scope) (s : tree.SubInd) → Told (marked_subtype c s) (indicated_faults c L27 s ++ fault_after (indicated c L27 s) (marked_subtype c s))
marked_subtype_told c s = told_then (indicated c L27 s) (named_subtype (name_place c s.name)) (indicated_faults c L27 s) (indicated_told c L27 s)

pub formals_told : (c : Scope) (q : tree.Param) → Told (formals c q) (formals_faults c q)
formals_told c q =
    told_then (marked_subtype c q.subtype) (formals_of c.world (c.place q.span.from) q.names (mode_of q.mode))
    (indicated_faults c L27 q.subtype ++ fault_after (indicated c L27 q.subtype) (marked_subtype c q.subtype)) (marked_subtype_told c q.subtype)

params_told : (c : Scope) (qs : List tree.Param) (done : Found (List Formals)) (fs : List Refusal) → Told done fs → Told (all_onto done (map (formals c) qs)) (fs ++ params_faults c qs)
params_told c [] done fs h = first_alone (found_fault done) fs h
params_told c (q ∷ qs) done fs h =
    first_joined (found_fault (all_onto (added done (formals c q)) (map (formals c) qs))) fs (formals_faults c q) (params_faults c qs)
    (params_told c qs (added done (formals c q)) (fs ++ formals_faults c q) (told_added done (formals c q) fs (formals_faults c q) h (formals_told c q)))

pub result_told : (c : Scope) (n : Option tree.Name) → Told (result_subtype c n) (result_faults c n)
result_told c None = refl
result_told c (Some n) =
    told_with Some (marked_subtype c (result_mark c n)) (indicated_faults c L27 (result_mark c n) ++ fault_after (indicated c L27 (result_mark c n)) (marked_subtype c (result_mark c n)))
    (marked_subtype_told c (result_mark c n))

pub profile_told : (c : Scope) (h : tree.Heading) → Told (profile c h) (profile_faults c h)
profile_told c h =
    told_both (λ fs r. record { formals = fs; result = r }) (all_of (map (formals c) h.params)) (result_subtype c h.result) (params_faults c h.params) (result_faults c h.result)
    (params_told c h.params (Is []) [] refl) (result_told c h.result)
