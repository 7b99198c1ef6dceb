-- What is found of a subtype indication or of a type's definition has a sound modulus, where the subtypes of the world have.
use Rattle.std.proofs.Common.{◌≡◌, refl, sym, subst, Bool, true, false, ℕ, ℤ, pos, ◌≤ℤ◌, Option, Some, None, List, [], ◌∷◌, ◌++◌, map, arith}
use Rattle.std.specs.List.{All, slice_get}
use Rattle.std.specs.Option.{IfSome}
use Rattle.std.specs.Prelude.{int_le}
use Rattle.std.proofs.lemmas.Bool.{and_parts}
use Rattle.std.proofs.lemmas.Int.{ints}
use Rattle.std.proofs.lemmas.List.Elements.{All-nil, All-push, All-get_or}
use Rattle.std.proofs.lemmas.Option.{slice_get_within, get_or_from_slice_get}
use Rattle.ada_text.specs.declared.token.Span.{Span}
use Rattle.ada_values.specs.declared.place.Place.{Place}
use Rattle.ada_values.specs.Scalars.{IsModulus, within}
use Rattle.front_codes.specs.declared.codes.Code.{Code}
use Rattle.front_codes.specs.declared.codes.Code.TheVariants.{L20, L26, L27}
use Rattle.syntax_view.specs.Trees as tree
use Rattle.type_base.specs.declared.entities.Entity.{Entity}
use Rattle.type_base.specs.declared.entities.Entity.TheVariants as entity
use Rattle.type_base.specs.declared.seen.Want.TheVariants as want
use Rattle.type_base.specs.declared.world.Discrete.TheVariants as discrete
use Rattle.type_base.specs.declared.world.Form.{Form}
use Rattle.type_base.specs.declared.world.Form.TheVariants as form
use Rattle.type_base.specs.declared.world.Subtype.{Subtype}
use Rattle.type_base.specs.declared.world.World.{World}
use Rattle.type_base.specs.Lookups.{subtype_at}
use Rattle.type_base.specs.Moduli.{HasModulus, HasModulusIn}
use Rattle.type_base.specs.Scope.{Scope}
use Rattle.typing_rules.specs.declared.prefix.Found.{Found}
use Rattle.typing_rules.specs.declared.prefix.Found.TheVariants.{Refused, Unknown, Is}
use Rattle.typing_rules.specs.Fits.{both, found_then, with_found}
use Rattle.typing_rules.specs.Reading.{seen}
use Rattle.statement_typing.specs.declared.parts.Definition.{Definition}
use Rattle.statement_typing.specs.declared.parts.Definition.TheVariants.{ArrayOf, Integer, RecordOf}
use Rattle.statement_typing.specs.declared.parts.Noted.{Noted}
use Rattle.statement_typing.specs.declared.parts.Noted.TheVariants.{Known, New}
use Rattle.statement_typing.specs.Asked.{place_of, range_seen}
use Rattle.statement_typing.specs.Checks.{added, all_of, all_onto, and_also, refuse, unless}
use Rattle.statement_typing.specs.Objects.{object_subtype}
use Rattle.statement_typing.specs.Subtypes.{Constraint, free, to_range, to_index, other, Mark, mark, constrained, constraint_of, index_range, indicated, indication, integer_number, is_constrained, loose, mark_of, marked, name_place, no_index, noted_form, noted_subtype, part, part_subtype, range_in, unsupported, whole_of, with_index, with_range}
use Rattle.statement_typing.specs.Types.{definition, derived_form, derived_of, group, indexes, modular_scalar, modulus, signed, signed_scalar}
use Rattle.sound_subtypes.specs.Sound.{IfIs, IsSound, IsSoundDefinition, IsSoundGroup}

-- ---- what is found of several parts

found_then_keeps : {A : Type 0} {B : Type 0} (P : A → Type 0) (Q : B → Type 0) (a : Found A) (f : A → Found B) → IfIs P a → ((x : A) → P x → IfIs Q (f x)) → IfIs Q (found_then a f)
found_then_keeps P Q (Refused g) f h k = tt
found_then_keeps P Q Unknown f h k = tt
found_then_keeps P Q (Is a) f h k = k a h

with_found_has : {A : Type 0} {B : Type 0} (P : A → Type 0) (Q : B → Type 0) (f : A → B) (a : Found A) → IfIs P a → ((x : A) → P x → Q (f x)) → IfIs Q (with_found f a)
with_found_has P Q f (Refused g) h k = tt
with_found_has P Q f Unknown h k = tt
with_found_has P Q f (Is a) h k = k a h

abbrev Any : {A : Type 0} → A → Type 0
Any a = Unit {0}

anything : {A : Type 0} (a : Found A) → IfIs Any a
anything (Refused g) = tt
anything Unknown = tt
anything (Is a) = tt

with_found_is : {A : Type 0} {B : Type 0} (Q : B → Type 0) (f : A → B) (a : Found A) → ((x : A) → Q (f x)) → IfIs Q (with_found f a)
with_found_is Q f a k = with_found_has Any Q f a (anything a) (λ x h. k x)

both_has : {A : Type 0} {B : Type 0} {C : Type 0} (P : A → Type 0) (Q : B → Type 0) (R : C → Type 0) (f : A → B → C) (a : Found A) (b : Found B) → IfIs P a → IfIs Q b → ((x : A) (y : B) → P x → Q y → R (f x y)) → IfIs R (both f a b)
both_has P Q R f (Refused g) (Refused k) h i m = tt
both_has P Q R f (Refused g) Unknown h i m = tt
both_has P Q R f (Refused g) (Is y) h i m = tt
both_has P Q R f Unknown (Refused k) h i m = tt
both_has P Q R f Unknown Unknown h i m = tt
both_has P Q R f Unknown (Is y) h i m = tt
both_has P Q R f (Is x) (Refused k) h i m = tt
both_has P Q R f (Is x) Unknown h i m = tt
both_has P Q R f (Is x) (Is y) h i m = m x y h i

and_also_keeps : {A : Type 0} {B : Type 0} (P : A → Type 0) (a : Found A) (b : Found B) → IfIs P a → IfIs P (and_also a b)
and_also_keeps P a b h = both_has P Any P (λ x y. x) a b h (anything b) (λ x y p q. p)

unless_keeps : {A : Type 0} (P : A → Type 0) (b : Bool) (r : Code) (p : Place) (a : A) → P a → IfIs P (unless b r p a)
unless_keeps P true r p a h = h
unless_keeps P false r p a h = tt

unless_has : {A : Type 0} (P : A → Type 0) (b : Bool) (r : Code) (p : Place) (a : A) → (b ≡ true → P a) → IfIs P (unless b r p a)
unless_has P true r p a h = h refl
unless_has P false r p a h = tt

-- ---- lists

all_at : {A : Type 0} (P : A → Type 0) (xs : List A) (k : ℕ) (o : Option A) → slice_get xs k ≡ o → All P xs → IfSome o P
all_at P xs k None e h = tt
all_at P xs k (Some x) e h = subst P (get_or_from_slice_get xs k x x e) (All-get_or P xs k x (slice_get_within xs k x e) h)

added_has : {A : Type 0} (P : A → Type 0) (done : Found (List A)) (a : Found A) → IfIs (All P) done → IfIs P a → IfIs (All P) (added done a)
added_has P done a h i = both_has (All P) P (All P) (λ xs x. xs ++ (x ∷ [])) done a h i (λ xs x p q. All-push P xs x p q)

all_onto_has : {A : Type 0} {B : Type 0} (P : A → Type 0) (f : B → Found A) → ((b : B) → IfIs P (f b)) → (bs : List B) (done : Found (List A)) → IfIs (All P) done → IfIs (All P) (all_onto done (map f bs))
all_onto_has P f h [] done i = i
all_onto_has P f h (b ∷ bs) done i = all_onto_has P f h bs (added done (f b)) (added_has P done (f b) i (h b))

-- ---- subtype indications

range_is_sound : (c : Scope) (of : ℕ) (f : Form) (b : tree.Bounds) → HasModulusIn f → IfIs IsSound (with_range c (record { of = of; form = f }) b)
range_is_sound c of (form.Number d x) b h = with_found_is IsSound (λ r. New (record { of = of; form = form.Number d (record x { lo = r.first; hi = r.last }) })) (range_in c of x b) (λ r. h)
range_is_sound c of form.Truth b h = and_also_keeps IsSound (refuse L20 (place_of c b.low)) (loose c (Some b)) tt
range_is_sound c of (form.Array i a t) b h = and_also_keeps IsSound (refuse L20 (place_of c b.low)) (loose c (Some b)) tt
range_is_sound c of (form.Record m n) b h = and_also_keeps IsSound (refuse L20 (place_of c b.low)) (loose c (Some b)) tt

no_index_is_sound : (c : Scope) (a : Span) (r : tree.Range) → IfIs IsSound (no_index c a r)
no_index_is_sound c a r = and_also_keeps IsSound (refuse L20 (c.place a.from)) (range_seen c L20 want.Free r) tt

index_is_sound : (c : Scope) (of : ℕ) (f : Form) (a : Span) (r : tree.Range) → IfIs IsSound (with_index c (record { of = of; form = f }) a r)
index_is_sound c of (form.Number d x) a r = no_index_is_sound c a r
index_is_sound c of form.Truth a r = no_index_is_sound c a r
index_is_sound c of (form.Array i None t) a r = with_found_is IsSound (λ v. New (record { of = of; form = form.Array i (Some v) t })) (index_range c i r) (λ v. tt)
index_is_sound c of (form.Array i (Some v) t) a r = no_index_is_sound c a r
index_is_sound c of (form.Record m n) a r = no_index_is_sound c a r

constrained_is_sound : (c : Scope) (r : Code) (p : Place) (k : ℕ) (o : Option Subtype) (x : Constraint) → IfSome o HasModulus → IfIs IsSound (constrained c r p k o x)
constrained_is_sound c r p k None x h = tt
constrained_is_sound c r p k (Some s) free h = tt
constrained_is_sound c r p k (Some s) (to_range b) h = range_is_sound c s.of s.form b h
constrained_is_sound c r p k (Some s) (to_index a i) h = index_is_sound c s.of s.form a i
constrained_is_sound c r p k (Some s) other h = tt

indication_is_sound : (c : Scope) (r : Code) (p : Place) (e : Entity) (x : Constraint) → All HasModulus c.world.subtypes → IfIs IsSound (indication c r p e x)
indication_is_sound c r p (entity.Subtype k) x h = constrained_is_sound c r p k (subtype_at c.world k) x (all_at HasModulus c.world.subtypes k (subtype_at c.world k) refl h)
indication_is_sound c r p entity.Unknown x h = and_also_keeps IsSound Unknown (unsupported c x) tt
indication_is_sound c r p entity.Package x h = and_also_keeps IsSound (refuse r p) (unsupported c x) tt
indication_is_sound c r p (entity.Routine k) x h = and_also_keeps IsSound (refuse r p) (unsupported c x) tt
indication_is_sound c r p (entity.Number n) x h = and_also_keeps IsSound (refuse r p) (unsupported c x) tt
indication_is_sound c r p (entity.Literal k n) x h = and_also_keeps IsSound (refuse r p) (unsupported c x) tt
indication_is_sound c r p (entity.Static k n) x h = and_also_keeps IsSound (refuse r p) (unsupported c x) tt
indication_is_sound c r p (entity.Constant k n) x h = and_also_keeps IsSound (refuse r p) (unsupported c x) tt
indication_is_sound c r p (entity.Object k o a) x h = and_also_keeps IsSound (refuse r p) (unsupported c x) tt

marked_is_sound : (c : Scope) (r : Code) (s : tree.SubInd) (m : Mark) → All HasModulus c.world.subtypes → IfIs IsSound (marked c r s m)
marked_is_sound c r s (mark e rest) h = indication_is_sound c r (name_place c s.name) e (constraint_of rest s.bounds) h

pub indicated_is_sound : (c : Scope) (r : Code) (s : tree.SubInd) → All HasModulus c.world.subtypes → IfIs IsSound (indicated c r s)
indicated_is_sound c r s h = marked_is_sound c r s (mark_of c s.name) h

whole_is_sound : (w : World) (r : Code) (p : Place) (n : Noted) → IsSound n → IfIs IsSound (whole_of w r p n)
whole_is_sound w r p n h = unless_keeps IsSound (is_constrained (noted_form w n)) r p n h

pub part_subtype_is_sound : (c : Scope) (s : tree.SubInd) → All HasModulus c.world.subtypes → IfIs IsSound (part_subtype c s)
part_subtype_is_sound c s h =
    found_then_keeps IsSound IsSound (indicated c L26 s) (whole_of c.world L26 (name_place c s.name)) (indicated_is_sound c L26 s h) (whole_is_sound c.world L26 (name_place c s.name))

pub object_subtype_is_sound : (c : Scope) (p : Place) (s : tree.SubInd) → All HasModulus c.world.subtypes → IfIs IsSound (object_subtype c p s)
object_subtype_is_sound c p s h =
    found_then_keeps IsSound IsSound (indicated c L27 s) (whole_of c.world L27 p) (indicated_is_sound c L27 s h) (whole_is_sound c.world L27 p)

-- the subtype that an indication gives
pub noted_is_sound : (w : World) (n : Noted) → All HasModulus w.subtypes → IsSound n → IfSome (noted_subtype w n) HasModulus
noted_is_sound w (Known k) h i = all_at HasModulus w.subtypes k (subtype_at w k) refl h
noted_is_sound w (New s) h i = i

-- ---- definitions of types

abbrev IsModulusOf : ℤ → Type 0
IsModulusOf n = IsModulus (Some n)

at_most : (i j : ℤ) → int_le i j ≡ true → i ≤ℤ j
at_most i j h = grind (arith, ints)

at_most_more : (n : ℤ) → n ≤ℤ pos 4294967296 → n ≤ℤ pos 18446744073709551616
at_most_more n h = omega (arith, ints)

within_is_modulus : (n : ℤ) → within (pos 2) (pos 4294967296) n ≡ true → IsModulusOf n
within_is_modulus n h =
    let parts = and_parts (int_le (pos 2) n) (int_le n (pos 4294967296)) h in
    (at_most (pos 2) n parts.0, at_most_more n (at_most n (pos 4294967296) parts.1))

modulus_is_sound : (c : Scope) (e : tree.Expr) → IfIs IsModulusOf (part c want.Free e (modulus c.world (place_of c e)))
modulus_is_sound c e =
    found_then_keeps Any IsModulusOf (integer_number c.world (place_of c e) (seen c want.Free e)) (λ n. unless (within (pos 2) (pos 4294967296) n) L20 (place_of c e) n)
    (anything (integer_number c.world (place_of c e) (seen c want.Free e)))
    (λ n h. unless_has IsModulusOf (within (pos 2) (pos 4294967296) n) L20 (place_of c e) n (within_is_modulus n))

derived_form_is_sound : (p : Place) (f : Form) → HasModulusIn f → IfIs IsSoundDefinition (derived_form p f)
derived_form_is_sound p (form.Number k x) h = h
derived_form_is_sound p form.Truth h = tt
derived_form_is_sound p (form.Array i b t) h = tt
derived_form_is_sound p (form.Record m n) h = tt

derived_is_sound : (p : Place) (o : Option Subtype) → IfSome o HasModulus → IfIs IsSoundDefinition (derived_of p o)
derived_is_sound p None h = tt
derived_is_sound p (Some s) h = derived_form_is_sound p s.form h

group_is_sound : (c : Scope) → All HasModulus c.world.subtypes → (g : tree.Component) → IfIs IsSoundGroup (group c g)
group_is_sound c h g = with_found_has IsSound IsSoundGroup (λ n. record { names = g.names; subtype = n }) (part_subtype c g.subtype) (part_subtype_is_sound c g.subtype h) (λ n i. i)

pub definition_is_sound : (c : Scope) (t : tree.TypeForm) → All HasModulus c.world.subtypes → IfIs IsSoundDefinition (definition c t)
definition_is_sound c (tree.signed b) h = with_found_is IsSoundDefinition (λ r. Integer discrete.Signed (signed_scalar r)) (signed c b) (λ r. tt)
definition_is_sound c (tree.modular e) h =
    with_found_has IsModulusOf IsSoundDefinition (λ n. Integer discrete.Modular (modular_scalar n)) (part c want.Free e (modulus c.world (place_of c e))) (modulus_is_sound c e) (λ n i. i)
definition_is_sound c (tree.enumeration ns) h = tt
definition_is_sound c (tree.array_of i s) h =
    both_has Any IsSound IsSoundDefinition ArrayOf (indexes c i) (part_subtype c s) (anything (indexes c i)) (part_subtype_is_sound c s h) (λ x n p q. q)
definition_is_sound c (tree.record_of gs) h =
    with_found_has (All IsSoundGroup) IsSoundDefinition RecordOf (all_of (map (group c) gs)) (all_onto_has IsSoundGroup (group c) (group_is_sound c h) gs (Is []) (All-nil IsSoundGroup)) (λ xs i. i)
definition_is_sound c (tree.derived s) h =
    found_then_keeps IsSound IsSoundDefinition (indicated c L20 s) (λ n. derived_of (name_place c s.name) (noted_subtype c.world n)) (indicated_is_sound c L20 s h)
    (λ n i. derived_is_sound (name_place c s.name) (noted_subtype c.world n) (noted_is_sound c.world n h i))

-- ---- the same of what has been read

pub sound_indication : (f : Found Noted) (c : Scope) (r : Code) (s : tree.SubInd) → f ≡ indicated c r s → All HasModulus c.world.subtypes → IfIs IsSound f
sound_indication f c r s e h = subst (IfIs IsSound) (sym e) (indicated_is_sound c r s h)

pub sound_object : (f : Found Noted) (c : Scope) (p : Place) (s : tree.SubInd) → f ≡ object_subtype c p s → All HasModulus c.world.subtypes → IfIs IsSound f
sound_object f c p s e h = subst (IfIs IsSound) (sym e) (object_subtype_is_sound c p s h)

pub sound_definition : (f : Found Definition) (c : Scope) (t : tree.TypeForm) → f ≡ definition c t → All HasModulus c.world.subtypes → IfIs IsSoundDefinition f
sound_definition f c t e h = subst (IfIs IsSoundDefinition) (sym e) (definition_is_sound c t h)
