-- What stands in a sound world, and what is known of values of it.
use Rattle.std.proofs.Common.{◌≡◌, refl, sym, ap, subst, ℕ, zero, suc, ℤ, arith, Bool, true, false, true≢false, ◌==◌, List, [], ◌∷◌, take, drop, Option, Some, None, is_some}
use Rattle.std.specs.Prelude.{if◌then◌else◌}
use Rattle.ada_values.specs.Scalars.{in_base}
use Rattle.ada_values.specs.declared.place.Place.{Place}
use Rattle.ada_values.specs.declared.values.Value.TheVariants as value
use Rattle.front_codes.specs.declared.codes.Code.{Code}
use Rattle.front_codes.specs.declared.codes.Code.TheVariants as code
use Rattle.front_codes.specs.declared.codes.Refusal.{Refusal}
use Rattle.typed_units.specs.declared.expressions.Expr.{Expr}
use Rattle.typed_units.specs.declared.expressions.ExprNode.{ExprNode}
use Rattle.typed_units.specs.declared.expressions.ExprNode.TheVariants as node
use Rattle.type_base.specs.Scope.{Scope}
use Rattle.type_base.specs.declared.seen.Seen.{Seen}
use Rattle.type_base.specs.declared.seen.Seen.TheVariants as seen
use Rattle.type_base.specs.declared.world.Component.{Component}
use Rattle.type_base.specs.declared.world.Discrete.TheVariants as discrete
use Rattle.type_base.specs.declared.world.Form.{Form}
use Rattle.type_base.specs.declared.world.Form.TheVariants as form
use Rattle.type_base.specs.declared.world.Formal.{Formal}
use Rattle.type_base.specs.declared.world.Subtype.{Subtype}
use Rattle.type_base.specs.declared.world.World.{World}
use Rattle.type_base.specs.Demands.{is_whole, made, number_as, placed_number, refused, subtype_of}
use Rattle.type_base.specs.Lookups.{form_at, form_in, subtype_at, type_at, type_in}
use Rattle.type_base.specs.Standard.{boolean, integer_base}
use Rattle.expression_rules.specs.Known.{IsKnown, SameSort, Stands}
use Rattle.typing_rules.specs.declared.prefix.Found.{Found}
use Rattle.typing_rules.specs.declared.prefix.Found.TheVariants as found
use Rattle.typing_rules.specs.Fits.{both, found_then, seen_then, spoiled, with_found}
use Rattle.typing_rules.specs.Lookups.{Array, array_at, array_in, components_at, number_or, record_in, seen_as, seen_by, type_of}
use Rattle.typing_rules.specs.Names.{of_type, of_type_by, typed_as}
use Rattle.typing_rules.specs.Ranges.{found_expr}
use Rattle.typing_rules.proofs.Opened.{subtype_made}
use Rattle.typing_laws.specs.Declared.{ComponentsThere, FormalsThere, IsSound, IsThere, PartsThere}

pub no_some : {A : Type 0} → {B : Type 0} → (a : A) → None ≡ Some a → B
no_some a e = absurd (true≢false (sym (ap is_some e)))

-- ---- subtypes

there_by : (w : World) (k : ℕ) (f : Form) (m : Option Subtype) → subtype_at w k ≡ m → form_in m ≡ Some f → IsThere w k
there_by w k f None e h = no_some f h
there_by w k f (Some s) e h = record { subtype = s; is = e }

pub form_there : (w : World) (k : ℕ) (f : Form) → form_at w k ≡ Some f → IsThere w k
form_there w k f h = there_by w k f (subtype_at w k) refl h

pub stands_there : (w : World) (t k : ℕ) → Stands w t k → IsThere w k
stands_there w t k h = form_there w k h.form h.is

pub type_stands : (w : World) (t k : ℕ) → Stands w t k → IsThere w t
type_stands w t k h = form_there w t h.type h.type_is

same_sort : (f : Form) → SameSort f f
same_sort (form.Number d s) = tt
same_sort form.Truth = tt
same_sort (form.Array i b t) = tt
same_sort (form.Record i n) = tt

pub there_stands : (w : World) (k : ℕ) → IsSound w → (h : IsThere w k) → Stands w h.subtype.of k
there_stands w k sound h =
    let z = sound.subtypes k h.subtype h.is in
    record { form = h.subtype.form; is = ap form_in h.is; type = z.type.subtype.form; type_is = ap form_in z.type.is; sort = z.sort }

pub itself : (w : World) (t : ℕ) → IsThere w t → Stands w t t
itself w t h = record { form = h.subtype.form; is = ap form_in h.is; type = h.subtype.form; type_is = ap form_in h.is; sort = same_sort h.subtype.form }

pub boolean_there : (w : World) → IsSound w → IsThere w boolean
boolean_there w sound = form_there w boolean form.Truth sound.standard.truth

pub integer_there : (w : World) → IsSound w → IsThere w integer_base
integer_there w sound = let s = sound.standard in there_by w integer_base (form.Number discrete.Signed s.integer) (subtype_at w integer_base) refl s.integer_is

pub type_is : (w : World) (k : ℕ) (h : IsThere w k) → type_at w k ≡ Some h.subtype.of
type_is w k h = ap type_in h.is

pub type_of_is : (w : World) (k : ℕ) (h : IsThere w k) → type_of w k ≡ h.subtype.of
type_of_is w k h = ap (λ (m : Option Subtype). number_or (type_in m)) h.is

pub of_there : (w : World) (k : ℕ) → IsSound w → (h : IsThere w k) → IsThere w h.subtype.of
of_there w k sound h = (sound.subtypes k h.subtype h.is).type

pub type_there : (w : World) (k : ℕ) → IsSound w → IsThere w k → IsThere w (type_of w k)
type_there w k sound h = subst (λ (j : ℕ). IsThere w j) (sym (type_of_is w k h)) (of_there w k sound h)

-- a type that a subtype or an expression tells
abbrev pub KindThere : World → Option ℕ → Type 0
KindThere w None = Unit {0}
KindThere w (Some t) = IsThere w t

kind_by : (w : World) (k : ℕ) → IsSound w → (m : Option Subtype) → subtype_at w k ≡ m → KindThere w (type_in m)
kind_by w k sound None e = tt
kind_by w k sound (Some s) e = (sound.subtypes k s e).type

pub kind_there : (w : World) (k : ℕ) → IsSound w → KindThere w (type_at w k)
kind_there w k sound = kind_by w k sound (subtype_at w k) refl

-- ---- arrays and records

abbrev pub ArrayThere : World → Option Array → Type 0
ArrayThere w None = Unit {0}
ArrayThere w (Some a) = IsThere w a.index × IsThere w a.item

array_form : (w : World) (f : Form) → PartsThere w f → ArrayThere w (array_in (Some f))
array_form w (form.Array i b t) h = h
array_form w (form.Number d s) h = tt
array_form w form.Truth h = tt
array_form w (form.Record i n) h = tt

array_by : (w : World) (k : ℕ) → IsSound w → (m : Option Subtype) → subtype_at w k ≡ m → ArrayThere w (array_in (form_in m))
array_by w k sound None e = tt
array_by w k sound (Some s) e = array_form w s.form (sound.subtypes k s e).parts

pub array_there : (w : World) (k : ℕ) → IsSound w → ArrayThere w (array_at w k)
array_there w k sound = array_by w k sound (subtype_at w k) refl

dropped_there : (w : World) (n : ℕ) (cs : List Component) → ComponentsThere w cs → ComponentsThere w (drop n cs)
dropped_there w zero cs h = h
dropped_there w (suc n) [] h = tt
dropped_there w (suc n) (c ∷ cs) h = dropped_there w n cs h.1

taken_there : (w : World) (n : ℕ) (cs : List Component) → ComponentsThere w cs → ComponentsThere w (take n cs)
taken_there w zero cs h = tt
taken_there w (suc n) [] h = tt
taken_there w (suc n) (c ∷ cs) h = (h.0, taken_there w n cs h.1)

formals_dropped : (w : World) (n : ℕ) (fs : List Formal) → FormalsThere w fs → FormalsThere w (drop n fs)
formals_dropped w zero fs h = h
formals_dropped w (suc n) [] h = tt
formals_dropped w (suc n) (f ∷ fs) h = formals_dropped w n fs h.1

formals_taken : (w : World) (n : ℕ) (fs : List Formal) → FormalsThere w fs → FormalsThere w (take n fs)
formals_taken w zero fs h = tt
formals_taken w (suc n) [] h = tt
formals_taken w (suc n) (f ∷ fs) h = (h.0, formals_taken w n fs h.1)

pub formals_there : (w : World) (first count : ℕ) → IsSound w → FormalsThere w (take count (drop first w.formals))
formals_there w first count sound = formals_taken w count (drop first w.formals) (formals_dropped w first w.formals sound.formals)

abbrev pub RecordThere : World → Option (List Component) → Type 0
RecordThere w None = Unit {0}
RecordThere w (Some cs) = ComponentsThere w cs

record_form : (w : World) → IsSound w → (m : Option Form) → RecordThere w (record_in w m)
record_form w sound None = tt
record_form w sound (Some (form.Record f n)) = taken_there w n (drop f w.components) (dropped_there w f w.components sound.components)
record_form w sound (Some (form.Number d s)) = tt
record_form w sound (Some form.Truth) = tt
record_form w sound (Some (form.Array i b t)) = tt

pub record_there : (w : World) (k : ℕ) → IsSound w → RecordThere w (components_at w k)
record_there w k sound = record_form w sound (form_at w k)

-- ---- expressions

pub made_stands : (w : World) (t k : ℕ) (p : Place) (n : ExprNode Expr) → Stands w t k → Stands w t (subtype_of (made p k n))
made_stands w t k p n h = subst (λ (j : ℕ). Stands w t j) (sym (subtype_made (record { place = p; subtype = k; node = n }))) h

pub seen_as_known : (c : Scope) (p : Place) (k : ℕ) (n : ExprNode Expr) → IsSound c.world → IsThere c.world k → IsKnown c.world (seen_as c p k n)
seen_as_known c p k n sound h =
    subst (λ (m : Option Subtype). IsKnown c.world (seen_by p k n (type_in m))) (sym h.is) (made_stands c.world h.subtype.of k p n (there_stands c.world k sound h))

pub either_known : (w : World) (b : Bool) (x y : Seen) → IsKnown w x → IsKnown w y → IsKnown w (if b then x else y)
either_known w true x y h i = h
either_known w false x y h i = i

-- refused, or of a type
abbrev pub IsPlaced : World → Seen → Type 0
IsPlaced w (seen.Refused f) = Unit {0}
IsPlaced w seen.Unknown = ⊥
IsPlaced w (seen.Number n) = ⊥
IsPlaced w (seen.Typed t x) = Stands w t (subtype_of x)

pub placed_known : (w : World) (s : Seen) → IsPlaced w s → IsKnown w s
placed_known w (seen.Refused f) h = tt
placed_known w seen.Unknown h = absurd h
placed_known w (seen.Number n) h = absurd h
placed_known w (seen.Typed t x) h = h

number_if : (w : World) (t : ℕ) (p q : Place) (r : Code) (n : ExprNode Expr) (a b : Bool) → Stands w t t → IsPlaced w (if a then (if b then seen.Typed t (made p t n) else refused code.L29 p) else refused r q)
number_if w t p q r n true true h = made_stands w t t p n h
number_if w t p q r n true false h = tt
number_if w t p q r n false b h = tt

number_form : (w : World) (r : Code) (q p : Place) (t : ℕ) (n : ℤ) (f : Form) → Stands w t t → IsPlaced w (number_as r q p t n (Some f))
number_form w r q p t n (form.Number d s) h = number_if w t p q r (node.Static (value.Int n)) (is_whole d) (in_base s n) h
number_form w r q p t n form.Truth h = tt
number_form w r q p t n (form.Array i b k) h = tt
number_form w r q p t n (form.Record i k) h = tt

pub number_placed : (w : World) (r : Code) (q p : Place) (t : ℕ) (n : ℤ) → IsThere w t → IsPlaced w (placed_number w r q p t n)
number_placed w r q p t n h =
    subst (λ (m : Option Subtype). IsPlaced w (number_as r q p t n (form_in m))) (sym h.is) (number_form w r q p t n h.subtype.form (itself w t h))

same_number : (t u : ℕ) → (t == u) ≡ true → t ≡ u
same_number t u e = grind arith

typed_if : (w : World) (r : Code) (q : Place) (t u : ℕ) (x : Expr) → Stands w u (subtype_of x) → (b : Bool) → (t == u) ≡ b → IsPlaced w (if b then seen.Typed t x else refused r q)
typed_if w r q t u x h true e = subst (λ (j : ℕ). Stands w j (subtype_of x)) (sym (same_number t u e)) h
typed_if w r q t u x h false e = tt

pub typed_placed : (c : Scope) (r : Code) (t : ℕ) (q : Place) (s : Seen) → IsThere c.world t → IsKnown c.world s → IsPlaced c.world (typed_as c r t q s)
typed_placed c r t q (seen.Refused f) h i = tt
typed_placed c r t q seen.Unknown h i = absurd i
typed_placed c r t q (seen.Number n) h i = number_placed c.world r q q t n h
typed_placed c r t q (seen.Typed u x) h i = typed_if c.world r q t u x i (t == u) refl

of_placed_by : (c : Scope) (r : Code) (t : ℕ) (q : Place) (s : Seen) → IsThere c.world t → IsKnown c.world s → IsPlaced c.world (of_type_by c r (Some t) q s)
of_placed_by c r t q s h i = typed_placed c r t q s h i

pub of_placed : (c : Scope) (r : Code) (k : ℕ) (q : Place) (s : Seen) → IsSound c.world → IsThere c.world k → IsKnown c.world s → IsPlaced c.world (of_type c r k q s)
of_placed c r k q s sound h i =
    subst (λ (m : Option Subtype). IsPlaced c.world (of_type_by c r (type_in m) q s)) (sym h.is) (of_placed_by c r h.subtype.of q s (of_there c.world k sound h) i)

-- ---- what is found

abbrev pub IsFound : {A : Type 0} → Found A → Type 0
IsFound (found.Refused f) = Unit {0}
IsFound found.Unknown = ⊥
IsFound (found.Is a) = Unit {0}

pub both_found : {A : Type 0} → {B : Type 0} → {C : Type 0} → (f : A → B → C) (a : Found A) (b : Found B) → IsFound a → IsFound b → IsFound (both f a b)
both_found f (found.Refused g) (found.Refused k) h i = tt
both_found f (found.Refused g) found.Unknown h i = tt
both_found f (found.Refused g) (found.Is b) h i = tt
both_found f found.Unknown b h i = absurd h
both_found f (found.Is a) (found.Refused k) h i = tt
both_found f (found.Is a) found.Unknown h i = absurd i
both_found f (found.Is a) (found.Is b) h i = tt

pub with_found_found : {A : Type 0} → {B : Type 0} → (f : A → B) (a : Found A) → IsFound a → IsFound (with_found f a)
with_found_found f (found.Refused g) h = tt
with_found_found f found.Unknown h = absurd h
with_found_found f (found.Is a) h = tt

pub spoiled_found : {A : Type 0} → (a : Found A) (f : Refusal) → IsFound (spoiled a f)
spoiled_found (found.Refused g) f = tt
spoiled_found found.Unknown f = tt
spoiled_found (found.Is a) f = tt

pub found_if : {A : Type 0} → (b : Bool) (x y : Found A) → IsFound x → IsFound y → IsFound (if b then x else y)
found_if true x y h i = h
found_if false x y h i = i

pub then_found : {A : Type 0} → {B : Type 0} → (x : Found A) (f : A → Found B) → IsFound x → ((a : A) → IsFound (f a)) → IsFound (found_then x f)
then_found (found.Refused g) f h i = tt
then_found found.Unknown f h i = absurd h
then_found (found.Is a) f h i = i a

pub then_known : {A : Type 0} → (w : World) (x : Found A) (f : A → Seen) → IsFound x → ((a : A) → IsKnown w (f a)) → IsKnown w (seen_then x f)
then_known w (found.Refused g) f h i = tt
then_known w found.Unknown f h i = absurd h
then_known w (found.Is a) f h i = i a

pub expr_found : (w : World) (s : Seen) → IsPlaced w s → IsFound (found_expr s)
expr_found w (seen.Refused f) h = tt
expr_found w seen.Unknown h = absurd h
expr_found w (seen.Number n) h = absurd h
expr_found w (seen.Typed t x) h = tt
