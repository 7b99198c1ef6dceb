-- What is found of several parts, and values that are to be of a subtype. -- Ada RM 4.6, 5.2, 6.4.1
use Rattle.std.specs.Prelude.{ℕ, Bool, true, false, not, ◌&&◌, ◌==◌, Option, Some, None, if◌then◌else◌}
use Rattle.std.specs.Ordering.{int_eq}
use Rattle.ada_values.specs.declared.place.Place.{Place}
use Rattle.front_codes.specs.Codes.{first_of_two}
use Rattle.front_codes.specs.declared.codes.Code.{Code}
use Rattle.front_codes.specs.declared.codes.Refusal.{Refusal}
use Rattle.typed_units.specs.declared.expressions.Expr.{Expr}
use Rattle.typed_units.specs.declared.expressions.Fitted.{Fitted}
use Rattle.typed_units.specs.declared.operators.Bounds.{Bounds}
use Rattle.type_base.specs.declared.seen.Seen.{Seen}
use Rattle.type_base.specs.declared.seen.Seen.TheVariants as seen
use Rattle.type_base.specs.declared.world.Form.{Form}
use Rattle.type_base.specs.declared.world.Form.TheVariants as form
use Rattle.type_base.specs.declared.world.World.{World}
use Rattle.type_base.specs.Demands.{broken, fitted, placed_number, subtype_of}
use Rattle.type_base.specs.Lookups.{form_at, type_at}
use Rattle.typing_rules.specs.declared.prefix.Found.{Found}
use Rattle.typing_rules.specs.declared.prefix.Found.TheVariants.{Refused, Unknown, Is}

-- ---- what is found

-- a refusal wins over all, and of two the first; what is unknown wins over what is found

abbrev pub with_refused : {A : Type 0} → {B : Type 0} → Refusal → Found A → Found B
with_refused f (Refused g) = Refused (first_of_two f g)
with_refused f Unknown = Refused f
with_refused f (Is a) = Refused f

abbrev pub with_unknown : {A : Type 0} → {B : Type 0} → Found A → Found B
with_unknown (Refused g) = Refused g
with_unknown Unknown = Unknown
with_unknown (Is a) = Unknown

abbrev pub with_found : {A : Type 0} → {B : Type 0} → (A → B) → Found A → Found B
with_found f (Refused g) = Refused g
with_found f Unknown = Unknown
with_found f (Is a) = Is (f a)

abbrev pub both : {A : Type 0} → {B : Type 0} → {C : Type 0} → (A → B → C) → Found A → Found B → Found C
both f (Refused g) b = with_refused g b
both f Unknown b = with_unknown b
both f (Is a) b = with_found (f a) b

abbrev pub found_fault : {A : Type 0} → Found A → Option Refusal
found_fault (Refused f) = Some f
found_fault Unknown = None
found_fault (Is a) = None

-- what is found beside a refusal
abbrev pub spoiled : {A : Type 0} → Found A → Refusal → Found A
spoiled a f = with_refused f a

abbrev pub found_then : {A : Type 0} → {B : Type 0} → Found A → (A → Found B) → Found B
found_then (Refused g) f = Refused g
found_then Unknown f = Unknown
found_then (Is a) f = f a

abbrev pub seen_then : {A : Type 0} → Found A → (A → Seen) → Seen
seen_then (Refused g) f = seen.Refused g
seen_then Unknown f = seen.Unknown
seen_then (Is a) f = f a

-- a refusal beside what else is seen
abbrev pub refused_beside : Refusal → Seen → Seen
refused_beside f (seen.Refused g) = seen.Refused (first_of_two f g)
refused_beside f _ = seen.Refused f

-- ---- arrays

abbrev pub same_bounds : Option Bounds → Option Bounds → Bool
same_bounds (Some a) (Some b) = int_eq a.first b.first && int_eq a.last b.last
same_bounds None None = true
same_bounds _ _ = false

abbrev pub agrees : Bool → Option Form → Option Form → Bool
agrees whole (Some (form.Array i None t)) f = not whole
agrees whole (Some (form.Array i (Some a) t)) (Some (form.Array j b u)) = same_bounds (Some a) b
agrees whole (Some (form.Array i (Some a) t)) _ = false
agrees whole _ f = true

-- Of two subtypes of one type, a value of the latter may be taken for the former: arrays of the same bounds, and also any for
-- an unconstrained one, but for assignments. -- L8, L11, L13, L18
abbrev pub takes : World → Bool → ℕ → ℕ → Bool
takes w whole k j = agrees whole (form_at w k) (form_at w j)

-- ---- values

abbrev pub fit_typed : World → Code → Bool → ℕ → Place → ℕ → Expr → Option ℕ → Found (Fitted Expr)
fit_typed w r whole k q t x None = Unknown
fit_typed w r whole k q t x (Some u) = if (t == u) && takes w whole k (subtype_of x) then Is (fitted w k x) else Refused (broken r q)

abbrev pub fit_placed : World → ℕ → Seen → Found (Fitted Expr)
fit_placed w k (seen.Refused f) = Refused f
fit_placed w k (seen.Typed t x) = Is (fitted w k x)
fit_placed w k _ = Unknown

abbrev pub fit_as : World → Code → Bool → ℕ → Place → Option ℕ → Seen → Found (Fitted Expr)
fit_as w r whole k q t (seen.Refused f) = Refused f
fit_as w r whole k q t seen.Unknown = Unknown
fit_as w r whole k q None (seen.Number n) = Unknown
fit_as w r whole k q (Some t) (seen.Number n) = fit_placed w k (placed_number w r q q t n)
fit_as w r whole k q t (seen.Typed u x) = fit_typed w r whole k q u x t

-- a value at q that by a rule is to be of subtype k; `whole` for an assignment, where arrays are of one constrained subtype
abbrev pub fit : World → Code → Bool → ℕ → Place → Seen → Found (Fitted Expr)
fit w r whole k q s = fit_as w r whole k q (type_at w k) s
