-- Calls whose arguments are known are known.
use Rattle.std.proofs.Common.{◌≡◌, refl, sym, ◌∙◌, subst, ℕ, zero, suc, ◌+◌, arith, Bool, true, false, ◌==◌, ◌||◌, ◌&&◌, List, [], ◌∷◌, ◌++◌, length, nat_lt, slice_get, Option, Some, None}
use Rattle.std.specs.Prelude.{if◌then◌else◌}
use Rattle.ada_values.specs.declared.place.Place.{Place}
use Rattle.front_codes.specs.declared.codes.Code.{Code}
use Rattle.front_codes.specs.declared.codes.Code.TheVariants as code
use Rattle.typed_units.specs.declared.expressions.Actual.{Actual}
use Rattle.typed_units.specs.declared.expressions.Actual.TheVariants as actual
use Rattle.typed_units.specs.declared.expressions.Argument.{Argument}
use Rattle.typed_units.specs.declared.expressions.Expr.{Expr}
use Rattle.typed_units.specs.declared.programs.Mode.{Mode}
use Rattle.typed_units.specs.declared.programs.Mode.TheVariants as mode
use Rattle.type_base.specs.Scope.{Scope}
use Rattle.type_base.specs.declared.seen.Seen.{Seen}
use Rattle.type_base.specs.declared.seen.Seen.TheVariants as seen
use Rattle.type_base.specs.declared.seen.Want.TheVariants as want
use Rattle.type_base.specs.declared.world.Formal.{Formal}
use Rattle.type_base.specs.declared.world.Subtype.{Subtype}
use Rattle.type_base.specs.declared.world.World.{World}
use Rattle.type_base.specs.Demands.{broken, fitted, placed_number, subtype_of}
use Rattle.type_base.specs.Lookups.{type_at, type_in}
use Rattle.expression_rules.specs.Known.{IsKnown}
use Rattle.typing_rules.specs.declared.prefix.Found.{Found}
use Rattle.typing_rules.specs.declared.prefix.Found.TheVariants as found
use Rattle.typing_rules.specs.declared.prefix.Part.{Part}
use Rattle.typing_rules.specs.declared.prefix.Prefix.{Prefix}
use Rattle.typing_rules.specs.declared.prefix.Prefix.TheVariants as prefix
use Rattle.typing_rules.specs.Calls.{actual_of, added, argument_by, argument_for, arguments, formal_by, formal_for, formal_named, given_by, is_among, is_named, next_formal, not_a_variable, operand_of, option_else, passed, passed_as, same_type, still_open, variable, writable}
use Rattle.typing_rules.specs.Fits.{fit, fit_as, fit_placed, found_then, spoiled, takes}
use Rattle.typing_rules.specs.Parts.{Arg, Choice, Operand, between, others, single}
use Rattle.typing_rules.specs.Values.{place_of, seen_of, value_of}
use Rattle.typing_laws.specs.Declared.{FormalsThere, IsSound, IsThere}
use Rattle.typing_laws.proofs.Standing.{IsFound, IsPlaced, both_found, found_if, number_placed, of_there, spoiled_found, then_found, with_found_found}
use Rattle.typing_laws.proofs.KnownParts.{ArgsKnown, ChoiceKnown, MaybeKnown, OperandKnown, PrefixKnown, from_here, from_nothing, moved_on, operand_known, value_known}

-- ---- values that are to be of a subtype

placed_fits : (w : World) (k : ℕ) (s : Seen) → IsPlaced w s → IsFound (fit_placed w k s)
placed_fits w k (seen.Refused f) h = tt
placed_fits w k seen.Unknown h = absurd h
placed_fits w k (seen.Number n) h = absurd h
placed_fits w k (seen.Typed t x) h = tt

fit_some : (w : World) (r : Code) (whole : Bool) (k : ℕ) (q : Place) (t : ℕ) (s : Seen) → IsThere w t → IsKnown w s → IsFound (fit_as w r whole k q (Some t) s)
fit_some w r whole k q t (seen.Refused f) h i = tt
fit_some w r whole k q t seen.Unknown h i = absurd i
fit_some w r whole k q t (seen.Number n) h i = placed_fits w k (placed_number w r q q t n) (number_placed w r q q t n h)
fit_some w r whole k q t (seen.Typed u x) h i = found_if ((u == t) && takes w whole k (subtype_of x)) (found.Is (fitted w k x)) (found.Refused (broken r q)) tt tt

pub fit_found : (w : World) (r : Code) (whole : Bool) (k : ℕ) (q : Place) (s : Seen) → IsSound w → IsThere w k → IsKnown w s → IsFound (fit w r whole k q s)
fit_found w r whole k q s sound h i =
    subst (λ (m : Option Subtype). IsFound (fit_as w r whole k q (type_in m) s)) (sym h.is) (fit_some w r whole k q h.subtype.of s (of_there w k sound h) i)

-- ---- what is passed

no_variable_found : (w : World) (r : Code) (q : Place) (s : Seen) → IsKnown w s → IsFound (not_a_variable r q s)
no_variable_found w r q (seen.Refused f) h = tt
no_variable_found w r q seen.Unknown h = absurd h
no_variable_found w r q (seen.Number n) h = tt
no_variable_found w r q (seen.Typed t x) h = tt

pub variable_found : (c : Scope) (r : Code) (q : Place) (f : Prefix) → IsSound c.world → PrefixKnown c.world f → IsFound (variable c r q f)
variable_found c r q (prefix.Part g) sound h = found_if (writable g.access) (found.Is g) (found.Refused (broken r q)) tt tt
variable_found c r q prefix.Package sound h = tt
variable_found c r q (prefix.Subtype k) sound h = tt
variable_found c r q (prefix.Routine n) sound h = no_variable_found c.world r q (value_of c q (prefix.Routine n)) (value_known c q (prefix.Routine n) sound h)
variable_found c r q (prefix.Called n as') sound h = no_variable_found c.world r q (value_of c q (prefix.Called n as')) (value_known c q (prefix.Called n as') sound h)
variable_found c r q (prefix.Mapping m t k) sound h = tt
variable_found c r q (prefix.Range b) sound h = tt
variable_found c r q (prefix.Constant t x) sound h = tt
variable_found c r q (prefix.Value s) sound h = no_variable_found c.world r q s h

passed_some : (c : Scope) (q : Place) (m : Mode) (k t : ℕ) (g : Part) → IsFound (passed_as c q m k (Some t) g)
passed_some c q m k t g =
    found_if (same_type (Some t) (type_at c.world g.subtype) && takes c.world false k g.subtype) (found.Is (passed c m k g)) (found.Refused (broken code.L11 q)) tt tt

passed_found : (c : Scope) (q : Place) (m : Mode) (k : ℕ) (g : Part) → IsThere c.world k → IsFound (passed_as c q m k (type_at c.world k) g)
passed_found c q m k g h = subst (λ (z : Option Subtype). IsFound (passed_as c q m k (type_in z) g)) (sym h.is) (passed_some c q m k h.subtype.of g)

taken_found : (c : Scope) (m : Mode) (k : ℕ) (o : Operand) → IsSound c.world → IsThere c.world k → OperandKnown c.world o
    → IsFound (found_then (variable c code.L11 (place_of c o) (o.prefix want.Free)) (passed_as c (place_of c o) m k (type_at c.world k)))
taken_found c m k o sound h i =
    then_found (variable c code.L11 (place_of c o) (o.prefix want.Free)) (passed_as c (place_of c o) m k (type_at c.world k)) (variable_found c code.L11 (place_of c o) (o.prefix want.Free) sound (i.prefix want.Free tt))
    (λ g. passed_found c (place_of c o) m k g h)

actual_found : (c : Scope) (m : Mode) (k : ℕ) (o : Operand) → IsSound c.world → IsThere c.world k → OperandKnown c.world o → IsFound (actual_of c m k o)
actual_found c mode.In k o sound h i =
    let s = seen_of c o (want.Subtype k) in
    with_found_found actual.In (fit c.world code.L11 false k (place_of c o) s) (fit_found c.world code.L11 false k (place_of c o) s sound h (operand_known c o (want.Subtype k) sound i h))
actual_found c mode.Out k o sound h i = taken_found c mode.Out k o sound h i
actual_found c mode.InOut k o sound h i = taken_found c mode.InOut k o sound h i

-- ---- which formal an argument is for

abbrev FormalAt : World → Option Formal → Type 0
FormalAt w None = ⊥
FormalAt w (Some f) = IsThere w f.subtype

pub nothing_below : {A : Type 0} → (n : ℕ) → nat_lt n 0 ≡ true → A
nothing_below n e = absurd (grind arith)

pub below : (n m : ℕ) → nat_lt (suc n) (suc m) ≡ true → nat_lt n m ≡ true
below n m e = grind arith

formal_at : (w : World) (fs : List Formal) (n : ℕ) → FormalsThere w fs → nat_lt n (length fs) ≡ true → FormalAt w (slice_get fs n)
formal_at w [] n h e = nothing_below n e
formal_at w (f ∷ fs) zero h e = h.0
formal_at w (f ∷ fs) (suc n) h e = formal_at w fs n h.1 (below n (length fs) e)

record FormalPlace (w : World) (fs : List Formal) (k n : ℕ) : Type 0 where
  pub place : ℕ
  pub is : n ≡ k + place
  pub there : FormalAt w (slice_get fs place)

abbrev MaybeFormal : World → List Formal → ℕ → Option ℕ → Type 0
MaybeFormal w fs k None = Unit {0}
MaybeFormal w fs k (Some n) = FormalPlace w fs k n

later_formal : (w : World) (f : Formal) (fs : List Formal) (k : ℕ) (r : Option ℕ) → MaybeFormal w fs (suc k) r → MaybeFormal w (f ∷ fs) k r
later_formal w f fs k None h = tt
later_formal w f fs k (Some n) h = record { place = suc h.place; is = h.is ∙ moved_on k h.place; there = h.there }

formal_if : (w : World) (f : Formal) (fs : List Formal) (k : ℕ) (r : Option ℕ) → IsThere w f.subtype → MaybeFormal w fs (suc k) r → (b : Bool) → MaybeFormal w (f ∷ fs) k (if b then Some k else r)
formal_if w f fs k r h i true = record { place = 0; is = from_here k; there = h }
formal_if w f fs k r h i false = later_formal w f fs k r i

named_there : (w : World) (fs : List Formal) (m k : ℕ) → FormalsThere w fs → MaybeFormal w fs k (formal_named fs m k)
named_there w [] m k h = tt
named_there w (f ∷ fs) m k h = formal_if w f fs k (formal_named fs m (suc k)) h.0 (named_there w fs m (suc k) h.1) (f.name == m)

-- ---- one argument

argument_found : (c : Scope) (n : ℕ) (f : Option Formal) (o : Operand) → IsSound c.world → FormalAt c.world f → OperandKnown c.world o → IsFound (argument_by c n f (Some o))
argument_found c n None o sound h i = absurd h
argument_found c n (Some f) o sound h i =
    with_found_found (λ (v : Actual Expr). record { formal = n; value = v }) (actual_of c f.mode f.subtype o) (actual_found c f.mode f.subtype o sound h i)

-- an argument is found where it is for a formal
abbrev MaybeArgument : Scope → List Formal → Option Operand → Option ℕ → Type 0
MaybeArgument c fs o None = Unit {0}
MaybeArgument c fs o (Some n) = IsFound (argument_by c n (slice_get fs n) o)

next_found : (c : Scope) (fs : List Formal) (n : ℕ) (o : Operand) → IsSound c.world → FormalsThere c.world fs → OperandKnown c.world o → (b : Bool) → nat_lt n (length fs) ≡ b
    → MaybeArgument c fs (Some o) (if b then Some n else None)
next_found c fs n o sound h i true e = argument_found c n (slice_get fs n) o sound (formal_at c.world fs n h e) i
next_found c fs n o sound h i false e = tt

positional_found : (c : Scope) (fs : List Formal) (given : List ℕ) (named : Bool) (o : Operand) → IsSound c.world → FormalsThere c.world fs → OperandKnown c.world o → MaybeArgument c fs (Some o) (next_formal fs given named)
positional_found c fs given true o sound h i = tt
positional_found c fs given false o sound h i = next_found c fs (length given) o sound h i (nat_lt (length given) (length fs)) refl

open_found : (c : Scope) (fs : List Formal) (n : ℕ) (v : Operand) (b : Bool) → IsFound (argument_by c n (slice_get fs n) (Some v)) → MaybeArgument c fs (Some v) (if b then None else Some n)
open_found c fs n v true h = tt
open_found c fs n v false h = h

still_found : (c : Scope) (fs : List Formal) (given : List ℕ) (v : Operand) (r : Option ℕ) → IsSound c.world → MaybeFormal c.world fs 0 r → OperandKnown c.world v → MaybeArgument c fs (Some v) (still_open given r)
still_found c fs given v None sound h i = tt
still_found c fs given v (Some n) sound h i =
    open_found c fs n v (is_among n given)
    (subst (λ (j : ℕ). IsFound (argument_by c j (slice_get fs j) (Some v))) (sym (h.is ∙ from_nothing h.place)) (argument_found c h.place (slice_get fs h.place) v sound h.there i))

named_if : (c : Scope) (fs : List Formal) (v : Operand) (b : Bool) (r : Option ℕ) → MaybeArgument c fs (Some v) r → MaybeArgument c fs (Some v) (if b then r else None)
named_if c fs v true r h = h
named_if c fs v false r h = tt

formal_found : (c : Scope) (fs : List Formal) (given : List ℕ) (named : Bool) (h : Choice) (v : Option Operand) → IsSound c.world → FormalsThere c.world fs → ChoiceKnown c.world h → MaybeKnown c.world v
    → MaybeArgument c fs (given_by h v) (formal_by c fs given named h v)
formal_found c fs given named (single o) None sound h i j = positional_found c fs given named o sound h i
formal_found c fs given named (single o) (Some v) sound h i j =
    named_if c fs v o.alone (still_open given (formal_named fs (c.name o.from) 0)) (still_found c fs given v (formal_named fs (c.name o.from) 0) sound (named_there c.world fs (c.name o.from) 0 h) j)
formal_found c fs given named others v sound h i j = tt
formal_found c fs given named (between l k) v sound h i j = tt

-- ---- all arguments

else_found : {A : Type 0} → (m : Option ℕ) (x : Found A) (f : ℕ → Found A) → IsFound x → ((n : ℕ) → m ≡ Some n → IsFound (f n)) → IsFound (option_else m x f)
else_found None x f h i = h
else_found (Some n) x f h i = i n refl

pub arguments_found : (c : Scope) (p : Place) (fs : List Formal) (given : List ℕ) (named : Bool) (done : Found (List (Argument Expr))) (as' : List Arg) → IsSound c.world → FormalsThere c.world fs → ArgsKnown c.world as' → IsFound done
    → IsFound (arguments c p fs given named done as')
arguments_found c p fs given named done [] sound h i j = found_if (length given == length fs) done (spoiled done (broken code.L10 p)) j (spoiled_found done (broken code.L10 p))
arguments_found c p fs given named done (a ∷ as') sound h i j =
    else_found (formal_for c fs given named a) (spoiled done (broken code.L10 (c.place a.from)))
    (λ n. arguments c p fs (n ∷ given) (named || is_named a.value) (added done (argument_for c fs n a)) as') (spoiled_found done (broken code.L10 (c.place a.from)))
    (λ n e. arguments_found c p fs (n ∷ given) (named || is_named a.value) (added done (argument_for c fs n a)) as' sound h i.1
    (both_found (λ xs x. xs ++ (x ∷ [])) done (argument_for c fs n a) j
    (subst (λ (m : Option ℕ). MaybeArgument c fs (operand_of a) m) e (formal_found c fs given named a.choice a.value sound h i.0.0 i.0.1))))
