-- Calls: the refusal of the arguments is the first of their broken rules.
use Rattle.std.proofs.Common.{refl, Bool, true, false, ◌==◌, ◌||◌, List, [], ◌∷◌, ◌++◌, length, Option, Some, None}
use Rattle.std.specs.Prelude.{ℕ, slice_get, if◌then◌else◌}
use Rattle.ada_values.specs.declared.place.Place.{Place}
use Rattle.front_codes.specs.declared.codes.Code.{Code}
use Rattle.front_codes.specs.declared.codes.Code.TheVariants as code
use Rattle.front_codes.specs.declared.codes.Refusal.{Refusal}
use Rattle.typed_units.specs.declared.expressions.Actual.{Actual}
use Rattle.typed_units.specs.declared.expressions.Actual.TheVariants as actual
use Rattle.typed_units.specs.declared.expressions.Argument.{Argument}
use Rattle.typed_units.specs.declared.expressions.Expr.{Expr}
use Rattle.typed_units.specs.declared.programs.Mode.{Mode}
use Rattle.typed_units.specs.declared.programs.Mode.TheVariants as mode
use Rattle.type_base.specs.Scope.{Scope}
use Rattle.type_base.specs.declared.seen.Seen.{Seen}
use Rattle.type_base.specs.declared.seen.Seen.TheVariants as seen
use Rattle.type_base.specs.declared.seen.Want.TheVariants as want
use Rattle.type_base.specs.declared.world.Formal.{Formal}
use Rattle.type_base.specs.declared.world.World.{World}
use Rattle.type_base.specs.Demands.{broken}
use Rattle.type_base.specs.Faults.{First, listed}
use Rattle.type_base.specs.Lookups.{type_at}
use Rattle.type_base.proofs.Firsts.{step}
use Rattle.typing_rules.specs.declared.prefix.Found.{Found}
use Rattle.typing_rules.specs.declared.prefix.Prefix.{Prefix}
use Rattle.typing_rules.specs.Calls.{actual_of, added, argument_by, argument_for, arguments, formal_for, given_by, is_named, operand_of, option_else, passed_as, variable}
use Rattle.typing_rules.specs.Faults.{actual_faults, arguments_faults, faults_else, faults_of, formal_faults}
use Rattle.typing_rules.specs.Fits.{fit, found_fault, found_then, spoiled, with_found}
use Rattle.typing_rules.specs.Parts.{Arg, Choice, Operand, between, others, single}
use Rattle.typing_rules.specs.Values.{place_of, prefix_fault, seen_of}
use Rattle.typing_laws.proofs.Merging.{first_alone, first_as, first_joined, first_more, first_within}
use Rattle.typing_laws.proofs.Operands.{ArgsFirst, ChoiceFirst, IsFirst, Keeps, MaybeFirst, Waits, both_is, keeps_by, keeps_merged, operand_first, spoiled_is, waiting_first, waits_as, with_found_is}

pub fit_waits : (w : World) (r : Code) (whole : Bool) (k : ℕ) (q : Place) (s : Seen) → Waits s (found_fault (fit w r whole k q s))
fit_waits w r whole k q (seen.Refused f) = refl
fit_waits w r whole k q seen.Unknown = tt
fit_waits w r whole k q (seen.Number n) = tt
fit_waits w r whole k q (seen.Typed t x) = tt

-- ---- which expression an argument has

pub given_first : (h : Choice) (v : Option Operand) → ChoiceFirst h → MaybeFirst v → MaybeFirst (given_by h v)
given_first h (Some v) i j = j
given_first (single o) None i j = i
given_first others None i j = tt
given_first (between l h) None i j = tt

-- ---- what is passed

pub variable_keeps : (c : Scope) (r : Code) (q : Place) (f : Prefix) → Keeps f (found_fault (variable c r q f))
variable_keeps c r q f = keeps_by q (λ (g : Prefix). found_fault (variable c r q g)) (λ g. refl) (λ n g. refl) f

passed_keeps : (c : Scope) (q : Place) (m : Mode) (k : ℕ) (f : Prefix) → Keeps f (found_fault (found_then (variable c code.L11 q f) (passed_as c q m k (type_at c.world k))))
passed_keeps c q m k f = keeps_by q (λ (g : Prefix). found_fault (found_then (variable c code.L11 q g) (passed_as c q m k (type_at c.world k)))) (λ g. refl) (λ n g. refl) f

passed_first : (c : Scope) (m : Mode) (k : ℕ) (o : Operand) → IsFirst o
    → First (found_fault (found_then (variable c code.L11 (place_of c o) (o.prefix want.Free)) (passed_as c (place_of c o) m k (type_at c.world k))))
    (o.faults want.Free ++ listed (found_fault (found_then (variable c code.L11 (place_of c o) (o.prefix want.Free)) (passed_as c (place_of c o) m k (type_at c.world k)))))
passed_first c m k o h =
    let u = found_fault (found_then (variable c code.L11 (place_of c o) (o.prefix want.Free)) (passed_as c (place_of c o) m k (type_at c.world k))) in
    first_within (prefix_fault (o.prefix want.Free)) u (o.faults want.Free) (h want.Free) (keeps_merged (o.prefix want.Free) u (passed_keeps c (place_of c o) m k (o.prefix want.Free)))

actual_first : (c : Scope) (m : Mode) (k : ℕ) (o : Operand) → IsFirst o → First (found_fault (actual_of c m k o)) (actual_faults c m k o)
actual_first c mode.In k o h =
    let s = seen_of c o (want.Subtype k) in
    let v = fit c.world code.L11 false k (place_of c o) s in
    waiting_first s (found_fault (with_found actual.In v)) (faults_of c o (want.Subtype k))
    (waits_as s (found_fault (with_found actual.In v)) (found_fault v) (with_found_is actual.In v) (fit_waits c.world code.L11 false k (place_of c o) s)) (operand_first c o (want.Subtype k) h)
actual_first c mode.Out k o h = passed_first c mode.Out k o h
actual_first c mode.InOut k o h = passed_first c mode.InOut k o h

argument_first : (c : Scope) (n : ℕ) (f : Option Formal) (o : Option Operand) → MaybeFirst o → First (found_fault (argument_by c n f o)) (formal_faults c f o)
argument_first c n (Some f) (Some o) h =
    first_as (found_fault (argument_by c n (Some f) (Some o))) (found_fault (actual_of c f.mode f.subtype o)) (actual_faults c f.mode f.subtype o)
    (with_found_is (λ (v : Actual Expr). record { formal = n; value = v }) (actual_of c f.mode f.subtype o)) (actual_first c f.mode f.subtype o h)
argument_first c n (Some f) None h = refl
argument_first c n None (Some o) h = refl
argument_first c n None None h = refl

-- ---- all arguments

-- at the end, where all is given
pub end_first : {A : Type 0} → (b : Bool) (done : Found A) (r : Refusal) (ds : List Refusal) → First (found_fault done) ds
    → First (found_fault (if b then done else spoiled done r)) (ds ++ (if b then [] else (r ∷ [])))
end_first true done r ds h = first_alone (found_fault done) ds h
end_first false done r ds h = step (found_fault done) (Some r) (found_fault (spoiled done r)) ds (spoiled_is done r) h

-- where one is out of place
pub stop_first : {A : Type 0} → (done : Found A) (r : Refusal) (ds : List Refusal) → First (found_fault done) ds → First (found_fault (spoiled done r)) (ds ++ (r ∷ []))
stop_first done r ds h = step (found_fault done) (Some r) (found_fault (spoiled done r)) ds (spoiled_is done r) h

else_first : {A : Type 0} → (m : Option ℕ) (x : Found A) (f : ℕ → Found A) (ds xs : List Refusal) (fs : ℕ → List Refusal) → First (found_fault x) (ds ++ xs)
    → ((n : ℕ) → First (found_fault (f n)) (ds ++ fs n)) → First (found_fault (option_else m x f)) (ds ++ faults_else m xs fs)
else_first None x f ds xs fs h i = h
else_first (Some n) x f ds xs fs h i = i n

pub arguments_first : (c : Scope) (p : Place) (fs : List Formal) (given : List ℕ) (named : Bool) (done : Found (List (Argument Expr))) (as' : List Arg) (ds : List Refusal) → ArgsFirst as' → First (found_fault done) ds
    → First (found_fault (arguments c p fs given named done as')) (ds ++ arguments_faults c p fs given named as')
arguments_first c p fs given named done [] ds h i = end_first (length given == length fs) done (broken code.L10 p) ds i
arguments_first c p fs given named done (a ∷ as') ds h i =
    else_first (formal_for c fs given named a) (spoiled done (broken code.L10 (c.place a.from)))
    (λ n. arguments c p fs (n ∷ given) (named || is_named a.value) (added done (argument_for c fs n a)) as') ds
    (broken code.L10 (c.place a.from) ∷ [])
    (λ n. formal_faults c (slice_get fs n) (operand_of a) ++ arguments_faults c p fs (n ∷ given) (named || is_named a.value) as')
    (stop_first done (broken code.L10 (c.place a.from)) ds i)
    (λ n.
    let x = argument_for c fs n a in
    let xs = formal_faults c (slice_get fs n) (operand_of a) in
    let rest = arguments_faults c p fs (n ∷ given) (named || is_named a.value) as' in
    first_joined (found_fault (arguments c p fs (n ∷ given) (named || is_named a.value) (added done x) as')) ds xs rest
    (arguments_first c p fs (n ∷ given) (named || is_named a.value) (added done x) as' (ds ++ xs) h.1
    (first_more (found_fault done) (found_fault x) (found_fault (added done x)) ds xs (both_is (λ ys y. ys ++ (y ∷ [])) done x) i (argument_first c n (slice_get fs n) (operand_of a) (given_first a.choice a.value h.0.0 h.0.1)))))
