-- What names begin with, the values that they are, and values that are to be of a type or a subtype.
use Rattle.std.proofs.Common.{◌≡◌, refl, sym, ◌∙◌, ap, subst, ℕ, ℤ, Bool, true, false, ◌==◌, List, [], ◌∷◌, Option, Some, None, arith}
use Rattle.std.proofs.lemmas.Bool.Decides.{nat_tests}
use Rattle.std.specs.Prelude.{◌&&◌, if◌then◌else◌}
use Rattle.ada_values.specs.Scalars.{in_base}
use Rattle.ada_values.specs.declared.place.Place.{Place}
use Rattle.ada_values.specs.declared.scalars.Scalar.{Scalar}
use Rattle.ada_values.specs.declared.values.Value.{Value}
use Rattle.ada_values.specs.declared.values.Value.TheVariants as value
use Rattle.front_codes.specs.declared.codes.Code.{Code}
use Rattle.front_codes.specs.declared.codes.Code.TheVariants as code
use Rattle.typed_units.specs.declared.expressions.Argument.{Argument}
use Rattle.typed_units.specs.declared.expressions.Expr.{Expr}
use Rattle.typed_units.specs.declared.expressions.ExprNode.TheVariants as node
use Rattle.typed_units.specs.declared.operators.Object.{Object}
use Rattle.type_base.specs.Scope.{Scope}
use Rattle.type_base.specs.declared.entities.Access.{Access}
use Rattle.type_base.specs.declared.entities.Entity.{Entity}
use Rattle.type_base.specs.declared.entities.Entity.TheVariants as entity
use Rattle.type_base.specs.declared.seen.Demand.{Demand}
use Rattle.type_base.specs.declared.seen.Seen.{Seen}
use Rattle.type_base.specs.declared.seen.Seen.TheVariants as seen
use Rattle.type_base.specs.declared.world.Discrete.{Discrete}
use Rattle.type_base.specs.declared.world.Form.{Form}
use Rattle.type_base.specs.declared.world.Form.TheVariants as form
use Rattle.type_base.specs.declared.world.Formal.{Formal}
use Rattle.type_base.specs.declared.world.Routine.{Routine}
use Rattle.type_base.specs.declared.world.World.{World}
use Rattle.type_base.specs.Demands.{broken, fitted, fitting, is_whole, made, meets, number_as, operand, placed_number, refused, subtype_of, takes_numbers}
use Rattle.type_base.specs.Lookups.{constant_at, form_at, routine_at, type_at}
use Rattle.typing_rules.specs.declared.prefix.Found.{Found}
use Rattle.typing_rules.specs.declared.prefix.Found.TheVariants as found
use Rattle.typing_rules.specs.declared.prefix.Prefix.{Prefix}
use Rattle.typing_rules.specs.declared.prefix.Prefix.TheVariants as prefix
use Rattle.typing_rules.specs.Fits.{fit, fit_as, fit_placed, fit_typed, takes}
use Rattle.typing_rules.specs.Lookups.{scalar_value, type_of}
use Rattle.typing_rules.specs.Names.{of_type, of_type_by, typed_as}
use Rattle.typing_rules.specs.Values.{call_value, constant_by, entity_prefix, formals_of, no_arguments, no_function, object_by, routine_value, value_of}
use Rattle.expression_rules.specs.Rules.{IsAs}
use Rattle.typing_relations.specs.Demanded as demanded
use Rattle.typing_relations.specs.Demanded.{Begins, Fits, FitsBounds, OfType, TakesNumber, Valued}
use Rattle.typing_relations.proofs.Accepting.{Accepts, Allows, Finds, accepts_map, if_accepts, if_finds, makes_accepts}

-- ---- what a name begins with

static_begins : (c : Scope) (p : Place) (k : ℕ) (n : ℤ) (m : Option ℕ) → type_at c.world k ≡ m → Allows (constant_by p k (Some (scalar_value (type_of c.world k) n)) m) (Begins c p (entity.Static k n))
static_begins c p k n None e = tt
static_begins c p k n (Some t) e = demanded.a_static k t n e

constant_begins : (c : Scope) (p : Place) (k n : ℕ) (v : Option Value) (m : Option ℕ) → constant_at c.world n ≡ v → type_at c.world k ≡ m → Allows (constant_by p k v m) (Begins c p (entity.Constant k n))
constant_begins c p k n None m e i = tt
constant_begins c p k n (Some v) None e i = tt
constant_begins c p k n (Some v) (Some t) e i = demanded.a_constant k t n v i e

object_begins : (c : Scope) (p : Place) (k : ℕ) (o : Object) (a : Access) (m : Option ℕ) → type_at c.world k ≡ m → Allows (object_by p k o a m) (Begins c p (entity.Object k o a))
object_begins c p k o a None e = tt
object_begins c p k o a (Some t) e = demanded.an_object k t o a e

pub begins : (c : Scope) (p : Place) (e : Entity) → Allows (entity_prefix c p e) (Begins c p e)
begins c p entity.Unknown = tt
begins c p entity.Package = demanded.a_package
begins c p (entity.Subtype k) = demanded.a_subtype k
begins c p (entity.Routine q) = demanded.a_routine q
begins c p (entity.Number n) = demanded.a_number n
begins c p (entity.Literal k n) =
    let d = node.Static (scalar_value k n) in
    accepts_map (demanded.Makes c.world p k d) (λ v. Begins c p (entity.Literal k n) (prefix.Value v)) (λ v h. demanded.a_literal k n v h) _ (makes_accepts c p k d)
begins c p (entity.Static k n) = static_begins c p k n (type_at c.world k) refl
begins c p (entity.Constant k n) = constant_begins c p k n (constant_at c.world n) (type_at c.world k) refl refl
begins c p (entity.Object k o a) = object_begins c p k o a (type_at c.world k) refl

-- ---- the value that a name is

call_valued : (c : Scope) (p : Place) (q : ℕ) (r : Routine) (k : Option ℕ) (fs : List Formal) → routine_at c.world q ≡ Some r → r.result ≡ k → formals_of c.world r ≡ fs
    → Accepts (call_value c p q k (no_arguments p fs)) (Valued c.world p (prefix.Routine q))
call_valued c p q r (Some k) [] e i j =
    let d = node.Call p q [] in
    accepts_map (demanded.Makes c.world p k d) (Valued c.world p (prefix.Routine q)) (λ v h. demanded.of_call q k r v e i j h) _ (makes_accepts c p k d)
call_valued c p q r (Some k) (f ∷ fs) e i j = tt
call_valued c p q r None [] e i j = tt
call_valued c p q r None (f ∷ fs) e i j = tt

routine_valued : (c : Scope) (p : Place) (q : ℕ) (m : Option Routine) → routine_at c.world q ≡ m → Accepts (routine_value c p q m) (Valued c.world p (prefix.Routine q))
routine_valued c p q None e = tt
routine_valued c p q (Some r) e = call_valued c p q r r.result (formals_of c.world r) e refl refl

no_value : (P : Seen → Type 0) (p : Place) (as' : Found (List (Argument Expr))) → Accepts (no_function p as') P
no_value P p (found.Refused f) = tt
no_value P p found.Unknown = tt
no_value P p (found.Is xs) = tt

value_valued : (w : World) (p : Place) (s : Seen) → Accepts s (Valued w p (prefix.Value s))
value_valued w p (seen.Refused f) = tt
value_valued w p seen.Unknown = tt
value_valued w p (seen.Number n) = demanded.of_number n
value_valued w p (seen.Typed t x) = demanded.of_value t x

pub valued : (c : Scope) (p : Place) (f : Prefix) → Accepts (value_of c p f) (Valued c.world p f)
valued c p prefix.Package = tt
valued c p (prefix.Subtype k) = tt
valued c p (prefix.Routine q) = routine_valued c p q (routine_at c.world q) refl
valued c p (prefix.Called q as') = no_value (Valued c.world p (prefix.Called q as')) p as'
valued c p (prefix.Mapping m t k) = tt
valued c p (prefix.Range b) = tt
valued c p (prefix.Constant t x) = demanded.of_constant t x
valued c p (prefix.Part g) = demanded.of_part g
valued c p (prefix.Value s) = value_valued c.world p s

-- what is so of the value of a name of which something is so
pub of_valued : (c : Scope) (p : Place) (S : Prefix → Type 0) (H : Seen → Type 0) → ((f : Prefix) (v : Seen) → S f → Valued c.world p f v → H v) → (f : Prefix) → Allows f S → Accepts (value_of c p f) H
of_valued c p S H k prefix.Package h = tt
of_valued c p S H k (prefix.Subtype j) h = tt
of_valued c p S H k (prefix.Routine q) h = accepts_map (Valued c.world p (prefix.Routine q)) H (λ v i. k (prefix.Routine q) v h i) _ (valued c p (prefix.Routine q))
of_valued c p S H k (prefix.Called q as') h = no_value H p as'
of_valued c p S H k (prefix.Mapping m t j) h = tt
of_valued c p S H k (prefix.Range b) h = tt
of_valued c p S H k (prefix.Constant t x) h = k (prefix.Constant t x) (seen.Typed t x) h (demanded.of_constant t x)
of_valued c p S H k (prefix.Part g) h = k (prefix.Part g) _ h (demanded.of_part g)
of_valued c p S H k (prefix.Value (seen.Refused f)) h = tt
of_valued c p S H k (prefix.Value seen.Unknown) h = tt
of_valued c p S H k (prefix.Value (seen.Number n)) h = k (prefix.Value (seen.Number n)) (seen.Number n) h (demanded.of_number n)
of_valued c p S H k (prefix.Value (seen.Typed t x)) h = k (prefix.Value (seen.Typed t x)) (seen.Typed t x) h (demanded.of_value t x)

-- ---- operands

operand_by : (w : World) (d : Demand) (r : Code) (p : Place) (t : ℕ) (x : Expr) (P : Seen → Type 0) (m : Option Form) → form_at w (subtype_of x) ≡ m → P (seen.Typed t x)
    → Accepts (fitting d r p t x m) (λ v. P v × IsAs w d v)
operand_by w d r p t x P None e h = tt
operand_by w d r p t x P (Some f) e h = if_accepts (λ v. P v × IsAs w d v) (meets d f) (seen.Typed t x) (broken r p) (λ i. (h, record { form = f; is = e; met = i }))

pub operand_accepts : (w : World) (d : Demand) (r : Code) (p : Place) (s : Seen) (P : Seen → Type 0) → Accepts s P → Accepts (operand w d r p s) (λ v. P v × IsAs w d v)
operand_accepts w d r p (seen.Refused f) P h = tt
operand_accepts w d r p seen.Unknown P h = tt
operand_accepts w d r p (seen.Number n) P h = if_accepts (λ v. P v × IsAs w d v) (takes_numbers d) (seen.Number n) (broken r p) (λ i. (h, i))
operand_accepts w d r p (seen.Typed t x) P h = operand_by w d r p t x P (form_at w (subtype_of x)) refl h

-- ---- numbers that take a type

inside_placed : (w : World) (r : Code) (q p : Place) (t : ℕ) (n : ℤ) (d : Discrete) (s : Scalar) (P : Seen → Type 0) → form_at w t ≡ Some (form.Number d s) → is_whole d ≡ true
    → (TakesNumber w t n → P (seen.Typed t (made p t (node.Static (value.Int n))))) → Accepts (if in_base s n then seen.Typed t (made p t (node.Static (value.Int n))) else refused code.L29 p) P
inside_placed w r q p t n d s P e i k =
    if_accepts P (in_base s n) (seen.Typed t (made p t (node.Static (value.Int n)))) (broken code.L29 p) (λ j. k (record { discrete = d; scalar = s; is = e; whole = i; inside = j }))

placed_by : (w : World) (r : Code) (q p : Place) (t : ℕ) (n : ℤ) (P : Seen → Type 0) (m : Option Form) → form_at w t ≡ m → (TakesNumber w t n → P (seen.Typed t (made p t (node.Static (value.Int n)))))
    → Accepts (number_as r q p t n m) P
placed_by w r q p t n P None e k = tt
placed_by w r q p t n P (Some (form.Number d s)) e k = if_accepts P (is_whole d) _ (broken r q) (λ i. inside_placed w r q p t n d s P e i k)
placed_by w r q p t n P (Some form.Truth) e k = tt
placed_by w r q p t n P (Some (form.Array i b j)) e k = tt
placed_by w r q p t n P (Some (form.Record i j)) e k = tt

pub placed_accepts : (w : World) (r : Code) (q p : Place) (t : ℕ) (n : ℤ) (P : Seen → Type 0) → (TakesNumber w t n → P (seen.Typed t (made p t (node.Static (value.Int n))))) → Accepts (placed_number w r q p t n) P
placed_accepts w r q p t n P k = placed_by w r q p t n P (form_at w t) refl k

-- ---- values of a type

-- it is a typed expression of the type of subtype k, that s is
abbrev pub TypedAs : World → ℕ → Place → Seen → (Seen → Type 0) → Seen → Type 0
TypedAs w k q s P (seen.Typed t x) = (type_at w k ≡ Some t) × (OfType w t q s x × P s)
TypedAs w k q s P _ = ⊥

typed_as_accepts : (c : Scope) (r : Code) (k t : ℕ) (q : Place) (s : Seen) (P : Seen → Type 0) → type_at c.world k ≡ Some t → Accepts s P → Accepts (typed_as c r t q s) (TypedAs c.world k q s P)
typed_as_accepts c r k t q (seen.Refused f) P e h = tt
typed_as_accepts c r k t q seen.Unknown P e h = tt
typed_as_accepts c r k t q (seen.Number n) P e h = placed_accepts c.world r q q t n (TypedAs c.world k q (seen.Number n) P) (λ i. (e, (demanded.taking_type n i, h)))
typed_as_accepts c r k t q (seen.Typed u x) P e h =
    if_accepts (TypedAs c.world k q (seen.Typed u x) P) (t == u) (seen.Typed t x) (broken r q)
    (λ i. let same : t ≡ u = grind (arith, nat_tests) in (e, (subst (λ z. OfType c.world t q (seen.Typed z x) x) same (demanded.of_this_type x), h)))

of_type_by_accepts : (c : Scope) (r : Code) (k : ℕ) (q : Place) (s : Seen) (P : Seen → Type 0) (m : Option ℕ) → type_at c.world k ≡ m → Accepts s P → Accepts (of_type_by c r m q s) (TypedAs c.world k q s P)
of_type_by_accepts c r k q (seen.Refused f) P None e h = tt
of_type_by_accepts c r k q seen.Unknown P None e h = tt
of_type_by_accepts c r k q (seen.Number n) P None e h = tt
of_type_by_accepts c r k q (seen.Typed t x) P None e h = tt
of_type_by_accepts c r k q s P (Some t) e h = typed_as_accepts c r k t q s P e h

pub of_type_accepts : (c : Scope) (r : Code) (k : ℕ) (q : Place) (s : Seen) (P : Seen → Type 0) → Accepts s P → Accepts (of_type c r k q s) (TypedAs c.world k q s P)
of_type_accepts c r k q s P h = of_type_by_accepts c r k q s P (type_at c.world k) refl h

-- ---- values that are to be of a subtype

abbrev IsFalse : Bool → Type 0
IsFalse false = Unit {0}
IsFalse true = ⊥

pub both_true : (a b : Bool) → (a && b) ≡ true → (a ≡ true) × (b ≡ true)
both_true true b e = (refl, e)
both_true false b e = absurd (subst IsFalse e tt)

placed_fits : (w : World) (whole : Bool) (k t : ℕ) (q : Place) (n : ℤ) (P : Seen → Type 0) (u : Seen) → type_at w k ≡ Some t → P (seen.Number n)
    → Accepts u (TypedAs w k q (seen.Number n) P) → Finds (fit_placed w k u) (λ v. Fits w whole k q (seen.Number n) v × P (seen.Number n))
placed_fits w whole k t q n P (seen.Refused f) e h i = tt
placed_fits w whole k t q n P seen.Unknown e h i = tt
placed_fits w whole k t q n P (seen.Number m) e h i = absurd i
placed_fits w whole k t q n P (seen.Typed u x) e h i = (record { type = u; is = i.0; value = x; of_type = i.1.0; bounds = tt; fits = refl }, h)

typed_fits : (w : World) (r : Code) (whole : Bool) (k : ℕ) (q : Place) (t : ℕ) (x : Expr) (P : Seen → Type 0) (m : Option ℕ) → type_at w k ≡ m → P (seen.Typed t x)
    → Finds (fit_typed w r whole k q t x m) (λ v. Fits w whole k q (seen.Typed t x) v × P (seen.Typed t x))
typed_fits w r whole k q t x P None e h = tt
typed_fits w r whole k q t x P (Some u) e h =
    if_finds (λ v. Fits w whole k q (seen.Typed t x) v × P (seen.Typed t x)) ((t == u) && takes w whole k (subtype_of x)) (found.Is (fitted w k x)) (broken r q)
    (λ i. let same = both_true (t == u) (takes w whole k (subtype_of x)) i in
    let equal : (t == u) ≡ true = same.0 in
    let eq : t ≡ u = grind (arith, nat_tests) in
    (record { type = t; is = e ∙ ap Some (sym eq); value = x; of_type = demanded.of_this_type x; bounds = same.1; fits = refl }, h))

fit_by : (w : World) (r : Code) (whole : Bool) (k : ℕ) (q : Place) (s : Seen) (P : Seen → Type 0) (m : Option ℕ) → type_at w k ≡ m → Accepts s P → Finds (fit_as w r whole k q m s) (λ v. Fits w whole k q s v × P s)
fit_by w r whole k q (seen.Refused f) P m e h = tt
fit_by w r whole k q seen.Unknown P m e h = tt
fit_by w r whole k q (seen.Number n) P None e h = tt
fit_by w r whole k q (seen.Number n) P (Some t) e h =
    placed_fits w whole k t q n P (placed_number w r q q t n) e h (placed_accepts w r q q t n (TypedAs w k q (seen.Number n) P) (λ i. (e, (demanded.taking_type n i, h))))
fit_by w r whole k q (seen.Typed u x) P m e h = typed_fits w r whole k q u x P m e h

pub fit_finds : (w : World) (r : Code) (whole : Bool) (k : ℕ) (q : Place) (s : Seen) (P : Seen → Type 0) → Accepts s P → Finds (fit w r whole k q s) (λ v. Fits w whole k q s v × P s)
fit_finds w r whole k q s P h = fit_by w r whole k q s P (type_at w k) refl h
