-- What is so of what is accepted.
use Rattle.std.proofs.Common.{◌≡◌, refl, subst, ℕ, Bool, true, false, Option, Some, None}
use Rattle.std.specs.Prelude.{if◌then◌else◌}
use Rattle.ada_values.specs.declared.place.Place.{Place}
use Rattle.front_codes.specs.declared.codes.Refusal.{Refusal}
use Rattle.typed_units.specs.declared.expressions.Expr.{Expr}
use Rattle.typed_units.specs.declared.expressions.ExprNode.{ExprNode}
use Rattle.type_base.specs.Scope.{Scope}
use Rattle.type_base.specs.declared.seen.Seen.{Seen}
use Rattle.type_base.specs.declared.seen.Seen.TheVariants as seen
use Rattle.type_base.specs.Lookups.{type_at}
use Rattle.typing_rules.specs.declared.prefix.Found.{Found}
use Rattle.typing_rules.specs.declared.prefix.Found.TheVariants as found
use Rattle.typing_rules.specs.declared.prefix.Prefix.{Prefix}
use Rattle.typing_rules.specs.declared.prefix.Prefix.TheVariants as prefix
use Rattle.typing_rules.specs.declared.prefix.Reach.{Reach}
use Rattle.typing_rules.specs.declared.prefix.Reach.TheVariants as reach
use Rattle.typing_rules.specs.Fits.{both, found_then, refused_beside, seen_then, spoiled, with_found}
use Rattle.typing_rules.specs.Lookups.{seen_as, seen_by}
use Rattle.expression_rules.specs.Rules as kind
use Rattle.expression_rules.specs.Rules.{Kind, Is as HasKind}
use Rattle.typing_relations.specs.Demanded as demanded
use Rattle.typing_relations.specs.Demanded.{IsResult, Makes}

-- ---- what an accepted expression, name or part obeys

abbrev pub Accepts : Seen → (Seen → Type 0) → Type 0
Accepts (seen.Refused f) P = Unit {0}
Accepts seen.Unknown P = Unit {0}
Accepts (seen.Number n) P = P (seen.Number n)
Accepts (seen.Typed t x) P = P (seen.Typed t x)

abbrev pub Finds : {A : Type 0} → Found A → (A → Type 0) → Type 0
Finds (found.Refused f) P = Unit {0}
Finds found.Unknown P = Unit {0}
Finds (found.Is a) P = P a

abbrev pub Allows : Prefix → (Prefix → Type 0) → Type 0
Allows prefix.Package P = P prefix.Package
Allows (prefix.Subtype k) P = P (prefix.Subtype k)
Allows (prefix.Routine q) P = P (prefix.Routine q)
Allows (prefix.Called q xs) P = Finds xs (λ ys. P (prefix.Called q (found.Is ys)))
Allows (prefix.Mapping m t k) P = P (prefix.Mapping m t k)
Allows (prefix.Range b) P = P (prefix.Range b)
Allows (prefix.Constant t x) P = P (prefix.Constant t x)
Allows (prefix.Part g) P = P (prefix.Part g)
Allows (prefix.Value s) P = Accepts s (λ v. P (prefix.Value v))

abbrev pub Reached : Reach → (Reach → Type 0) → Type 0
Reached (reach.Refused f) P = Unit {0}
Reached reach.Unknown P = Unit {0}
Reached (reach.Numbers a b) P = P (reach.Numbers a b)
Reached (reach.Between b) P = P (reach.Between b)

-- ---- of expressions

pub accepts_map : (P Q : Seen → Type 0) → ((v : Seen) → P v → Q v) → (s : Seen) → Accepts s P → Accepts s Q
accepts_map P Q f (seen.Refused g) h = tt
accepts_map P Q f seen.Unknown h = tt
accepts_map P Q f (seen.Number n) h = f (seen.Number n) h
accepts_map P Q f (seen.Typed t x) h = f (seen.Typed t x) h

-- where it is so of all
pub accepts_all : (P : Seen → Type 0) (s : Seen) → P s → Accepts s P
accepts_all P (seen.Refused g) h = tt
accepts_all P seen.Unknown h = tt
accepts_all P (seen.Number n) h = h
accepts_all P (seen.Typed t x) h = h

pub accepts_always : (P : Type 0) (s : Seen) → P → Accepts s (λ v. P)
accepts_always P (seen.Refused g) h = tt
accepts_always P seen.Unknown h = tt
accepts_always P (seen.Number n) h = h
accepts_always P (seen.Typed t x) h = h

-- two things, and what follows from them
pub accepts_both : (P Q R : Seen → Type 0) → ((v : Seen) → P v → Q v → R v) → (s : Seen) → Accepts s P → Accepts s Q → Accepts s R
accepts_both P Q R f (seen.Refused g) h i = tt
accepts_both P Q R f seen.Unknown h i = tt
accepts_both P Q R f (seen.Number n) h i = f (seen.Number n) h i
accepts_both P Q R f (seen.Typed t x) h i = f (seen.Typed t x) h i

pub result : (s : Seen) → Accepts s (IsResult s)
result (seen.Refused g) = tt
result seen.Unknown = tt
result (seen.Number n) = (refl, demanded.universal n)
result (seen.Typed t x) = (refl, demanded.typed t x)

-- with what is demanded, the result
pub result_with : (D : Type 0) (P : Seen → Type 0) (s : Seen) → Accepts s (λ v. D) → ((v : Seen) → D → IsResult s v → P v) → Accepts s P
result_with D P s h f = accepts_both (λ v. D) (IsResult s) P f s h (result s)

pub if_accepts : (P : Seen → Type 0) (b : Bool) (x : Seen) (f : Refusal) → (b ≡ true → Accepts x P) → Accepts (if b then x else seen.Refused f) P
if_accepts P true x f h = h refl
if_accepts P false x f h = tt

pub beside_accepts : (P : Seen → Type 0) (f : Refusal) (s : Seen) → Accepts (refused_beside f s) P
beside_accepts P f (seen.Refused g) = tt
beside_accepts P f seen.Unknown = tt
beside_accepts P f (seen.Number n) = tt
beside_accepts P f (seen.Typed t x) = tt

-- the type of what is accepted
pub record Kinded (s v : Seen) : Type 0 where
  pub kind : Kind
  pub has : HasKind s kind
  pub still : HasKind v kind
  pub same : s ≡ v

pub kinded : (s : Seen) → Accepts s (Kinded s)
kinded (seen.Refused g) = tt
kinded seen.Unknown = tt
kinded (seen.Number n) = record { kind = kind.universal; has = tt; still = tt; same = refl }
kinded (seen.Typed t x) = record { kind = kind.of t; has = refl; still = refl; same = refl }

pub accepted_as : (P : Seen → Type 0) (s : Seen) (k : Kind) → HasKind s k → Accepts s P → P s
accepted_as P (seen.Refused g) k h i = absurd h
accepted_as P seen.Unknown k h i = absurd h
accepted_as P (seen.Number n) k h i = i
accepted_as P (seen.Typed t x) k h i = i

makes_by : (c : Scope) (p : Place) (k : ℕ) (n : ExprNode Expr) (m : Option ℕ) → type_at c.world k ≡ m → Accepts (seen_by p k n m) (Makes c.world p k n)
makes_by c p k n None e = tt
makes_by c p k n (Some t) e = demanded.makes t e

pub makes_accepts : (c : Scope) (p : Place) (k : ℕ) (n : ExprNode Expr) → Accepts (seen_as c p k n) (Makes c.world p k n)
makes_accepts c p k n = makes_by c p k n (type_at c.world k) refl

-- ---- of what is found

pub finds_map : {A : Type 0} → (P Q : A → Type 0) → ((a : A) → P a → Q a) → (x : Found A) → Finds x P → Finds x Q
finds_map P Q f (found.Refused g) h = tt
finds_map P Q f found.Unknown h = tt
finds_map P Q f (found.Is a) h = f a h

pub finds_always : {A : Type 0} → (P : Type 0) (x : Found A) → P → Finds x (λ a. P)
finds_always P (found.Refused g) h = tt
finds_always P found.Unknown h = tt
finds_always P (found.Is a) h = h

pub finds_itself : {A : Type 0} → (x : Found A) → Finds x (λ a. x ≡ found.Is a)
finds_itself (found.Refused g) = tt
finds_itself found.Unknown = tt
finds_itself (found.Is a) = refl

pub found_as : {A : Type 0} → (P : A → Type 0) (x : Found A) (a : A) → x ≡ found.Is a → Finds x P → P a
found_as P x a e h = subst (λ z. Finds z P) e h

pub if_finds : {A : Type 0} → (P : A → Type 0) (b : Bool) (x : Found A) (f : Refusal) → (b ≡ true → Finds x P) → Finds (if b then x else found.Refused f) P
if_finds P true x f h = h refl
if_finds P false x f h = tt

pub spoiled_finds : {A : Type 0} → (P : A → Type 0) (x : Found A) (f : Refusal) → Finds (spoiled x f) P
spoiled_finds P (found.Refused g) f = tt
spoiled_finds P found.Unknown f = tt
spoiled_finds P (found.Is a) f = tt

pub then_accepts : {A : Type 0} → (P : A → Type 0) (Q : Seen → Type 0) (x : Found A) (f : A → Seen) → Finds x P → ((a : A) → P a → Accepts (f a) Q) → Accepts (seen_then x f) Q
then_accepts P Q (found.Refused g) f h i = tt
then_accepts P Q found.Unknown f h i = tt
then_accepts P Q (found.Is a) f h i = i a h

pub then_finds : {A : Type 0} → {B : Type 0} → (P : A → Type 0) (Q : B → Type 0) (x : Found A) (f : A → Found B) → Finds x P → ((a : A) → P a → Finds (f a) Q) → Finds (found_then x f) Q
then_finds P Q (found.Refused g) f h i = tt
then_finds P Q found.Unknown f h i = tt
then_finds P Q (found.Is a) f h i = i a h

pub with_finds : {A : Type 0} → {B : Type 0} → (P : A → Type 0) (Q : B → Type 0) (f : A → B) (x : Found A) → Finds x P → ((a : A) → P a → Q (f a)) → Finds (with_found f x) Q
with_finds P Q f (found.Refused g) h i = tt
with_finds P Q f found.Unknown h i = tt
with_finds P Q f (found.Is a) h i = i a h

pub both_finds : {A : Type 0} → {B : Type 0} → {C : Type 0} → (P : A → Type 0) (Q : B → Type 0) (R : C → Type 0) (f : A → B → C) (x : Found A) (y : Found B) → Finds x P → Finds y Q
    → ((a : A) (b : B) → P a → Q b → R (f a b)) → Finds (both f x y) R
both_finds P Q R f (found.Refused g) (found.Refused j) h i k = tt
both_finds P Q R f (found.Refused g) found.Unknown h i k = tt
both_finds P Q R f (found.Refused g) (found.Is b) h i k = tt
both_finds P Q R f found.Unknown (found.Refused j) h i k = tt
both_finds P Q R f found.Unknown found.Unknown h i k = tt
both_finds P Q R f found.Unknown (found.Is b) h i k = tt
both_finds P Q R f (found.Is a) (found.Refused j) h i k = tt
both_finds P Q R f (found.Is a) found.Unknown h i k = tt
both_finds P Q R f (found.Is a) (found.Is b) h i k = k a b h i

-- what two parts found together are
pub record BothAre {A : Type 0} {B : Type 0} {C : Type 0} (f : A → B → C) (x : Found A) (y : Found B) (z : C) : Type 0 where
  pub left : A
  pub right : B
  pub is_left : x ≡ found.Is left
  pub is_right : y ≡ found.Is right
  pub together : z ≡ f left right

pub both_are : {A : Type 0} → {B : Type 0} → {C : Type 0} → (f : A → B → C) (x : Found A) (y : Found B) → Finds (both f x y) (λ z. BothAre f x y z)
both_are f x y = both_finds (λ a. x ≡ found.Is a) (λ b. y ≡ found.Is b) (λ z. BothAre f x y z) f x y (finds_itself x) (finds_itself y)
    (λ a b h i. record { left = a; right = b; is_left = h; is_right = i; together = refl })

-- ---- of names

pub allows_map : (P Q : Prefix → Type 0) → ((f : Prefix) → P f → Q f) → (f : Prefix) → Allows f P → Allows f Q
allows_map P Q k prefix.Package h = k prefix.Package h
allows_map P Q k (prefix.Subtype j) h = k (prefix.Subtype j) h
allows_map P Q k (prefix.Routine q) h = k (prefix.Routine q) h
allows_map P Q k (prefix.Called q xs) h = finds_map (λ ys. P (prefix.Called q (found.Is ys))) (λ ys. Q (prefix.Called q (found.Is ys))) (λ ys i. k (prefix.Called q (found.Is ys)) i) xs h
allows_map P Q k (prefix.Mapping m t j) h = k (prefix.Mapping m t j) h
allows_map P Q k (prefix.Range b) h = k (prefix.Range b) h
allows_map P Q k (prefix.Constant t x) h = k (prefix.Constant t x) h
allows_map P Q k (prefix.Part g) h = k (prefix.Part g) h
allows_map P Q k (prefix.Value s) h = accepts_map (λ v. P (prefix.Value v)) (λ v. Q (prefix.Value v)) (λ v i. k (prefix.Value v) i) s h

-- where it is so of all
pub allows_all : (P : Prefix → Type 0) (f : Prefix) → P f → Allows f P
allows_all P prefix.Package h = h
allows_all P (prefix.Subtype j) h = h
allows_all P (prefix.Routine q) h = h
allows_all P (prefix.Called q (found.Refused g)) h = tt
allows_all P (prefix.Called q found.Unknown) h = tt
allows_all P (prefix.Called q (found.Is xs)) h = h
allows_all P (prefix.Mapping m t j) h = h
allows_all P (prefix.Range b) h = h
allows_all P (prefix.Constant t x) h = h
allows_all P (prefix.Part g) h = h
allows_all P (prefix.Value (seen.Refused g)) h = tt
allows_all P (prefix.Value seen.Unknown) h = tt
allows_all P (prefix.Value (seen.Number n)) h = h
allows_all P (prefix.Value (seen.Typed t x)) h = h

pub allows_always : (P : Type 0) (f : Prefix) → P → Allows f (λ g. P)
allows_always P f h = allows_all (λ g. P) f h

pub allows_itself : (f : Prefix) → Allows f (λ g. f ≡ g)
allows_itself f = allows_all (λ g. f ≡ g) f refl

pub allows_both : (P Q R : Prefix → Type 0) → ((f : Prefix) → P f → Q f → R f) → (f : Prefix) → Allows f P → Allows f Q → Allows f R
allows_both P Q R k prefix.Package h i = k prefix.Package h i
allows_both P Q R k (prefix.Subtype j) h i = k (prefix.Subtype j) h i
allows_both P Q R k (prefix.Routine q) h i = k (prefix.Routine q) h i
allows_both P Q R k (prefix.Called q (found.Refused g)) h i = tt
allows_both P Q R k (prefix.Called q found.Unknown) h i = tt
allows_both P Q R k (prefix.Called q (found.Is xs)) h i = k (prefix.Called q (found.Is xs)) h i
allows_both P Q R k (prefix.Mapping m t j) h i = k (prefix.Mapping m t j) h i
allows_both P Q R k (prefix.Range b) h i = k (prefix.Range b) h i
allows_both P Q R k (prefix.Constant t x) h i = k (prefix.Constant t x) h i
allows_both P Q R k (prefix.Part g) h i = k (prefix.Part g) h i
allows_both P Q R k (prefix.Value (seen.Refused g)) h i = tt
allows_both P Q R k (prefix.Value seen.Unknown) h i = tt
allows_both P Q R k (prefix.Value (seen.Number n)) h i = k (prefix.Value (seen.Number n)) h i
allows_both P Q R k (prefix.Value (seen.Typed t x)) h i = k (prefix.Value (seen.Typed t x)) h i

-- ---- of ranges

pub reached_all : (P : Reach → Type 0) (u : Reach) → P u → Reached u P
reached_all P (reach.Refused f) h = tt
reached_all P reach.Unknown h = tt
reached_all P (reach.Numbers a b) h = h
reached_all P (reach.Between b) h = h
