-- What is so of what is found in parts.
use Rattle.std.proofs.Common.{◌≡◌, refl, Bool, true, false, List, [], ◌∷◌, ◌++◌}
use Rattle.ada_values.specs.declared.place.Place.{Place}
use Rattle.front_codes.specs.declared.codes.Code.{Code}
use Rattle.typing_rules.specs.declared.prefix.Found.{Found}
use Rattle.typing_rules.specs.declared.prefix.Found.TheVariants as found
use Rattle.statement_typing.specs.Checks.{added, all_onto, and_also, unless}
use Rattle.typing_relations.proofs.Accepting.{BothAre, Finds, both_are, both_finds, finds_always, found_as}

-- what is found of the first of two parts
pub and_also_left : {A : Type 0} → {B : Type 0} → (P : A → Type 0) (x : Found A) (y : Found B) → Finds x P → Finds (and_also x y) P
and_also_left P x y h = both_finds P (λ b. Unit {0}) P (λ a b. a) x y h (finds_always (Unit {0}) y tt) (λ a b i j. i)

-- the same with what is so of the second
pub and_also_both : {A : Type 0} → {B : Type 0} → (P : A → Type 0) (Q : Type 0) (x : Found A) (y : Found B) → Finds x P → Finds y (λ b. Q) → Finds (and_also x y) (λ a. P a × Q)
and_also_both P Q x y h i = both_finds P (λ b. Q) (λ a. P a × Q) (λ a b. a) x y h i (λ a b j k. (j, k))

pub unless_finds : {A : Type 0} → (b : Bool) (r : Code) (p : Place) (a : A) → Finds (unless b r p a) (λ z. (b ≡ true) × (z ≡ a))
unless_finds true r p a = (refl, refl)
unless_finds false r p a = tt

-- what one part more is
pub record IsAdded {A : Type 0} (done : Found (List A)) (x : Found A) (zs : List A) : Type 0 where
  pub before : List A
  pub item : A
  pub is_before : done ≡ found.Is before
  pub is_item : x ≡ found.Is item
  pub together : zs ≡ before ++ (item ∷ [])

pub added_is : {A : Type 0} → (done : Found (List A)) (x : Found A) (zs : List A) → added done x ≡ found.Is zs → IsAdded done x zs
added_is {A = A} done x zs e =
    let b : BothAre (λ (xs : List A) (y : A). xs ++ (y ∷ [])) done x zs = found_as (λ z. BothAre (λ (xs : List A) (y : A). xs ++ (y ∷ [])) done x z) (added done x) zs e (both_are (λ (xs : List A) (y : A). xs ++ (y ∷ [])) done x) in
    record { before = b.left; item = b.right; is_before = b.is_left; is_item = b.is_right; together = b.together }

pub all_onto_parts : {A : Type 0} → (done : Found (List A)) (xs ys : List (Found A)) → all_onto done (xs ++ ys) ≡ all_onto (all_onto done xs) ys
all_onto_parts done [] ys = refl
all_onto_parts done (x ∷ xs) ys = all_onto_parts (added done x) xs ys
