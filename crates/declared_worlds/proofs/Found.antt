-- What is found of several parts has what the parts have.
use Rattle.std.proofs.Common.{Bool, true, false, List, [], ◌∷◌, ◌++◌, map}
use Rattle.std.specs.List.{All}
use Rattle.std.proofs.lemmas.List.Elements.{All-nil, All-push}
use Rattle.ada_values.specs.declared.place.Place.{Place}
use Rattle.front_codes.specs.declared.codes.Code.{Code}
use Rattle.typing_rules.specs.declared.prefix.Found.{Found}
use Rattle.typing_rules.specs.declared.prefix.Found.TheVariants.{Refused, Unknown, Is}
use Rattle.typing_rules.specs.Fits.{both, found_then, with_found}
use Rattle.statement_typing.specs.Checks.{added, all_of, all_onto, and_also, unless}
use Rattle.sound_subtypes.specs.Sound.{IfIs}

pub found_then_keeps : {A : Type 0} {B : Type 0} (P : A → Type 0) (Q : B → Type 0) (a : Found A) (f : A → Found B) → IfIs P a → ((x : A) → P x → IfIs Q (f x)) → IfIs Q (found_then a f)
found_then_keeps P Q (Refused g) f h k = tt
found_then_keeps P Q Unknown f h k = tt
found_then_keeps P Q (Is a) f h k = k a h

pub with_found_has : {A : Type 0} {B : Type 0} (P : A → Type 0) (Q : B → Type 0) (f : A → B) (a : Found A) → IfIs P a → ((x : A) → P x → Q (f x)) → IfIs Q (with_found f a)
with_found_has P Q f (Refused g) h k = tt
with_found_has P Q f Unknown h k = tt
with_found_has P Q f (Is a) h k = k a h

abbrev pub Any : {A : Type 0} → A → Type 0
Any a = Unit {0}

pub anything : {A : Type 0} (a : Found A) → IfIs Any a
anything (Refused g) = tt
anything Unknown = tt
anything (Is a) = tt

pub with_found_is : {A : Type 0} {B : Type 0} (Q : B → Type 0) (f : A → B) (a : Found A) → ((x : A) → Q (f x)) → IfIs Q (with_found f a)
with_found_is Q f a k = with_found_has Any Q f a (anything a) (λ x h. k x)

pub both_has : {A : Type 0} {B : Type 0} {C : Type 0} (P : A → Type 0) (Q : B → Type 0) (R : C → Type 0) (f : A → B → C) (a : Found A) (b : Found B) → IfIs P a → IfIs Q b → ((x : A) (y : B) → P x → Q y → R (f x y)) → IfIs R (both f a b)
both_has P Q R f (Refused g) (Refused k) h i m = tt
both_has P Q R f (Refused g) Unknown h i m = tt
both_has P Q R f (Refused g) (Is y) h i m = tt
both_has P Q R f Unknown (Refused k) h i m = tt
both_has P Q R f Unknown Unknown h i m = tt
both_has P Q R f Unknown (Is y) h i m = tt
both_has P Q R f (Is x) (Refused k) h i m = tt
both_has P Q R f (Is x) Unknown h i m = tt
both_has P Q R f (Is x) (Is y) h i m = m x y h i

pub both_is : {A : Type 0} {B : Type 0} {C : Type 0} (R : C → Type 0) (f : A → B → C) (a : Found A) (b : Found B) → ((x : A) (y : B) → R (f x y)) → IfIs R (both f a b)
both_is R f a b m = both_has Any Any R f a b (anything a) (anything b) (λ x y p q. m x y)

pub and_also_keeps : {A : Type 0} {B : Type 0} (P : A → Type 0) (a : Found A) (b : Found B) → IfIs P a → IfIs P (and_also a b)
and_also_keeps P a b h = both_has P Any P (λ x y. x) a b h (anything b) (λ x y p q. p)

pub unless_keeps : {A : Type 0} (P : A → Type 0) (b : Bool) (r : Code) (p : Place) (a : A) → P a → IfIs P (unless b r p a)
unless_keeps P true r p a h = h
unless_keeps P false r p a h = tt

-- ---- lists

added_has : {A : Type 0} (P : A → Type 0) (done : Found (List A)) (a : Found A) → IfIs (All P) done → IfIs P a → IfIs (All P) (added done a)
added_has P done a h i = both_has (All P) P (All P) (λ xs x. xs ++ (x ∷ [])) done a h i (λ xs x p q. All-push P xs x p q)

onto_has : {A : Type 0} {B : Type 0} (P : A → Type 0) (f : B → Found A) → ((b : B) → IfIs P (f b)) → (bs : List B) (done : Found (List A)) → IfIs (All P) done → IfIs (All P) (all_onto done (map f bs))
onto_has P f h [] done i = i
onto_has P f h (b ∷ bs) done i = onto_has P f h bs (added done (f b)) (added_has P done (f b) i (h b))

pub all_of_has : {A : Type 0} {B : Type 0} (P : A → Type 0) (f : B → Found A) → ((b : B) → IfIs P (f b)) → (bs : List B) → IfIs (All P) (all_of (map f bs))
all_of_has P f h bs = onto_has P f h bs (Is []) (All-nil P)
