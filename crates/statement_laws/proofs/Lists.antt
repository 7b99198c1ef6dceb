-- The first of broken rules does not depend on the order of the list, nor on how often a rule stands there; and what is told of lists of parts.
use Rattle.std.proofs.Common.{◌≡◌, refl, sym, ◌∙◌, ap, subst, Bool, true, false, inl, inr, List, [], ◌∷◌, ◌++◌, append_assoc, Option, Some, None}
use Rattle.std.specs.Prelude.{if◌then◌else◌}
use Rattle.front_codes.specs.Codes.{is_before}
use Rattle.front_codes.specs.declared.codes.Refusal.{Refusal}
use Rattle.type_base.specs.Faults.{First, IsIn, NoneBefore}
use Rattle.typing_rules.specs.Fits.{found_fault}
use Rattle.typing_rules.specs.declared.prefix.Found.{Found}
use Rattle.statement_typing.specs.Checks.{added, all_onto, fault_in}
use Rattle.statement_typing.specs.Aspects.{faults_in}
use Rattle.typing_laws.proofs.Merging.{first_alone, first_in, first_joined}
use Rattle.statement_laws.proofs.Telling.{Told, told_in}
use Rattle.statement_laws.proofs.Definitions.{told_added}

-- ---- lists with the same rules

abbrev pub Within : List Refusal → List Refusal → Type 0
Within fs gs = (g : Refusal) → IsIn g fs → IsIn g gs

in_left : (f : Refusal) (fs gs : List Refusal) → IsIn f fs → IsIn f (fs ++ gs)
in_left f [] gs h = absurd h
in_left f (x ∷ fs) gs h = elim h [ inl e ↦ inl e | inr r ↦ inr (in_left f fs gs r) ]

in_right : (f : Refusal) (fs gs : List Refusal) → IsIn f gs → IsIn f (fs ++ gs)
in_right f [] gs h = h
in_right f (x ∷ fs) gs h = inr (in_right f fs gs h)

pub within_itself : (fs : List Refusal) → Within fs fs
within_itself fs g i = i

pub within_left : (fs gs hs : List Refusal) → Within fs gs → Within fs (gs ++ hs)
within_left fs gs hs h g i = in_left g gs hs (h g i)

pub within_right : (fs gs hs : List Refusal) → Within fs hs → Within fs (gs ++ hs)
within_right fs gs hs h g i = in_right g gs hs (h g i)

pub within_both : (fs gs hs : List Refusal) → Within fs hs → Within gs hs → Within (fs ++ gs) hs
within_both [] gs hs h i g j = i g j
within_both (x ∷ fs) gs hs h i g j = elim j [ inl e ↦ h g (inl e) | inr r ↦ within_both fs gs hs (λ z k. h z (inr k)) i g r ]

pub is_later : (f g : Refusal) (fs : List Refusal) → NoneBefore f fs → IsIn g fs → is_before g f ≡ false
is_later f g [] h i = absurd i
is_later f g (x ∷ fs) h i = elim i [ inl e ↦ ap (λ (z : Refusal). is_before z f) e ∙ h.0 | inr r ↦ is_later f g fs h.1 r ]

none_before : (f : Refusal) (fs gs : List Refusal) → NoneBefore f fs → Within gs fs → NoneBefore f gs
none_before f fs [] h i = tt
none_before f fs (g ∷ gs) h i = (is_later f g fs h (i g (inl refl)), none_before f fs gs h (λ z k. i z (inr k)))

empty_by : (gs : List Refusal) → Within gs [] → gs ≡ []
empty_by [] h = refl
empty_by (g ∷ gs) h = absurd (h g (inl refl))

empty_as : (fs gs : List Refusal) → fs ≡ [] → Within gs fs → gs ≡ []
empty_as fs gs e h = empty_by gs (λ g i. subst (IsIn g) e (h g i))

pub first_same : (o : Option Refusal) (fs gs : List Refusal) → Within fs gs → Within gs fs → First o fs → First o gs
first_same None fs gs h i k = empty_as fs gs k i
first_same (Some f) fs gs h i k = (h f k.0, none_before f fs gs k.1 i)

-- ---- lists put together otherwise

pub first_grouped : (o : Option Refusal) (fs gs hs : List Refusal) → First o (fs ++ (gs ++ hs)) → First o ((fs ++ gs) ++ hs)
first_grouped o fs gs hs h = first_in o (fs ++ (gs ++ hs)) ((fs ++ gs) ++ hs) (sym (append_assoc fs gs hs)) h

crossed : (a b c d : List Refusal) → Within ((a ++ b) ++ (c ++ d)) ((a ++ c) ++ (b ++ d))
crossed a b c d =
    within_both (a ++ b) (c ++ d) ((a ++ c) ++ (b ++ d))
    (within_both a b ((a ++ c) ++ (b ++ d))
    (within_left a (a ++ c) (b ++ d) (within_left a a c (within_itself a)))
    (within_right b (a ++ c) (b ++ d) (within_left b b d (within_itself b))))
    (within_both c d ((a ++ c) ++ (b ++ d))
    (within_left c (a ++ c) (b ++ d) (within_right c a c (within_itself c)))
    (within_right d (a ++ c) (b ++ d) (within_right d b d (within_itself d))))

-- the middle two in the other order
pub first_crossed : (o : Option Refusal) (a b c d : List Refusal) → First o ((a ++ b) ++ (c ++ d)) → First o ((a ++ c) ++ (b ++ d))
first_crossed o a b c d h = first_same o ((a ++ b) ++ (c ++ d)) ((a ++ c) ++ (b ++ d)) (crossed a b c d) (crossed a c b d) h

-- two lists that are gone on with
pub first_further : (o : Option Refusal) (a b c d e f : List Refusal) → First o (((a ++ b) ++ c) ++ ((d ++ e) ++ f)) → First o ((a ++ (b ++ c)) ++ (d ++ (e ++ f)))
first_further o a b c d e f h =
    first_in o ((a ++ (b ++ c)) ++ ((d ++ e) ++ f)) ((a ++ (b ++ c)) ++ (d ++ (e ++ f))) (ap (λ (z : List Refusal). (a ++ (b ++ c)) ++ z) (append_assoc d e f))
    (first_in o (((a ++ b) ++ c) ++ ((d ++ e) ++ f)) ((a ++ (b ++ c)) ++ ((d ++ e) ++ f)) (ap (λ (z : List Refusal). z ++ ((d ++ e) ++ f)) (append_assoc a b c)) h)

-- ---- lists of parts

-- what is refused of all parts is the first of these rules
abbrev pub AllTold : {A : Type 0} → List (Found A) → List Refusal → Type 0
AllTold {A} xs fs = (done : Found (List A)) (cs : List Refusal) → Told done cs → Told (all_onto done xs) (cs ++ fs)

pub none_told : {A : Type 0} → AllTold {A = A} [] []
none_told done cs h = first_alone (found_fault done) cs h

pub more_told : {A : Type 0} → (x : Found A) (xs : List (Found A)) (gs fs : List Refusal) → Told x gs → AllTold xs fs → AllTold (x ∷ xs) (gs ++ fs)
more_told x xs gs fs h i done cs j =
    first_joined (found_fault (all_onto (added done x) xs)) cs gs fs (i (added done x) (cs ++ gs) (told_added done x cs gs j h))

pub each_told : {A : Type 0} → (xs : List (Found A)) → AllTold xs (faults_in xs)
each_told [] = none_told
each_told (x ∷ xs) = more_told x xs (fault_in x) (faults_in xs) (told_in x) (each_told xs)

pub told_if : {A : Type 0} → (b : Bool) (x y : Found A) (fs gs : List Refusal) → Told x fs → Told y gs → Told (if b then x else y) (if b then fs else gs)
told_if true x y fs gs h i = h
told_if false x y fs gs h i = i
