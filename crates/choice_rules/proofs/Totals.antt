-- What is found of choices together is what is heard of them, and their values or choices.
use Rattle.std.proofs.Common.{◌≡◌, refl, ap, sym, ◌∙◌, List, [], ◌∷◌, ◌++◌, append-nil, append_assoc, map, true}
use Rattle.typed_units.specs.declared.operators.Bounds.{Bounds}
use Rattle.typed_units.specs.declared.statements.Choice.{Choice}
use Rattle.typing_rules.specs.declared.prefix.Found.{Found}
use Rattle.typing_rules.specs.declared.prefix.Found.TheVariants.{Refused, Unknown, Is}
use Rattle.typing_rules.specs.Fits.{with_found}
use Rattle.statement_typing.specs.declared.parts.Spread.{Spread}
use Rattle.statement_typing.specs.Checks.{added, all_of, all_onto, and_also}
use Rattle.choice_rules.specs.Steps.{choices_after, heard, heard_after, known_after, with_values}

-- ---- one part more

pub heard_added : {A : Type 0} (done : Found (List A)) (x : Found A) → heard (added done x) ≡ and_also (heard done) (heard x)
heard_added (Refused f) (Refused g) = refl
heard_added (Refused f) Unknown = refl
heard_added (Refused f) (Is x) = refl
heard_added Unknown (Refused g) = refl
heard_added Unknown Unknown = refl
heard_added Unknown (Is x) = refl
heard_added (Is xs) (Refused g) = refl
heard_added (Is xs) Unknown = refl
heard_added (Is xs) (Is x) = refl

heard_onto : (done : Found (List Spread)) (xs : List (Found Spread)) → heard (all_onto done xs) ≡ heard_after (heard done) xs
heard_onto done [] = refl
heard_onto done (x ∷ xs) = heard_onto (added done x) xs ∙ ap (λ (t : Found (Unit {0})). heard_after t xs) (heard_added done x)

heard_is : (xs : List (Found Spread)) → heard (all_of xs) ≡ heard_after (Is tt) xs
heard_is xs = heard_onto (Is []) xs

true_where : (a : Found (List Spread)) → with_found (λ u. true) (heard a) ≡ with_found (λ ys. true) a
true_where (Refused f) = refl
true_where Unknown = refl
true_where (Is ys) = refl

pub all_true : (xs : List (Found Spread)) → with_found (λ u. true) (heard_after (Is tt) xs) ≡ with_found (λ ys. true) (all_of xs)
all_true xs = ap (with_found (λ (u : Unit {0}). true)) (sym (heard_is xs)) ∙ true_where (all_of xs)

-- ---- choices

map_more : (vs : List Spread) (x : Spread) → map (λ s. s.choice) vs ++ x.choice ∷ [] ≡ map (λ s. s.choice) (vs ++ x ∷ [])
map_more [] x = refl
map_more (v ∷ vs) x = ap (λ (cs : List Choice). v.choice ∷ cs) (map_more vs x)

abbrev choices_in : Found (List Spread) → Found (List Choice)
choices_in xs = with_found (map (λ s. s.choice)) xs

chosen_added : (done : Found (List Spread)) (x : Found Spread) → added (choices_in done) (with_found (λ s. s.choice) x) ≡ choices_in (added done x)
chosen_added (Refused f) (Refused g) = refl
chosen_added (Refused f) Unknown = refl
chosen_added (Refused f) (Is x) = refl
chosen_added Unknown (Refused g) = refl
chosen_added Unknown Unknown = refl
chosen_added Unknown (Is x) = refl
chosen_added (Is vs) (Refused g) = refl
chosen_added (Is vs) Unknown = refl
chosen_added (Is vs) (Is x) = ap Is (map_more vs x)

chosen_onto : (done : Found (List Spread)) (xs : List (Found Spread)) → choices_after (choices_in done) xs ≡ choices_in (all_onto done xs)
chosen_onto done [] = refl
chosen_onto done (x ∷ xs) = ap (λ (d : Found (List Choice)). choices_after d xs) (chosen_added done x) ∙ chosen_onto (added done x) xs

pub chosen_is : (xs : List (Found Spread)) → choices_after (Is []) xs ≡ with_found (map (λ s. s.choice)) (all_of xs)
chosen_is xs = chosen_onto (Is []) xs

-- ---- values

abbrev pub values_of : List (Found Spread) → List Bounds
values_of [] = []
values_of (Is x ∷ xs) = x.values ∷ values_of xs
values_of (Unknown ∷ xs) = values_of xs
values_of (Refused f ∷ xs) = values_of xs

pub known_is : (bs : List Bounds) (xs : List (Found Spread)) → known_after bs xs ≡ bs ++ values_of xs
known_is bs [] = sym (append-nil bs)
known_is bs (Is x ∷ xs) = known_is (bs ++ x.values ∷ []) xs ∙ append_assoc bs (x.values ∷ []) (values_of xs)
known_is bs (Unknown ∷ xs) = known_is bs xs
known_is bs (Refused f ∷ xs) = known_is bs xs

-- the values of a choice, whichever were before it
abbrev pub kept : Found Spread → Found Bounds
kept x = with_found (λ s. s.values) x

abbrev pub all_kept : List (Found Spread) → List (Found Bounds)
all_kept [] = []
all_kept (x ∷ xs) = kept x ∷ all_kept xs

abbrev pub if_heard : Found (Unit {0}) → List Bounds → Found (List Bounds)
if_heard t bs = with_found (λ u. bs) t

kept_added : (t : Found (Unit {0})) (bs : List Bounds) (x : Found Spread) → added (if_heard t bs) (kept x) ≡ if_heard (and_also t (heard x)) (with_values bs x)
kept_added (Refused f) bs (Refused g) = refl
kept_added (Refused f) bs Unknown = refl
kept_added (Refused f) bs (Is x) = refl
kept_added Unknown bs (Refused g) = refl
kept_added Unknown bs Unknown = refl
kept_added Unknown bs (Is x) = refl
kept_added (Is u) bs (Refused g) = refl
kept_added (Is u) bs Unknown = refl
kept_added (Is u) bs (Is x) = refl

pub kept_onto : (t : Found (Unit {0})) (bs : List Bounds) (xs : List (Found Spread)) → all_onto (if_heard t bs) (all_kept xs) ≡ if_heard (heard_after t xs) (known_after bs xs)
kept_onto t bs [] = refl
kept_onto t bs (x ∷ xs) =
    ap (λ (d : Found (List Bounds)). all_onto d (all_kept xs)) (kept_added t bs x)
    ∙ kept_onto (and_also t (heard x)) (with_values bs x) xs
