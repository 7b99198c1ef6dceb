-- What is found where no rule is broken, and what is so of lists of parts that are found.
use Rattle.std.proofs.Common.{◌≡◌, refl, sym, ap, ◌∙◌, subst, Bool, true, false, List, [], ◌∷◌, ◌++◌, map, None, append-nil, append_assoc}
use Rattle.ada_values.specs.declared.place.Place.{Place}
use Rattle.front_codes.specs.declared.codes.Code.{Code}
use Rattle.front_codes.specs.declared.codes.Refusal.{Refusal}
use Rattle.type_base.specs.Faults.{First}
use Rattle.typing_rules.specs.declared.prefix.Found.{Found}
use Rattle.typing_rules.specs.declared.prefix.Found.TheVariants as found
use Rattle.typing_rules.specs.Fits.{found_fault}
use Rattle.statement_typing.specs.Checks.{added, all_onto, unless}
use Rattle.typing_relations.proofs.Accepting.{Finds, finds_itself, finds_map}
use Rattle.statement_relations.proofs.Parted.{IsAdded, added_is}
use Rattle.known_statements.specs.Declared.{IsFound}

-- ---- no rule is broken

abbrev IsEmpty : List Refusal → Type 0
IsEmpty [] = Unit {0}
IsEmpty (f ∷ fs) = ⊥

-- of lists together, none has any
pub left_empty : (fs gs : List Refusal) → fs ++ gs ≡ [] → fs ≡ []
left_empty [] gs e = refl
left_empty (f ∷ fs) gs e = absurd (subst IsEmpty (sym e) tt)

pub right_empty : (fs gs : List Refusal) → fs ++ gs ≡ [] → gs ≡ []
right_empty [] gs e = e
right_empty (f ∷ fs) gs e = absurd (subst IsEmpty (sym e) tt)

-- what is found
pub record IsThis {A : Type 0} (x : Found A) : Type 0 where
  pub this : A
  pub is : x ≡ found.Is this

pub none_is : (fs : List Refusal) → First None fs → fs ≡ []
none_is fs h = h

pub found_is : {A : Type 0} → (x : Found A) (fs : List Refusal) → First (found_fault x) fs → fs ≡ [] → IsFound x → IsThis x
found_is (found.Refused f) [] h e i = absurd h.0
found_is (found.Refused f) (g ∷ gs) h e i = absurd (subst IsEmpty (sym e) tt)
found_is found.Unknown fs h e i = absurd i
found_is (found.Is a) fs h e i = record { this = a; is = refl }

-- ---- parts

pub unless_keeps : {A : Type 0} → (P : A → Type 0) (b : Bool) (r : Code) (p : Place) (a : A) → (b ≡ true → P a) → Finds (unless b r p a) P
unless_keeps P true r p a h = h refl
unless_keeps P false r p a h = tt

-- parts that are all found, after those done
pub record AllAre {A : Type 0} (done : Found (List A)) (xs : List (Found A)) (ys : List A) : Type 0 where
  pub before : List A
  pub items : List A
  pub is_before : done ≡ found.Is before
  pub are_items : xs ≡ map found.Is items
  pub together : ys ≡ before ++ items

pub all_onto_are : {A : Type 0} → (done : Found (List A)) (xs : List (Found A)) → Finds (all_onto done xs) (AllAre done xs)
all_onto_are done [] = finds_map (λ ys. done ≡ found.Is ys) (AllAre done []) (λ ys e. record { before = ys; items = []; is_before = e; are_items = refl; together = sym (append-nil ys) }) done (finds_itself done)
all_onto_are {A = A} done (x ∷ xs) = finds_map (AllAre (added done x) xs) (AllAre done (x ∷ xs)) one (all_onto (added done x) xs) (all_onto_are (added done x) xs)
  where
    one : (ys : List A) → AllAre (added done x) xs ys → AllAre done (x ∷ xs) ys
    one ys h =
        let d : IsAdded done x h.before = added_is done x h.before h.is_before in
        record {
          before = d.before;
          items = d.item ∷ h.items;
          is_before = d.is_before;
          are_items = ap (λ (y : Found A). y ∷ xs) d.is_item ∙ ap (λ (l : List (Found A)). found.Is d.item ∷ l) h.are_items;
          together = h.together ∙ ap (λ (l : List A). l ++ h.items) d.together ∙ append_assoc d.before (d.item ∷ []) h.items;
        }

-- all parts of a list
pub all_are : {A : Type 0} → (xs : List (Found A)) → Finds (all_onto (found.Is []) xs) (λ ys. xs ≡ map found.Is ys)
all_are {A = A} xs = finds_map (AllAre (found.Is []) xs) (λ ys. xs ≡ map found.Is ys) whole (all_onto (found.Is []) xs) (all_onto_are (found.Is []) xs)
  where
    nothing : (l : List A) → found.Is [] ≡ found.Is l → l ≡ []
    nothing l e = cc

    whole : (ys : List A) → AllAre (found.Is []) xs ys → xs ≡ map found.Is ys
    whole ys h =
        let same : ys ≡ h.items = h.together ∙ ap (λ (l : List A). l ++ h.items) (nothing h.before h.is_before) in
        h.are_items ∙ ap (map found.Is) (sym same)

-- the first and the others of parts that are found
pub record FirstAnd {A : Type 0} (x : Found A) (xs : List (Found A)) (ys : List A) : Type 0 where
  pub first : A
  pub others : List A
  pub is_first : x ≡ found.Is first
  pub are_others : xs ≡ map found.Is others
  pub together : ys ≡ first ∷ others

pub first_and : {A : Type 0} → (x : Found A) (xs : List (Found A)) (ys : List A) → x ∷ xs ≡ map found.Is ys → FirstAnd x xs ys
first_and x xs [] e = no_first e
  where
    no_first : {B : Type 0} → x ∷ xs ≡ [] → B
    no_first e = cc
first_and x xs (y ∷ ys) e = record { first = y; others = ys; is_first = cc; are_others = cc; together = refl }

pub none_and : {A : Type 0} → (ys : List A) → [] ≡ map found.Is ys → ys ≡ []
none_and [] e = refl
none_and (y ∷ ys) e = cc
