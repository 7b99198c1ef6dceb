-- Which of several refusals is the first, and the first of a list that is put together.
use Rattle.std.proofs.Common.{◌≡◌, refl, sym, ◌∙◌, ap, subst, Bool, true, false, true≢false, List, [], ◌++◌, append_assoc, Option, Some, None}
use Rattle.std.specs.Prelude.{if◌then◌else◌}
use Rattle.front_codes.specs.Codes.{first_of_two, is_before}
use Rattle.front_codes.specs.declared.codes.Refusal.{Refusal}
use Rattle.front_codes.proofs.Order.{before_chain, before_itself, before_neither}
use Rattle.type_base.specs.Faults.{First, listed}
use Rattle.type_base.proofs.Firsts.{first_both, merge, step}

-- ---- the first of two

chosen_as : (f g : Refusal) (b : Bool) → is_before g f ≡ b → first_of_two f g ≡ (if b then g else f)
chosen_as f g b e = ap (λ (z : Bool). if z then g else f) e

swapped_by : (f g : Refusal) (a b : Bool) → is_before g f ≡ a → is_before f g ≡ b → first_of_two f g ≡ first_of_two g f
swapped_by f g true true e d = absurd (true≢false (sym (before_chain f g f d e) ∙ before_itself f))
swapped_by f g true false e d = chosen_as f g true e ∙ sym (chosen_as g f false d)
swapped_by f g false true e d = chosen_as f g false e ∙ sym (chosen_as g f true d)
swapped_by f g false false e d = chosen_as f g false e ∙ before_neither f g d e ∙ sym (chosen_as g f false d)

pub first_swapped : (f g : Refusal) → first_of_two f g ≡ first_of_two g f
first_swapped f g = swapped_by f g (is_before g f) (is_before f g) refl refl

first_itself : (f : Refusal) → first_of_two f f ≡ f
first_itself f = chosen_as f f false (before_itself f)

again_by : (f g : Refusal) (b : Bool) → is_before g f ≡ b → first_of_two f (first_of_two f g) ≡ first_of_two f g
again_by f g true e = ap (first_of_two f) (chosen_as f g true e)
again_by f g false e = ap (first_of_two f) (chosen_as f g false e) ∙ first_itself f ∙ sym (chosen_as f g false e)

first_again : (f g : Refusal) → first_of_two f (first_of_two f g) ≡ first_of_two f g
first_again f g = again_by f g (is_before g f) refl

-- ---- the first of two that may be missing

pub merge_none : (o : Option Refusal) → merge o None ≡ o
merge_none None = refl
merge_none (Some f) = refl

pub merge_swapped : (o u : Option Refusal) → merge o u ≡ merge u o
merge_swapped None u = sym (merge_none u)
merge_swapped (Some f) None = refl
merge_swapped (Some f) (Some g) = ap Some (first_swapped f g)

pub merge_itself : (o : Option Refusal) → merge o o ≡ o
merge_itself None = refl
merge_itself (Some f) = ap Some (first_itself f)

pub merge_again : (o u : Option Refusal) → merge o (merge o u) ≡ merge o u
merge_again None u = refl
merge_again (Some f) None = merge_itself (Some f)
merge_again (Some f) (Some g) = ap Some (first_again f g)

pub merge_later : (o u : Option Refusal) → merge o (merge u o) ≡ merge u o
merge_later o u = ap (merge o) (merge_swapped u o) ∙ merge_again o u ∙ merge_swapped o u

-- ---- the first of a list

pub first_as : (o u : Option Refusal) (fs : List Refusal) → o ≡ u → First u fs → First o fs
first_as o u fs e h = subst (λ (z : Option Refusal). First z fs) (sym e) h

pub first_in : (o : Option Refusal) (fs gs : List Refusal) → fs ≡ gs → First o fs → First o gs
first_in o fs gs e h = subst (λ (z : List Refusal). First o z) e h

pub first_after : (u : Option Refusal) (fs gs : List Refusal) → First None fs → First u gs → First u (fs ++ gs)
first_after u fs gs h i = first_both None u fs gs h i

pub first_alone : (o : Option Refusal) (fs : List Refusal) → First o fs → First o (fs ++ [])
first_alone o fs h = first_as o (merge o None) (fs ++ []) (sym (merge_none o)) (first_both o None fs [] h refl)

-- a demand that is told besides what is refused before it
pub first_within : (i u : Option Refusal) (fs : List Refusal) → First i fs → merge i u ≡ u → First u (fs ++ listed u)
first_within i u fs h e = step i u u fs (sym e) h

-- one more part
pub first_more : (o u v : Option Refusal) (fs gs : List Refusal) → v ≡ merge o u → First o fs → First u gs → First v (fs ++ gs)
first_more o u v fs gs e h i = first_as v (merge o u) (fs ++ gs) e (first_both o u fs gs h i)

pub first_joined : (o : Option Refusal) (fs gs hs : List Refusal) → First o ((fs ++ gs) ++ hs) → First o (fs ++ (gs ++ hs))
first_joined o fs gs hs h = first_in o ((fs ++ gs) ++ hs) (fs ++ (gs ++ hs)) (append_assoc fs gs hs) h
