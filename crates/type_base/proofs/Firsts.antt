-- The first of broken rules, where lists of them are put together.
use Rattle.std.proofs.Common.{◌≡◌, refl, sym, ◌∙◌, ap, subst, Bool, true, false, true≢false, inl, inr, List, [], ◌∷◌, ◌++◌, Option, Some, None}
use Rattle.std.specs.Prelude.{if◌then◌else◌}
use Rattle.front_codes.specs.Codes.{first_of_two, is_before}
use Rattle.front_codes.specs.declared.codes.Refusal.{Refusal}
use Rattle.front_codes.proofs.Order.{before_chain, before_itself, before_neither}
use Rattle.type_base.specs.Faults.{First, IsIn, NoneBefore, listed}

-- f isn't before h, where it isn't before g, nor g before h
later_by : (f g h : Refusal) → is_before f g ≡ false → is_before g h ≡ false → (b c : Bool) → is_before f h ≡ b → is_before g f ≡ c → is_before f h ≡ false
later_by f g h i j false c e d = e
later_by f g h i j true true e d = absurd (true≢false (sym (before_chain g f h d e) ∙ j))
later_by f g h i j true false e d = absurd (true≢false (sym e ∙ ap (λ (x : Refusal). is_before x h) (before_neither f g i d) ∙ j))

later : (f g h : Refusal) → is_before f g ≡ false → is_before g h ≡ false → is_before f h ≡ false
later f g h i j = later_by f g h i j (is_before f h) (is_before g f) refl refl

earlier_by : (f g h : Refusal) → is_before f g ≡ false → is_before h g ≡ true → (b : Bool) → is_before f h ≡ b → is_before f h ≡ false
earlier_by f g h i j false e = e
earlier_by f g h i j true e = absurd (true≢false (sym (before_chain f h g e j) ∙ i))

earlier : (f g h : Refusal) → is_before f g ≡ false → is_before h g ≡ true → is_before f h ≡ false
earlier f g h i j = earlier_by f g h i j (is_before f h) refl

-- ---- the first of two lists

in_left : (f : Refusal) (fs gs : List Refusal) → IsIn f fs → IsIn f (fs ++ gs)
in_left f [] gs h = absurd h
in_left f (x ∷ fs) gs h = elim h [ inl e ↦ inl e | inr r ↦ inr (in_left f fs gs r) ]

in_right : (f : Refusal) (fs gs : List Refusal) → IsIn f gs → IsIn f (fs ++ gs)
in_right f [] gs h = h
in_right f (x ∷ fs) gs h = inr (in_right f fs gs h)

none_both : (f : Refusal) (fs gs : List Refusal) → NoneBefore f fs → NoneBefore f gs → NoneBefore f (fs ++ gs)
none_both f [] gs h g = g
none_both f (x ∷ fs) gs h g = (h.0, none_both f fs gs h.1 g)

none_later : (f g : Refusal) → is_before g f ≡ false → (gs : List Refusal) → NoneBefore g gs → NoneBefore f gs
none_later f g e [] h = tt
none_later f g e (x ∷ gs) h = (later x g f h.0 e, none_later f g e gs h.1)

none_earlier : (f g : Refusal) → is_before g f ≡ true → (fs : List Refusal) → NoneBefore f fs → NoneBefore g fs
none_earlier f g e [] h = tt
none_earlier f g e (x ∷ fs) h = (earlier x f g h.0 e, none_earlier f g e fs h.1)

-- the first of two refusals, where there are any
abbrev pub merge : Option Refusal → Option Refusal → Option Refusal
merge None u = u
merge (Some f) None = Some f
merge (Some f) (Some g) = Some (first_of_two f g)

two : (f g : Refusal) (fs gs : List Refusal) → First (Some f) fs → First (Some g) gs → (b : Bool) → is_before g f ≡ b → First (Some (if b then g else f)) (fs ++ gs)
two f g fs gs h i true e = (in_right g fs gs i.0, none_both g fs gs (none_earlier f g e fs h.1) i.1)
two f g fs gs h i false e = (in_left f fs gs h.0, none_both f fs gs h.1 (none_later f g e gs i.1))

pub first_both : (o u : Option Refusal) (fs gs : List Refusal) → First o fs → First u gs → First (merge o u) (fs ++ gs)
first_both None u fs gs h i = let P : List Refusal → Type 0 = λ xs. First u (xs ++ gs) in subst P (sym h) i
first_both (Some f) None fs gs h i = (in_left f fs gs h.0, none_both f fs gs h.1 (subst (NoneBefore f) (sym i) tt))
first_both (Some f) (Some g) fs gs h i = two f g fs gs h i (is_before g f) refl

pub first_listed : (o : Option Refusal) → First o (listed o)
first_listed None = refl
first_listed (Some f) = (inl refl, (before_itself f, tt))

-- one more demand, at the end of the list
pub step : (o u w : Option Refusal) (fs : List Refusal) → w ≡ merge o u → First o fs → First w (fs ++ listed u)
step o u w fs e h = let P : Option Refusal → Type 0 = λ z. First z (fs ++ listed u) in subst P (sym e) (first_both o u fs (listed u) h (first_listed u))
