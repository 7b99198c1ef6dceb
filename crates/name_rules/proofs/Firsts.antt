-- The first of a list of faults is one of them, with no other before it.
use Rattle.std.proofs.Common.{◌≡◌, refl, sym, subst, Bool, true, false, inl, inr, List, [], ◌∷◌, Option, Some, None, arith}
use Rattle.std.proofs.lemmas.Bool.Decides.{nat_tests}
use Rattle.std.specs.Prelude.{if◌then◌else◌}
use Rattle.name_library.specs.declared.links.Fault.{Fault}
use Rattle.name_rules.specs.Faults.{is_before, first_of, lesser, NoneBefore, IsFirst}

never_before_itself : (f : Fault) → is_before f f ≡ false
never_before_itself f = grind (arith, nat_tests)

-- h is not before f, where it is not before g, nor g before f
later : (f g h : Fault) → is_before h g ≡ false → is_before g f ≡ false → is_before h f ≡ false
later f g h a b = grind (arith, nat_tests)

not_both : (f g : Fault) → is_before g f ≡ true → is_before f g ≡ false
not_both f g a = grind (arith, nat_tests)

none_later : (f g : Fault) → is_before g f ≡ false → (fs : List Fault) → NoneBefore g fs → NoneBefore f fs
none_later f g e [] h = tt
none_later f g e (x ∷ fs) h = (later f g x h.0 e, none_later f g e fs h.1)

chosen : (f g : Fault) (fs : List Fault) (b : Bool) → is_before g f ≡ b → IsFirst (Some g) fs → IsFirst (if b then Some g else Some f) (f ∷ fs)
chosen f g fs true e h = (inr h.0, (not_both f g e, h.1))
chosen f g fs false e h = (inl refl, (never_before_itself f, none_later f g e fs h.1))

with_one : (f : Fault) (o : Option Fault) (fs : List Fault) → IsFirst o fs → IsFirst (lesser f o) (f ∷ fs)
with_one f None fs h = (inl refl, (never_before_itself f, subst (NoneBefore f) (sym h) tt))
with_one f (Some g) fs h = chosen f g fs (is_before g f) refl h

pub first : (fs : List Fault) → IsFirst (first_of fs) fs
first [] = refl
first (f ∷ fs) = with_one f (first_of fs) fs (first fs)
