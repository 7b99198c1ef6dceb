-- A number that fits 128 bits, as the code and the definition test it.
use Rattle.std.proofs.Common.{◌≡◌, refl, sym, Bool, true, false, Option, Some, None, Result, arith, subst}
use Rattle.std.proofs.lemmas.Int.{ints}
use Rattle.std.specs.Prelude.{ℤ, pos, negsuc, FitsSigned, SomeIff}
use Rattle.std.specs.Int.{w128}
use Rattle.linear_forms.specs.Fits.{fits}
use Rattle.linear_forms.specs.View.{MakesNumber, or_wide}
use Rattle.linear_forms.specs.declared.fault.FormFault.{FormFault}

pub narrow_fits : (z : ℤ) → FitsSigned w128 z → fits z ≡ true
narrow_fits (pos n) f = grind (arith, ints)
narrow_fits (negsuc n) f = grind (arith, ints)

fits_narrow : (z : ℤ) → fits z ≡ true → FitsSigned w128 z
fits_narrow (pos n) h = grind (arith, ints)
fits_narrow (negsuc n) h = grind (arith, ints)

not_narrow : (z : ℤ) → (¬ FitsSigned w128 z) → fits z ≡ false
not_narrow z h = go (fits z) (fits_narrow z)
  where
    go : (b : Bool) → (b ≡ true → FitsSigned w128 z) → b ≡ false
    go true f = absurd (h (f refl))
    go false f = refl

made : (o : Option ℤ) (z : ℤ) → SomeIff o (FitsSigned w128 z) z → MakesNumber z (fits z) (or_wide o)
made (Some x) z h = (h.1, narrow_fits z h.0)
made None z h = not_narrow z h

pub made_number : (o : Option ℤ) (z : ℤ) (r : Result ℤ FormFault) → SomeIff o (FitsSigned w128 z) z → r ≡ or_wide o → MakesNumber z (fits z) r
made_number o z r h e = let P : Result ℤ FormFault → Type 0 = λ s. MakesNumber z (fits z) s in subst P (sym e) (made o z h)
