-- A number that fits 128 bits, as the code and the definition test it.
use Rattle.std.proofs.Common.{◌≡◌, refl, sym, ◌∙◌, ap, ℕ, Bool, true, false, Option, Some, None, arith}
use Rattle.std.proofs.lemmas.Int.{ints}
use Rattle.std.specs.Prelude.{ℤ, pos, negsuc, FitsSigned, SomeIff, if◌then◌else◌}
use Rattle.std.specs.Int.{w128}
use Rattle.logic_terms.specs.Value.{number}
use Rattle.logic_terms.specs.Run.{gives, wide, checked, is_narrow}
use Rattle.logic_truth.specs.Found.{option_outcome}

narrow_fits : (z : ℤ) → FitsSigned w128 z → is_narrow z ≡ true
narrow_fits (pos n) f = grind (arith, ints)
narrow_fits (negsuc n) f = grind (arith, ints)

fits_narrow : (z : ℤ) → is_narrow z ≡ true → FitsSigned w128 z
fits_narrow (pos n) h = grind (arith, ints)
fits_narrow (negsuc n) h = grind (arith, ints)

not_narrow : (z : ℤ) → (¬ FitsSigned w128 z) → is_narrow z ≡ false
not_narrow z h = go (is_narrow z) (fits_narrow z)
  where
    go : (b : Bool) → (b ≡ true → FitsSigned w128 z) → b ≡ false
    go true f = absurd (h (f refl))
    go false f = refl

pub checked_option : (o : Option ℤ) (z : ℤ) (n : ℕ) → SomeIff o (FitsSigned w128 z) z → checked z n ≡ option_outcome o n
checked_option (Some x) z n h = ap (λ b. if b then gives (number z) n else wide) (narrow_fits z h.0) ∙ ap (λ y. gives (number y) n) (sym h.1)
checked_option None z n h = ap (λ b. if b then gives (number z) n else wide) (not_narrow z h)
