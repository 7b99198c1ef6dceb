-- Where a gathering has a number that does not fit, so has the form that it serves.
use Rattle.std.proofs.Common.{◌≡◌, refl, ap, Bool, true, false, List, []}
use Rattle.std.specs.Prelude.{◌&&◌, ℤ, ◌+ℤ◌, ◌*ℤ◌}
use Rattle.linear_forms.specs.Form.{Monomial, Form, gathered, scaled, products}
use Rattle.linear_forms.specs.Fits.{fits, gathering_fits, combining_fits, multiplying_fits}
use Rattle.linear_forms.proofs.Gathering.{first_fails}

last_fails : (a b r : Bool) → r ≡ false → (a && (b && r)) ≡ false
last_fails true true r e = e
last_fails true false r e = refl
last_fails false b r e = refl

either_fails : (a b : Bool) → b ≡ false → (a && b) ≡ false
either_fails true b e = e
either_fails false b e = refl

abbrev constants_fit : ℤ → Form → ℤ → Form → Bool
constants_fit m a n b = fits (m *ℤ a.constant) && (fits (n *ℤ b.constant) && fits (m *ℤ a.constant +ℤ n *ℤ b.constant))

pub combining_first : (m : ℤ) (a : Form) (n : ℤ) (b : Form) → gathering_fits (scaled m a.monomials) [] ≡ false → combining_fits m a n b ≡ false
combining_first m a n b e =
    first_fails (constants_fit m a n b) (gathering_fits (scaled m a.monomials) []) (gathering_fits (scaled n b.monomials) (gathered (scaled m a.monomials) [])) e

pub combining_second : (m : ℤ) (a : Form) (n : ℤ) (b : Form) → gathering_fits (scaled n b.monomials) (gathered (scaled m a.monomials) []) ≡ false → combining_fits m a n b ≡ false
combining_second m a n b e =
    last_fails (constants_fit m a n b) (gathering_fits (scaled m a.monomials) []) (gathering_fits (scaled n b.monomials) (gathered (scaled m a.monomials) [])) e

abbrev pub first_terms : Form → Form → List Monomial
first_terms a b = gathered (scaled a.constant b.monomials) []

abbrev pub second_terms : Form → Form → List Monomial
second_terms a b = gathered (scaled b.constant a.monomials) (first_terms a b)

abbrev first_fit : Form → Form → Bool
first_fit a b = gathering_fits (scaled a.constant b.monomials) []

abbrev second_fit : Form → Form → Bool
second_fit a b = gathering_fits (scaled b.constant a.monomials) (first_terms a b)

abbrev third_fit : Form → Form → Bool
third_fit a b = gathering_fits (products a.monomials b.monomials) (second_terms a b)

pub multiplying_first : (a b : Form) → gathering_fits (scaled a.constant b.monomials) [] ≡ false → multiplying_fits a b ≡ false
multiplying_first a b e = first_fails (fits (a.constant *ℤ b.constant)) (first_fit a b) (second_fit a b && third_fit a b) e

pub multiplying_second : (a b : Form) → gathering_fits (scaled b.constant a.monomials) (first_terms a b) ≡ false → multiplying_fits a b ≡ false
multiplying_second a b e =
    last_fails (fits (a.constant *ℤ b.constant)) (first_fit a b) (second_fit a b && third_fit a b) (ap (λ (x : Bool). x && third_fit a b) e)

pub multiplying_third : (a b : Form) → gathering_fits (products a.monomials b.monomials) (second_terms a b) ≡ false → multiplying_fits a b ≡ false
multiplying_third a b e =
    last_fails (fits (a.constant *ℤ b.constant)) (first_fit a b) (second_fit a b && third_fit a b) (either_fails (second_fit a b) (third_fit a b) e)
