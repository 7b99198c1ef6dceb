-- The laws of the integer divisions. -- Ada RM 4.5.5
use Rattle.std.specs.Prelude.{◌≡◌, ◌≢◌, ◌<◌, ℤ, pos, ◌+ℤ◌, ◌-ℤ◌, ◌*ℤ◌, ◌≤ℤ◌, ◌<ℤ◌, unsigned_abs, int_div, int_rem}
use Rattle.ada_values.specs.Combine.{floor_mod}

-- `a - m` is a multiple of b, and m has the sign of b and is smaller than b
pub record IsModulo (a b m : ℤ) : Type 0 where
  pub multiple : (k : ℤ) × ((a -ℤ m) ≡ (k *ℤ b))
  pub above : pos 0 <ℤ b → (pos 0 ≤ℤ m) × (m <ℤ b)
  pub below : b <ℤ pos 0 → (b <ℤ m) × (m ≤ℤ pos 0)

-- `a` is q times b, and r, which has the sign of a and is smaller than b
pub record IsQuotient (a b q r : ℤ) : Type 0 where
  pub sum : a ≡ ((q *ℤ b) +ℤ r)
  pub smaller : unsigned_abs r < unsigned_abs b
  pub above : pos 0 ≤ℤ a → pos 0 ≤ℤ r
  pub below : a ≤ℤ pos 0 → r ≤ℤ pos 0

abbrev pub ModuloLaw : Type 0
ModuloLaw = (a b : ℤ) → b ≢ pos 0 → IsModulo a b (floor_mod a b)

abbrev pub QuotientLaw : Type 0
QuotientLaw = (a b : ℤ) → b ≢ pos 0 → IsQuotient a b (int_div a b) (int_rem a b)
