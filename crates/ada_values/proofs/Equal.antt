-- Lists of different lengths are not equal, and do not fit each other.
use Rattle.std.proofs.Common.{◌≡◌, ◌≢◌, refl, ap, Bool, true, false, ◌&&◌, suc, ℕ, List, [], ◌∷◌, length, slice_get}
use Rattle.ada_values.specs.Value.{value, values, same_val, same_vals}
use Rattle.ada_values.specs.Shapes.{fits, each_fits}
use Rattle.ada_values.specs.declared.shapes.Shape.{Shape}
use Rattle.ada_values.specs.declared.values.Value.{Value}

and_false : (b : Bool) → (b && false) ≡ false
and_false true = refl
and_false false = refl

pub unlike : (xs ys : List Value) → length xs ≢ length ys → same_vals (values xs) (values ys) ≡ false
unlike [] [] n = absurd (n refl)
unlike [] (y ∷ ys) n = refl
unlike (x ∷ xs) [] n = refl
unlike (x ∷ xs) (y ∷ ys) n = rw (unlike xs ys (λ e. n (ap suc e))) (and_false (same_val (value x) (value y)))

pub unfit : (shapes : List Shape) (ids : List ℕ) (xs : List Value) → length ids ≢ length xs → each_fits shapes ids (values xs) ≡ false
unfit shapes [] [] n = absurd (n refl)
unfit shapes [] (x ∷ xs) n = refl
unfit shapes (i ∷ ids) [] n = refl
unfit shapes (i ∷ ids) (x ∷ xs) n = rw (unfit shapes ids xs (λ e. n (ap suc e))) (and_false (fits shapes (slice_get shapes i) (value x)))
