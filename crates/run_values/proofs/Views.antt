-- Values of a run in the code and in the definitions.
use Rattle.std.proofs.Common.{◌≡◌, ◌≢◌, refl, sym, ap, ◌∙◌, arith, ℕ, zero, suc, ◌+◌, Bool, true, false, ◌&&◌, ℤ, List, [], ◌∷◌, length, drop}
use Rattle.std.specs.Prelude.{slice_get, slice_set, Some, option_map}
use Rattle.ada_values.specs.Value.{Val, number, truth, array, record_of, val, val_at, with_val, same_val, same_vals}
use Rattle.run_values.specs.RunValues.{run_value, run_values, run_value_step}
use Rattle.run_values.specs.declared.values.RunArray.{RunArray}
use Rattle.run_values.specs.declared.values.RunValue.{RunValue, out-RunValue, map-RunValue, fold_out-RunValue}
use Rattle.run_values.specs.declared.values.RunValue.TheOpen.{RunValue-F}
use Rattle.run_values.specs.declared.values.RunValue.TheVariants as v

-- ---- the view of each variant
run_value_opens : (x : RunValue) (y : RunValue-F RunValue) → out-RunValue x ≡ y → run_value x ≡ run_value_step (map-RunValue RunValue Val run_value y)
run_value_opens x y h = rw h at (fold_out-RunValue Val run_value_step x)

pub run_value_Int : (n : ℤ) → run_value (v.Int n) ≡ number n
run_value_Int n = run_value_opens _ _ (v.outs-Int n)

pub run_value_Bool : (b : Bool) → run_value (v.Bool b) ≡ truth b
run_value_Bool b = run_value_opens _ _ (v.outs-Bool b)

pub run_value_Arr : (a : RunArray RunValue) → run_value (v.Arr a) ≡ array a.first a.last (run_values a.items)
run_value_Arr a = run_value_opens _ _ (v.outs-Arr a)

pub run_value_Rec : (xs : List RunValue) → run_value (v.Rec xs) ≡ record_of (run_values xs)
run_value_Rec xs = run_value_opens _ _ (v.outs-Rec xs)

pub ruleset views = (run_value_Int, run_value_Bool, run_value_Arr, run_value_Rec)

-- ---- equality
and_false : (b : Bool) → (b && false) ≡ false
and_false true = refl
and_false false = refl

pub unlike : (xs ys : List RunValue) → length xs ≢ length ys → same_vals (run_values xs) (run_values ys) ≡ false
unlike [] [] n = absurd (n refl)
unlike [] (y ∷ ys) n = refl
unlike (x ∷ xs) [] n = refl
unlike (x ∷ xs) (y ∷ ys) n = rw (unlike xs ys (λ e. n (ap suc e))) (and_false (same_val (run_value x) (run_value y)))

-- ---- the items of a list
pub val_at-run_values : (xs : List RunValue) (k : ℕ) → val_at (run_values xs) k ≡ option_map run_value (slice_get xs k)
val_at-run_values [] k = refl
val_at-run_values (x ∷ xs) zero = refl
val_at-run_values (x ∷ xs) (suc k) = val_at-run_values xs k

pub run_values-set : (xs : List RunValue) (k : ℕ) (x : RunValue) → run_values (slice_set xs k x) ≡ with_val (run_values xs) k (run_value x)
run_values-set [] k x = refl
run_values-set (y ∷ ys) zero x = refl
run_values-set (y ∷ ys) (suc k) x = ap (val (run_value y)) (run_values-set ys k x)

-- ---- equality, item by item
same_at : (xs ys : List RunValue) (i : ℕ) (x y : RunValue) → slice_get xs i ≡ Some x → slice_get ys i ≡ Some y
    → same_vals (run_values (drop i xs)) (run_values (drop i ys)) ≡ (same_val (run_value x) (run_value y) && same_vals (run_values (drop (suc i) xs)) (run_values (drop (suc i) ys)))
same_at [] ys i x y h g = absurd cc
same_at (u ∷ us) [] i x y h g = absurd cc
same_at (u ∷ us) (w ∷ ws) zero x y h g =
    let e : u ≡ x = cc in let f : w ≡ y = cc in
    ap (λ v. same_val (run_value v) (run_value w) && same_vals (run_values us) (run_values ws)) e
    ∙ ap (λ v. same_val (run_value x) (run_value v) && same_vals (run_values us) (run_values ws)) f
same_at (u ∷ us) (w ∷ ws) (suc i) x y h g = same_at us ws i x y h g

pub same_so_far : (xs ys : List RunValue) (i : ℕ) (x y : RunValue) (t : Bool) → slice_get xs i ≡ Some x → slice_get ys i ≡ Some y → t ≡ same_val (run_value x) (run_value y)
    → t ≡ true → same_vals (run_values (drop (i + 1) xs)) (run_values (drop (i + 1) ys)) ≡ same_vals (run_values (drop i xs)) (run_values (drop i ys))
same_so_far xs ys i x y t h g e is =
    let n : i + 1 ≡ suc i = omega arith in
    rw n (sym (same_at xs ys i x y h g ∙ ap (λ b. b && same_vals (run_values (drop (suc i) xs)) (run_values (drop (suc i) ys))) (sym e ∙ is)))

pub differs_here : (xs ys : List RunValue) (i : ℕ) (x y : RunValue) (t : Bool) → slice_get xs i ≡ Some x → slice_get ys i ≡ Some y → t ≡ same_val (run_value x) (run_value y)
    → t ≡ false → same_vals (run_values (drop i xs)) (run_values (drop i ys)) ≡ false
differs_here xs ys i x y t h g e is =
    same_at xs ys i x y h g ∙ ap (λ b. b && same_vals (run_values (drop (suc i) xs)) (run_values (drop (suc i) ys))) (sym e ∙ is)
