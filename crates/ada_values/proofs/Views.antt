-- Values in the code and in the definitions.
use Rattle.std.proofs.Common.{◌≡◌, ◌≢◌, refl, ap, arith, ℕ, zero, suc, ◌<◌, Bool, ℤ, Some, List, [], ◌∷◌, length, set, slice_get}
use Rattle.ada_values.specs.Value.{Val, number, truth, array, record_of, Vals, no_vals, val, vals_of, list_of, length_of, val_at, with_val, value, values, value_step}
use Rattle.ada_values.specs.declared.values.ArrayValue.{ArrayValue}
use Rattle.ada_values.specs.declared.values.Value.{Value, out-Value, map-Value, fold_out-Value}
use Rattle.ada_values.specs.declared.values.Value.TheOpen.{Value-F}
use Rattle.ada_values.specs.declared.values.Value.TheVariants as v

-- ---- the view of each variant
value_opens : (x : Value) (y : Value-F Value) → out-Value x ≡ y → value x ≡ value_step (map-Value Value Val value y)
value_opens x y h = rw h at (fold_out-Value Val value_step x)

pub value_Int : (n : ℤ) → value (v.Int n) ≡ number n
value_Int n = value_opens _ _ (v.outs-Int n)

pub value_Bool : (b : Bool) → value (v.Bool b) ≡ truth b
value_Bool b = value_opens _ _ (v.outs-Bool b)

pub value_Arr : (a : ArrayValue Value) → value (v.Arr a) ≡ array a.first a.last (values a.items)
value_Arr a = value_opens _ _ (v.outs-Arr a)

pub value_Rec : (xs : List Value) → value (v.Rec xs) ≡ record_of (values xs)
value_Rec xs = value_opens _ _ (v.outs-Rec xs)

pub ruleset views = (value_Int, value_Bool, value_Arr, value_Rec)

-- ---- lists of values
pub vals_of-list_of : (vs : Vals) → vals_of (list_of vs) ≡ vs
vals_of-list_of no_vals = refl
vals_of-list_of (val w ws) = ap (val w) (vals_of-list_of ws)

pub list_of-vals_of : (xs : List Val) → list_of (vals_of xs) ≡ xs
list_of-vals_of [] = refl
list_of-vals_of (x ∷ xs) = ap (λ ys. x ∷ ys) (list_of-vals_of xs)

pub length_of-values : (xs : List Value) → length_of (values xs) ≡ length xs
length_of-values [] = refl
length_of-values (x ∷ xs) = ap suc (length_of-values xs)

-- an item that is read
pub val_at-values : (xs : List Value) (n : ℕ) (x : Value) → slice_get xs n ≡ Some x → val_at (values xs) n ≡ Some (value x)
val_at-values [] n x h = absurd cc
val_at-values (y ∷ ys) zero x h = ap Some (ap value cc)
val_at-values (y ∷ ys) (suc n) x h = val_at-values ys n x h

-- an item that is written
pub values-set : (xs : List Value) (n : ℕ) (x : Value) → values (set xs n x) ≡ with_val (values xs) n (value x)
values-set [] n x = refl
values-set (y ∷ ys) zero x = refl
values-set (y ∷ ys) (suc n) x = ap (val (value y)) (values-set ys n x)

pub length_of-with_val : (vs : Vals) (n : ℕ) (w : Val) → length_of (with_val vs n w) ≡ length_of vs
length_of-with_val no_vals n w = refl
length_of-with_val (val x vs) zero w = refl
length_of-with_val (val x vs) (suc n) w = ap suc (length_of-with_val vs n w)

pub val_at-with_val_same : (vs : Vals) (n : ℕ) (w : Val) → n < length_of vs → val_at (with_val vs n w) n ≡ Some w
val_at-with_val_same no_vals n w h = absurd (omega arith)
val_at-with_val_same (val x vs) zero w h = refl
val_at-with_val_same (val x vs) (suc n) w h = val_at-with_val_same vs n w (omega arith)

pub val_at-with_val_other : (vs : Vals) (n k : ℕ) (w : Val) → k ≢ n → val_at (with_val vs n w) k ≡ val_at vs k
val_at-with_val_other no_vals n k w h = refl
val_at-with_val_other (val x vs) zero zero w h = absurd (h refl)
val_at-with_val_other (val x vs) zero (suc k) w h = refl
val_at-with_val_other (val x vs) (suc n) zero w h = refl
val_at-with_val_other (val x vs) (suc n) (suc k) w h = val_at-with_val_other vs n k w (λ e. h (ap suc e))
