-- Values, as definitions speak of them.
use Rattle.std.specs.Prelude.{ℕ, zero, suc, Bool, true, false, not, ◌&&◌, ℤ, Option, Some, None, List, [], ◌∷◌, map}
use Rattle.std.specs.Ordering.{int_eq}
use Rattle.ada_values.specs.declared.values.Value.{Value, fold-Value}
use Rattle.ada_values.specs.declared.values.Value.TheOpen.{Value-F}

-- A value is a whole number or a position, a truth value, an array with its first index, its last index and its items, or a record. -- Ada RM 3.5, 3.6, 3.8
mutual
  pub data Val : Type 0 where
    number : ℤ → Val
    truth : Bool → Val
    array : ℤ → ℤ → Vals → Val
    record_of : Vals → Val

  pub data Vals : Type 0 where
    no_vals : Vals
    val : Val → Vals → Vals

abbrev pub vals_of : List Val → Vals
vals_of [] = no_vals
vals_of (v ∷ vs) = val v (vals_of vs)

abbrev pub list_of : Vals → List Val
list_of no_vals = []
list_of (val v vs) = v ∷ list_of vs

abbrev pub length_of : Vals → ℕ
length_of no_vals = zero
length_of (val v vs) = suc (length_of vs)

-- the value at a number from 0, where there is one
abbrev pub val_at : Vals → ℕ → Option Val
val_at no_vals n = None
val_at (val v vs) zero = Some v
val_at (val v vs) (suc n) = val_at vs n

-- the values with `new` at that number, where there is one
abbrev pub with_val : Vals → ℕ → Val → Vals
with_val no_vals n new = no_vals
with_val (val v vs) zero new = val new vs
with_val (val v vs) (suc n) new = val v (with_val vs n new)

abbrev pub value_step : Value-F Val → Val
value_step (Value-F.Int n) = number n
value_step (Value-F.Bool b) = truth b
value_step (Value-F.Arr a) = array a.first a.last (vals_of a.items)
value_step (Value-F.Rec vs) = record_of (vals_of vs)

-- the value that the code's value is
abbrev pub value : Value → Val
value = fold-Value Val value_step

abbrev pub values : List Value → Vals
values vs = vals_of (map value vs)

abbrev pub same_truth : Bool → Bool → Bool
same_truth true b = b
same_truth false b = not b

-- Predefined equality: arrays are equal where they have as many items and these are equal one by one, whatever their bounds. -- Ada RM 4.5.2
abbrev mutual
  pub same_val : Val → Val → Bool
  same_val (number a) (number b) = int_eq a b
  same_val (truth a) (truth b) = same_truth a b
  same_val (array f l vs) (array g m ws) = same_vals vs ws
  same_val (record_of vs) (record_of ws) = same_vals vs ws
  same_val _ _ = false

  pub same_vals : Vals → Vals → Bool
  same_vals no_vals no_vals = true
  same_vals (val v vs) (val w ws) = same_val v w && same_vals vs ws
  same_vals _ _ = false
