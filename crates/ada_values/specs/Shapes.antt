-- Which values a shape has. -- Ada RM 3.2, 3.5, 3.6, 3.8
use Rattle.std.specs.Prelude.{ℕ, zero, suc, Bool, true, false, ◌&&◌, ◌||◌, ◌==◌, ℤ, pos, negsuc, ◌-ℤ◌, Option, Some, None, List, [], ◌∷◌, int_lt, slice_get}
use Rattle.std.specs.Ordering.{int_eq}
use Rattle.ada_values.specs.Scalars.{in_scalar, in_base}
use Rattle.ada_values.specs.Value.{Val, number, truth, array, record_of, Vals, no_vals, val, length_of}
use Rattle.ada_values.specs.declared.scalars.Scalar.{Scalar}
use Rattle.ada_values.specs.declared.shapes.Shape.{Shape}
use Rattle.ada_values.specs.declared.shapes.Shape.TheVariants.{Number, Truth, Array, Record}

abbrev pub count_to : ℤ → ℕ
count_to (pos n) = suc n
count_to (negsuc n) = zero

-- how many indexes a range has: max (0, last - first + 1) -- Ada RM 3.6.2
abbrev pub range_length : ℤ → ℤ → ℕ
range_length first last = count_to (last -ℤ first)

-- The bounds of a constrained array are the subtype's. Those of another array belong to the index subtype, or it is null and they lie in the base range of the index type. -- Ada RM 3.6.1
abbrev pub bounds_fit : Option (ℤ × ℤ) → Scalar → ℤ → ℤ → Bool
bounds_fit (Some bounds) index first last = int_eq first bounds.0 && int_eq last bounds.1
bounds_fit None index first last =
    (in_scalar index first && in_scalar index last) || (int_lt last first && in_base index first && in_base index last)

abbrev mutual
  pub fits : List Shape → Option Shape → Val → Bool
  fits shapes (Some (Number s)) (number n) = in_scalar s n
  fits shapes (Some Truth) (truth b) = true
  fits shapes (Some (Array a)) (array first last items) =
      bounds_fit a.bounds a.index first last && (length_of items == range_length first last) && all_fit shapes (slice_get shapes a.item) items
  fits shapes (Some (Record ids)) (record_of fields) = each_fits shapes ids fields
  fits shapes _ _ = false

  -- each of the values fits the one shape
  pub all_fit : List Shape → Option Shape → Vals → Bool
  all_fit shapes shape no_vals = true
  all_fit shapes shape (val v vs) = fits shapes shape v && all_fit shapes shape vs

  -- there are as many values as shapes, and each fits its own
  pub each_fits : List Shape → List ℕ → Vals → Bool
  each_fits shapes [] no_vals = true
  each_fits shapes (id ∷ ids) (val v vs) = fits shapes (slice_get shapes id) v && each_fits shapes ids vs
  each_fits shapes _ _ = false

-- the value is one of the shape with that number, where there is one
abbrev pub in_shape : List Shape → ℕ → Val → Bool
in_shape shapes shape v = fits shapes (slice_get shapes shape) v
