-- Positions in an array, and how many numbers a range has.
use Rattle.std.proofs.Common.{◌≡◌, refl, sym, ap, ◌∙◌, arith, ℕ, ◌+◌, ℤ, pos, negsuc, ◌-ℤ◌, ◌≤ℤ◌, ◌<ℤ◌, Bool, true, false, ◌&&◌, List, Some, None, Result, Ok, Err}
use Rattle.std.specs.Prelude.{unsigned_abs, slice_get, option_map, if◌then◌else◌}
use Rattle.std.specs.Int.RustNames.{int_le}
use Rattle.std.proofs.lemmas.Int.{ints}
use Rattle.ada_values.specs.Value.{array, number, val_at}
use Rattle.ada_values.specs.Combine.{ranged}
use Rattle.ada_values.specs.Scalars.{within}
use Rattle.ada_values.specs.Shapes.{count_to}
use Rattle.ada_values.specs.declared.place.Place.{Place}
use Rattle.ada_values.specs.declared.scalars.OpFault.{OpFault}
use Rattle.ada_values.specs.declared.scalars.OpFault.TheVariants.{Overflow}
use Rattle.typed_units.specs.declared.checks.CheckKind.TheVariants as kind
use Rattle.ada_semantics.specs.Outcome.{gives, fails, unset, pick, wanted, site}
use Rattle.ada_semantics.specs.Operators.{natural_of, position, span, item_of}
use Rattle.run_values.specs.RunValues.{run_value, run_values}
use Rattle.run_values.specs.declared.values.RunValue.{RunValue}
use Rattle.run_values.proofs.Views.{val_at-run_values}

natural_is : (z : ℤ) → pos 0 ≤ℤ z → unsigned_abs z ≡ natural_of z
natural_is (pos n) h = refl
natural_is (negsuc n) h = absurd (omega (arith, ints))

count_is : (z : ℤ) → pos 0 ≤ℤ z → count_to z ≡ unsigned_abs z + 1
count_is (pos n) h = omega arith
count_is (negsuc n) h = absurd (omega (arith, ints))

count_none : (z : ℤ) → z <ℤ pos 0 → count_to z ≡ 0
count_none (pos n) h = absurd (omega (arith, ints))
count_none (negsuc n) h = refl

pub position_is : (f x : ℤ) → f ≤ℤ x → unsigned_abs (x -ℤ f) ≡ position f x
position_is f x h = natural_is (x -ℤ f) (omega (arith, ints))

pub span_is : (f l : ℤ) → f ≤ℤ l → span f l ≡ unsigned_abs (l -ℤ f) + 1
span_is f l h = count_is (l -ℤ f) (omega (arith, ints))

pub span_none : (f l : ℤ) → l <ℤ f → span f l ≡ 0
span_none f l h = count_none (l -ℤ f) (omega (arith, ints))

-- ---- beyond the base range
if_not : (b c : Bool) (z : ℤ) → c ≡ false → ◌≡◌ {A = Result ℤ OpFault} (if (b && c) then Ok z else Err Overflow) (Err Overflow)
if_not true c z h = ap (λ d. if d then Ok z else Err Overflow) h
if_not false c z h = refl

pub above : (lo hi z : ℤ) → hi <ℤ z → ranged lo hi (Ok z) ≡ Err Overflow
above lo hi z h = let t : int_le z hi ≡ false = grind (arith, ints) in if_not (int_le lo z) (int_le z hi) z t

-- ---- an item
pub item_is : (c : Bool) (q : Place) (f l x : ℤ) (xs : List RunValue) (v r : RunValue) (n : ℕ) → within f l x ≡ true → Some v ≡ slice_get xs (position f x) → r ≡ v
    → gives (run_value r) n ≡ item_of c q (array f l (run_values xs)) (number x) n
item_is c q f l x xs v r n t h e =
    let s : val_at (run_values xs) (position f x) ≡ Some (run_value v) = val_at-run_values xs (position f x) ∙ ap (option_map run_value) (sym h) in
    ap (λ y. gives (run_value y) n) e ∙ sym (ap (λ b. pick b (wanted (val_at (run_values xs) (position f x)) n) (pick c (fails (site q kind.Index)) unset)) t ∙ ap (λ o. wanted o n) s)

pub item_missing : (c : Bool) (q : Place) (f l x : ℤ) (xs : List RunValue) (n : ℕ) → within f l x ≡ true → None ≡ slice_get xs (position f x)
    → unset ≡ item_of c q (array f l (run_values xs)) (number x) n
item_missing c q f l x xs n t h =
    let s : val_at (run_values xs) (position f x) ≡ None = val_at-run_values xs (position f x) ∙ ap (option_map run_value) (sym h) in
    sym (ap (λ b. pick b (wanted (val_at (run_values xs) (position f x)) n) (pick c (fails (site q kind.Index)) unset)) t ∙ ap (λ o. wanted o n) s)
