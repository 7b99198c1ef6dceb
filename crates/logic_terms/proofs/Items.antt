-- Arrays that are filled, and changed at one index after another.
use Rattle.std.proofs.Common.{◌≡◌, ◌≢◌, refl, sym, ◌∙◌, ap, subst, ℕ, zero, suc, ◌<◌, Bool, true, false, arith}
use Rattle.std.proofs.lemmas.Bool.{and_parts, false≢true, eqb-true, eq-eqb}
use Rattle.std.proofs.lemmas.Int.{ints}
use Rattle.std.specs.Prelude.{ℤ, pos, negsuc, ◌+ℤ◌, ◌-ℤ◌, ◌≤ℤ◌, int_le, ◌==◌, if◌then◌else◌}
use Rattle.logic_terms.specs.Value.{Kind, numbers, truths, arrays, records, Kinds, no_kinds, kind, kinds_of, defaults, Value, number, truth, array, record_of, Values, no_values, value, as_number, as_truth, kind_of, default, value_at, with_value, copies, count, up_to, steps}
use Rattle.logic_terms.specs.Meaning.{item, stored, filled, first, last, within, field, with_field}
use Rattle.logic_terms.specs.Sorting.{length_of}
use Rattle.logic_terms.specs.Arrays.{has_item, no_item, is_whole}

-- ---- what a change at an index keeps

pub number_stored : (a : Value) (i : ℤ) (v : Value) → as_number (stored a i v) ≡ as_number a
number_stored (number n) i v = refl
number_stored (truth b) i v = refl
number_stored (array k f l vs) i v = refl
number_stored (record_of vs) i v = refl

pub truth_stored : (a : Value) (i : ℤ) (v : Value) → as_truth (stored a i v) ≡ as_truth a
truth_stored (number n) i v = refl
truth_stored (truth b) i v = refl
truth_stored (array k f l vs) i v = refl
truth_stored (record_of vs) i v = refl

pub first_stored : (a : Value) (i : ℤ) (v : Value) → first (stored a i v) ≡ first a
first_stored (number n) i v = refl
first_stored (truth b) i v = refl
first_stored (array k f l vs) i v = refl
first_stored (record_of vs) i v = refl

pub last_stored : (a : Value) (i : ℤ) (v : Value) → last (stored a i v) ≡ last a
last_stored (number n) i v = refl
last_stored (truth b) i v = refl
last_stored (array k f l vs) i v = refl
last_stored (record_of vs) i v = refl

pub kind_stored : (a : Value) (i : ℤ) (v : Value) → kind_of (stored a i v) ≡ kind_of a
kind_stored (number n) i v = refl
kind_stored (truth b) i v = refl
kind_stored (array k f l vs) i v = refl
kind_stored (record_of vs) i v = refl

pub has_item_stored : (a : Value) (j : ℤ) (v : Value) (i : ℤ) → has_item (stored a j v) i ≡ has_item a i
has_item_stored (number n) j v i = refl
has_item_stored (truth b) j v i = refl
has_item_stored (array k f l vs) j v i = refl
has_item_stored (record_of vs) j v i = refl

pub no_item_stored : (a : Value) (i : ℤ) (v : Value) → no_item (stored a i v) ≡ no_item a
no_item_stored (number n) i v = refl
no_item_stored (truth b) i v = refl
no_item_stored (array k f l vs) i v = refl
no_item_stored (record_of vs) i v = refl

pub field_stored : (n : ℕ) (a : Value) (i : ℤ) (v : Value) → field n (stored a i v) ≡ field n a
field_stored n (number m) i v = refl
field_stored n (truth b) i v = refl
field_stored n (array k f l vs) i v = refl
field_stored n (record_of vs) i v = refl

pub with_field_stored : (n : ℕ) (a : Value) (i : ℤ) (v u : Value) → with_field n (stored a i v) u ≡ stored (with_field n a u) i v
with_field_stored n (number m) i v u = refl
with_field_stored n (truth b) i v u = refl
with_field_stored n (array k f l vs) i v u = refl
with_field_stored n (record_of vs) i v u = refl

mutual
  pub kind_of_default : (k : Kind) → kind_of (default k) ≡ k
  kind_of_default numbers = refl
  kind_of_default truths = refl
  kind_of_default (arrays k) = refl
  kind_of_default (records ks) = ap records (kinds_of_defaults ks)

  pub kinds_of_defaults : (ks : Kinds) → kinds_of (defaults ks) ≡ ks
  kinds_of_defaults no_kinds = refl
  kinds_of_defaults (kind k ks) = rw (kind_of_default k, kinds_of_defaults ks)

-- ---- items

at_copies : (k n : ℕ) (v d : Value) → n < k → value_at (copies k v) n d ≡ v
at_copies zero n v d h = absurd (omega arith)
at_copies (suc k) zero v d h = refl
at_copies (suc k) (suc n) v d h = at_copies k n v d (omega arith)

at_changed : (vs : Values) (n : ℕ) (v d : Value) → n < length_of vs → value_at (with_value vs n v) n d ≡ v
at_changed no_values n v d h = absurd (omega arith)
at_changed (value u vs) zero v d h = refl
at_changed (value u vs) (suc n) v d h = at_changed vs n v d (omega arith)

at_other : (vs : Values) (m n : ℕ) (v d : Value) → m ≢ n → value_at (with_value vs m v) n d ≡ value_at vs n d
at_other no_values m n v d h = refl
at_other (value u vs) zero zero v d h = absurd (h refl)
at_other (value u vs) zero (suc n) v d h = refl
at_other (value u vs) (suc m) zero v d h = refl
at_other (value u vs) (suc m) (suc n) v d h = at_other vs m n v d (λ e. h (ap (λ k. suc k) e))

pub length_changed : (vs : Values) (n : ℕ) (v : Value) → length_of (with_value vs n v) ≡ length_of vs
length_changed no_values n v = refl
length_changed (value u vs) zero v = refl
length_changed (value u vs) (suc n) v = ap (λ k. suc k) (length_changed vs n v)

pub length_copied : (n : ℕ) (v : Value) → length_of (copies n v) ≡ n
length_copied zero v = refl
length_copied (suc n) v = ap (λ k. suc k) (length_copied n v)

steps_below : (f l i d e : ℤ) → i -ℤ f ≡ d → l -ℤ f ≡ e → f ≤ℤ i → i ≤ℤ l → steps d < up_to e
steps_below f l i (pos k) (pos n) p q a b = omega (arith, ints)
steps_below f l i (pos k) (negsuc n) p q a b = absurd (omega (arith, ints))
steps_below f l i (negsuc k) e p q a b = absurd (omega (arith, ints))

pub within_first : (f l i : ℤ) → within f l i ≡ true → f ≤ℤ i
within_first f l i h = let e : int_le f i ≡ true = (and_parts (int_le f i) (int_le i l) h).0 in grind (arith, ints, e)

pub within_last : (f l i : ℤ) → within f l i ≡ true → i ≤ℤ l
within_last f l i h = let e : int_le i l ≡ true = (and_parts (int_le f i) (int_le i l) h).1 in grind (arith, ints, e)

pub steps_within : (f l i : ℤ) → within f l i ≡ true → steps (i -ℤ f) < count f l
steps_within f l i h = steps_below f l i _ _ refl refl (within_first f l i h) (within_last f l i h)

steps_apart_by : (f i j d e : ℤ) → i -ℤ f ≡ d → j -ℤ f ≡ e → f ≤ℤ i → f ≤ℤ j → steps d ≡ steps e → i ≡ j
steps_apart_by f i j (pos m) (pos n) p q a b s = omega (arith, ints)
steps_apart_by f i j (pos m) (negsuc n) p q a b s = absurd (omega (arith, ints))
steps_apart_by f i j (negsuc m) e p q a b s = absurd (omega (arith, ints))

steps_apart : (f i j : ℤ) → f ≤ℤ i → f ≤ℤ j → i ≢ j → steps (i -ℤ f) ≢ steps (j -ℤ f)
steps_apart f i j a b h s = h (steps_apart_by f i j _ _ refl refl a b s)

pub item_filled : (f l : ℤ) (v : Value) (i : ℤ) → within f l i ≡ true → item (filled f l v) i ≡ v
item_filled f l v i h = rw h (at_copies (count f l) (steps (i -ℤ f)) v _ (steps_within f l i h))

pub item_same : (a : Value) (i : ℤ) (v : Value) → is_whole a ≡ true → has_item a i ≡ true → item (stored a i v) i ≡ v
item_same (array k f l vs) i v w h =
    let n : steps (i -ℤ f) < length_of vs = subst (λ m. steps (i -ℤ f) < m) (sym (eqb-true _ _ w)) (steps_within f l i h) in
    rw h (at_changed vs (steps (i -ℤ f)) v _ n)
item_same (number n) i v w h = absurd (false≢true h)
item_same (truth n) i v w h = absurd (false≢true h)
item_same (record_of n) i v w h = absurd (false≢true h)

at_chosen : (vs us : Values) (b : Bool) (n : ℕ) (d : Value) → (b ≡ true → value_at us n d ≡ value_at vs n d) → value_at (if b then us else vs) n d ≡ value_at vs n d
at_chosen vs us true n d h = h refl
at_chosen vs us false n d h = refl

pub item_other : (a : Value) (j : ℤ) (v : Value) (i : ℤ) → has_item a i ≡ true → j ≢ i → item (stored a j v) i ≡ item a i
item_other (array k f l vs) j v i h ne =
    rw h (at_chosen vs (with_value vs (steps (j -ℤ f)) v) (within f l j) (steps (i -ℤ f)) (default k) (λ e.
    at_other vs (steps (j -ℤ f)) (steps (i -ℤ f)) v (default k) (steps_apart f j i (within_first f l j e) (within_first f l i h) ne)))
item_other (number n) j v i h ne = absurd (false≢true h)
item_other (truth n) j v i h ne = absurd (false≢true h)
item_other (record_of n) j v i h ne = absurd (false≢true h)

pub item_outside : (a : Value) (i : ℤ) → has_item a i ≡ false → item a i ≡ no_item a
item_outside (array k f l vs) i h = rw h refl
item_outside (number n) i h = refl
item_outside (truth n) i h = refl
item_outside (record_of n) i h = refl

-- ---- as many items as indices

pub whole_filled : (f l : ℤ) (v : Value) → is_whole (filled f l v) ≡ true
whole_filled f l v = eq-eqb (length_of (copies (count f l) v)) (count f l) (length_copied (count f l) v)

whole_chosen : (n : ℕ) (b : Bool) (vs us : Values) → (length_of vs == n) ≡ true → length_of us ≡ length_of vs → (length_of (if b then us else vs) == n) ≡ true
whole_chosen n true vs us h e = ap (λ m. m == n) e ∙ h
whole_chosen n false vs us h e = h

pub whole_stored : (a : Value) (i : ℤ) (v : Value) → is_whole a ≡ true → is_whole (stored a i v) ≡ true
whole_stored (array k f l vs) i v h = whole_chosen (count f l) (within f l i) vs (with_value vs (steps (i -ℤ f)) v) h (length_changed vs _ v)
whole_stored (number n) i v h = refl
whole_stored (truth n) i v h = refl
whole_stored (record_of n) i v h = refl

-- the item that stands n after the first
pub nth_steps : (f : ℤ) (n : ℕ) → steps (f +ℤ pos n -ℤ f) ≡ n
nth_steps f n = let e : f +ℤ pos n -ℤ f ≡ pos n = omega (arith, ints) in ap steps e

pub nth_item : (k : Kind) (f l : ℤ) (vs : Values) (n : ℕ) → within f l (f +ℤ pos n) ≡ true → item (array k f l vs) (f +ℤ pos n) ≡ value_at vs n (default k)
nth_item k f l vs n h = rw h (ap (λ j. value_at vs j (default k)) (nth_steps f n))
