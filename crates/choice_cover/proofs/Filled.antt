-- Whether ranges whose first values rise hold all values between two.
use Rattle.std.proofs.Common.{◌≡◌, ◌<◌, arith, refl, sym, ◌∙◌, List, [], ◌∷◌, ℤ, pos, ◌+ℤ◌, Bool, true, false}
use Rattle.std.specs.Prelude.{cond, filter}
use Rattle.std.specs.Int.{int_max}
use Rattle.std.specs.Int.RustNames.{int_le, int_lt}
use Rattle.std.specs.List.Sorted.{IsPermutation, IsSortedByKey}
use Rattle.std.specs.Ordering.{int_cmp}
use Rattle.std.proofs.lemmas.Int.{ints, clamps}
use Rattle.ada_values.specs.Scalars.{within}
use Rattle.typed_units.specs.declared.operators.Bounds.{Bounds}
use Rattle.choice_cover.specs.Cover.{holds, times}
use Rattle.choice_cover.specs.Sweeps.{fill, holds_any}
use Rattle.choice_cover.proofs.Held.{AllLined, Lined, by_cases, lined_sorted, none_below, times_free, times_held, times_sorted, times_tail}

not_before : (x y : Bool) → cond x false y ≡ true → x ≡ false
not_before true y h = absurd (cc)
not_before false y h = refl

after : (x y : Bool) → cond x false y ≡ true → y ≡ true
after true y h = absurd (cc)
after false y h = h

later : (x y : Bool) → x ≡ false → cond x true y ≡ true → y ≡ true
later true y e h = absurd (cc)
later false y e h = h

held_to_end : (next hi v : ℤ) (b : Bounds) → int_lt next b.first ≡ false → int_le hi b.last ≡ true → within next hi v ≡ true → holds v b ≡ true
held_to_end next hi v b f l h = grind (arith, ints)

held_to_last : (next hi v : ℤ) (b : Bounds) → int_lt next b.first ≡ false → int_le v b.last ≡ true → within next hi v ≡ true → holds v b ≡ true
held_to_last next hi v b f l h = grind (arith, ints)

beyond : (next hi v : ℤ) (b : Bounds) → int_le v b.last ≡ false → within next hi v ≡ true → within (int_max next (b.last +ℤ pos 1)) hi v ≡ true
beyond next hi v b l h = grind (arith, ints, clamps)

more : (b : Bounds) (bs : List Bounds) (v : ℤ) → holds v b ≡ true → 0 < times (b ∷ bs) v
more b bs v h = let e = times_held b bs v h in omega (arith, e)

-- ranges that fill have each value
pub filled : (next hi : ℤ) (bs : List Bounds) → fill next hi bs ≡ true → (v : ℤ) → within next hi v ≡ true → 0 < times bs v
filled next hi [] e v h = absurd (cc)
filled next hi (b ∷ bs) e v h =
    let rest = fill (int_max next (b.last +ℤ pos 1)) hi bs in
    let f = not_before (int_lt next b.first) (cond (int_le hi b.last) true rest) e in
    let a = after (int_lt next b.first) (cond (int_le hi b.last) true rest) e in
    by_cases (int_le hi b.last)
    (λ l. more b bs v (held_to_end next hi v b f l h))
    (λ l. by_cases (int_le v b.last)
    (λ m. more b bs v (held_to_last next hi v b f m h))
    (λ m. let n = filled (int_max next (b.last +ℤ pos 1)) hi bs (later (int_le hi b.last) rest l a) v (beyond next hi v b m h) in
    let t = times_tail b bs v in
    omega (arith, n, t)))

-- a value from `next` to `hi` that no range holds
pub record IsHole (next hi : ℤ) (bs : List Bounds) : Type 0 where
  pub value : ℤ
  pub inside : within next hi value ≡ true
  pub hole : times bs value ≡ 0

itself : (next hi : ℤ) → int_le next hi ≡ true → within next hi next ≡ true
itself next hi h = grind (arith, ints)

within_next : (next hi v : ℤ) (b : Bounds) → within (int_max next (b.last +ℤ pos 1)) hi v ≡ true → within next hi v ≡ true
within_next next hi v b h = grind (arith, ints, clamps)

free_next : (next hi v : ℤ) (b : Bounds) → within (int_max next (b.last +ℤ pos 1)) hi v ≡ true → holds v b ≡ false
free_next next hi v b h = grind (arith, ints, clamps)

still : (next hi : ℤ) (b : Bounds) → int_le next hi ≡ true → int_le hi b.last ≡ false → int_le (int_max next (b.last +ℤ pos 1)) hi ≡ true
still next hi b h l = grind (arith, ints, clamps)

lined_at : (x y : ℤ) → x ≡ y → int_le x y ≡ true
lined_at x y e = grind (arith, ints)

not_both : (x y : Bool) → x ≡ false → cond x false y ≡ false → y ≡ false
not_both true y e h = absurd (cc)
not_both false y e h = h

not_to_end : (x y : Bool) → cond x true y ≡ false → x ≡ false
not_to_end true y h = absurd (cc)
not_to_end false y h = refl

not_after : (x y : Bool) → cond x true y ≡ false → y ≡ false
not_after true y h = absurd (cc)
not_after false y h = h

itself_le : (x : ℤ) → int_le x x ≡ true
itself_le x = grind (arith, ints)

hole : (from next hi : ℤ) (bs : List Bounds) → Lined from bs → int_le next hi ≡ true → fill next hi bs ≡ false → IsHole next hi bs
hole from next hi [] l h e = record { value = next; inside = itself next hi h; hole = refl }
hole from next hi (b ∷ bs) l h e =
    let rest = fill (int_max next (b.last +ℤ pos 1)) hi bs in
    by_cases (int_lt next b.first)
    (λ f. record { value = next; inside = itself next hi h; hole = none_below b.first (b ∷ bs) next (itself_le b.first, l.1, l.2) f })
    (λ f.
    let g = not_both (int_lt next b.first) (cond (int_le hi b.last) true rest) f e in
    let k = hole b.first (int_max next (b.last +ℤ pos 1)) hi bs l.2 (still next hi b h (not_to_end (int_le hi b.last) rest g)) (not_after (int_le hi b.last) rest g) in
    record { value = k.value; inside = within_next next hi k.value b k.inside; hole = times_free b bs k.value (free_next next hi k.value b k.inside) ∙ k.hole })

pub hole_all : (lo hi : ℤ) (bs : List Bounds) → AllLined bs → int_le lo hi ≡ true → fill lo hi bs ≡ false → IsHole lo hi bs
hole_all lo hi [] l h e = record { value = lo; inside = itself lo hi h; hole = refl }
hole_all lo hi (b ∷ bs) l h e = hole b.first lo hi (b ∷ bs) (itself_le b.first, l.0, l.1) h e

pub hole_sorted : (lo hi : ℤ) (bs cs : List Bounds) → IsPermutation (filter holds_any bs) cs → IsSortedByKey (λ x. x.first) int_cmp cs → int_le lo hi ≡ true → fill lo hi cs ≡ false → IsHole lo hi bs
hole_sorted lo hi bs cs p s h e =
    let k = hole_all lo hi cs (lined_sorted bs cs p s) h e in
    record { value = k.value; inside = k.inside; hole = sym (times_sorted bs cs k.value p) ∙ k.hole }

pub filled_sorted : (lo hi : ℤ) (bs cs : List Bounds) → IsPermutation (filter holds_any bs) cs → fill lo hi cs ≡ true → (v : ℤ) → within lo hi v ≡ true → 0 < times bs v
filled_sorted lo hi bs cs p e v h = let f = filled lo hi cs e v h in let t = times_sorted bs cs v p in omega (arith, f, t)
