-- What the answers of the code are.
use Rattle.std.proofs.Common.{◌≡◌, ℕ, suc, zero, ◌+◌, ◌≤◌, ◌<◌, arith, refl, ap, ◌∙◌, subst, List, [], ◌∷◌, length, take, get_or, ℤ, pos, Bool, true, false}
use Rattle.std.specs.Prelude.{Some, slice_get}
use Rattle.std.specs.Int.RustNames.{int_le, int_lt}
use Rattle.std.proofs.lemmas.Int.{ints}
use Rattle.std.proofs.lemmas.List.{length-take}
use Rattle.std.proofs.lemmas.Option.{slice_get-get_or}
use Rattle.ada_values.specs.Scalars.{within}
use Rattle.typed_units.specs.declared.operators.Bounds.{Bounds}
use Rattle.choice_cover.specs.Cover.{AtMostOnce, EachOnce, IsMissing, IsOutside, IsTwice, holds, times}
use Rattle.choice_cover.specs.Sweeps.{IsFirstTwice, Once, fits_in}
use Rattle.choice_cover.proofs.Held.{by_cases, one, times_free, times_next}
use Rattle.choice_cover.proofs.Filled.{IsHole}
use Rattle.choice_cover.proofs.Only.{taken}

abbrev pub Fits : ℤ → ℤ → List Bounds → ℕ → Type 0
Fits lo hi bs n = (j : ℕ) (b : Bounds) → j < n → slice_get bs j ≡ Some b → fits_in lo hi b ≡ true

pub fit_free : (v lo hi : ℤ) (b : Bounds) → fits_in lo hi b ≡ true → within lo hi v ≡ false → holds v b ≡ false
fit_free v lo hi b f w = grind (arith, ints)

fits_free : (lo hi : ℤ) (bs : List Bounds) (n : ℕ) → Fits lo hi bs n → (v : ℤ) → within lo hi v ≡ false → times (take n bs) v ≡ 0
fits_free lo hi bs zero f v w = refl
fits_free lo hi [] (suc n) f v w = refl
fits_free lo hi (b ∷ bs) (suc n) f v w =
    times_free b (take n bs) v (fit_free v lo hi b (f 0 b (omega arith) refl) w)
    ∙ fits_free lo hi bs n (λ j c h e. f (suc j) c (omega arith) e) v w

at_most_once : (lo hi : ℤ) (bs : List Bounds) → Once bs → ((v : ℤ) → within lo hi v ≡ false → times bs v ≡ 0) → AtMostOnce lo hi bs
at_most_once lo hi bs o f v =
    by_cases (within lo hi v)
    (λ w. let e : one (within lo hi v) ≡ 1 = ap one w in let p = o v in omega (arith, e, p))
    (λ w. let p = f v w in omega (arith, p))

pub some_outside : (lo hi : ℤ) (b : Bounds) → fits_in lo hi b ≡ false → (v : ℤ) × (holds v b ≡ true) × (within lo hi v ≡ false)
some_outside lo hi b f =
    by_cases (int_le lo b.first)
    (λ h. (b.last, grind (arith, ints), grind (arith, ints)))
    (λ h. (b.first, grind (arith, ints), grind (arith, ints)))

pub fit_inside : (lo hi v : ℤ) (b : Bounds) → fits_in lo hi b ≡ true → holds v b ≡ true → within lo hi v ≡ true
fit_inside lo hi v b f h = grind (arith, ints)

nothing : Bounds
nothing = record { first = pos 1; last = pos 0 }

pub outside_is : (lo hi : ℤ) (bs : List Bounds) (n : ℕ) → n < length bs → Fits lo hi bs n → ((b : Bounds) → slice_get bs n ≡ Some b → fits_in lo hi b ≡ false) → Once (take n bs) → IsOutside bs lo hi n
outside_is lo hi bs n h f g o =
    let b = get_or bs n nothing in
    let e = slice_get-get_or bs n nothing h in
    let s = some_outside lo hi b (g b e) in
    record { before = at_most_once lo hi (take n bs) o (fits_free lo hi bs n f); range = b; at = e; value = s.0; held = s.1; outside = s.2 }

held_again : (x : Bool) (m n : ℕ) → 1 < n → n ≡ m + one x → m ≤ 1 → x ≡ true
held_again true m n h e l = refl
held_again false m n h e l = absurd (omega (arith, h, e, l))

again : (x : Bool) (m n : ℕ) → 1 < n → n ≡ m + one x → 0 < m
again true m n h e = omega (arith, h, e)
again false m n h e = omega (arith, h, e)

pub twice_is : (lo hi : ℤ) (bs : List Bounds) (n k : ℕ) → n ≤ length bs → Fits lo hi bs n → IsFirstTwice (take n bs) (Some k) → IsTwice bs lo hi k
twice_is lo hi bs n k h f t =
    let l = length-take n bs in
    let below = t.0 in
    let k_n : k < n = omega (arith, l, below) in
    let k_l : k < length bs = omega arith in
    let b = get_or bs k nothing in
    let e = slice_get-get_or bs k nothing k_l in
    let o : Once (take k bs) = subst Once (taken bs k n (omega arith)) t.1 in
    let v = t.2.0 in
    let c : 1 < times (take (k + 1) bs) v = subst (λ (cs : List Bounds). 1 < times cs v) (taken bs (k + 1) n (omega arith)) t.2.1 in
    let m = times_next bs k b v k_l e in
    let g : Fits lo hi bs k = λ j x i s. f j x (omega arith) s in
    record {
      before = at_most_once lo hi (take k bs) o (fits_free lo hi bs k g);
      range = b;
      at = e;
      inside = λ w. fit_inside lo hi w b (f k b k_n e);
      value = v;
      held = held_again (holds v b) (times (take k bs) v) (times (take (k + 1) bs) v) c m (o v);
      twice = again (holds v b) (times (take k bs) v) (times (take (k + 1) bs) v) c m;
    }

taken_all : (bs : List Bounds) (n : ℕ) → length bs ≤ n → take n bs ≡ bs
taken_all [] zero h = refl
taken_all [] (suc n) h = refl
taken_all (b ∷ bs) zero h = absurd (omega arith)
taken_all (b ∷ bs) (suc n) h = ap (λ (cs : List Bounds). b ∷ cs) (taken_all bs n (omega arith))

pub all_once : (lo hi : ℤ) (bs : List Bounds) (n : ℕ) → length bs ≤ n → Fits lo hi bs n → Once (take n bs) → AtMostOnce lo hi bs
all_once lo hi bs n h f o = subst (AtMostOnce lo hi) (taken_all bs n h) (at_most_once lo hi (take n bs) o (fits_free lo hi bs n f))

just_one : (x : Bool) (n : ℕ) → n ≤ one x → (x ≡ true → 0 < n) → n ≡ one x
just_one true n h f = let g = f refl in omega (arith, h, g)
just_one false n h f = omega (arith, h)

pub whole_is : (lo hi : ℤ) (bs : List Bounds) → AtMostOnce lo hi bs → ((v : ℤ) → within lo hi v ≡ true → 0 < times bs v) → EachOnce lo hi bs
whole_is lo hi bs a f v = just_one (within lo hi v) (times bs v) (a v) (f v)

pub none_within : (lo hi v : ℤ) → int_lt hi lo ≡ true → within lo hi v ≡ true → ⊥
none_within lo hi v h w = grind (arith, ints)

pub missing_is : (lo hi : ℤ) (bs : List Bounds) → AtMostOnce lo hi bs → IsHole lo hi bs → IsMissing bs lo hi
missing_is lo hi bs a h = record { all = a; value = h.value; inside = h.inside; missing = h.hole }
