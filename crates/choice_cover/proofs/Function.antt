-- The answer as a function is the right one.
use Rattle.std.proofs.Common.{◌≡◌, ℕ, ◌+◌, ◌<◌, arith, refl, ap, sym, ◌∙◌, subst, List, [], ◌∷◌, ◌++◌, length, take, ℤ, Bool, true, false}
use Rattle.std.specs.Prelude.{cond, not, ◌||◌, Some, slice_get}
use Rattle.std.specs.Int.RustNames.{int_le, int_lt}
use Rattle.std.proofs.lemmas.Int.{ints}
use Rattle.std.proofs.lemmas.List.Sums.{sum_by_push}
use Rattle.ada_values.specs.Scalars.{within}
use Rattle.typed_units.specs.declared.operators.Bounds.{Bounds}
use Rattle.choice_cover.specs.declared.cover.Cover.{Cover}
use Rattle.choice_cover.specs.declared.cover.Cover.TheVariants as cover
use Rattle.choice_cover.specs.Cover.{AtMostOnce, IsCover, IsOutside, IsTwice, holds, times}
use Rattle.choice_cover.specs.Covering.{by_first, covering, covering_after, is_full, meet, meets_any, placed}
use Rattle.choice_cover.specs.Sweeps.{fill, fits_in, holds_any}
use Rattle.choice_cover.proofs.Chosen.{fit_inside, missing_is, none_within, some_outside, whole_is}
use Rattle.choice_cover.proofs.Filled.{IsHole, filled, hole_all}
use Rattle.choice_cover.proofs.Held.{AllLined, Lined, by_cases, null_free, one, times-cons, times_free, times_held}
use Rattle.choice_cover.proofs.Only.{only_one}

-- ---- ranges by their first values

times-placed : (b : Bounds) (cs : List Bounds) (v : ℤ) → times (placed b cs) v ≡ times (b ∷ cs) v
times-placed b [] v = refl
times-placed b (c ∷ cs) v =
    by_cases (int_le b.first c.first)
    (λ h. ap (λ (x : Bool). times (cond x (b ∷ c ∷ cs) (c ∷ placed b cs)) v) h)
    (λ h.
    let i = times-placed b cs v in
    let k = times-cons c (placed b cs) v in
    let l = times-cons b cs v in
    let m = times-cons b (c ∷ cs) v in
    let n = times-cons c cs v in
    let e : times (c ∷ placed b cs) v ≡ times (b ∷ c ∷ cs) v = omega (arith, i, k, l, m, n) in
    ap (λ (x : Bool). times (cond x (b ∷ c ∷ cs) (c ∷ placed b cs)) v) h ∙ e)

pub times-by_first : (bs : List Bounds) (v : ℤ) → times (by_first bs) v ≡ times bs v
times-by_first [] v = refl
times-by_first (b ∷ bs) v =
    by_cases (holds_any b)
    (λ h.
    ap (λ (x : Bool). times (cond x (placed b (by_first bs)) (by_first bs)) v) h
    ∙ times-placed b (by_first bs) v ∙ times-cons b (by_first bs) v
    ∙ ap (λ (n : ℕ). one (holds v b) + n) (times-by_first bs v) ∙ sym (times-cons b bs v))
    (λ h.
    ap (λ (x : Bool). times (cond x (placed b (by_first bs)) (by_first bs)) v) h
    ∙ times-by_first bs v ∙ sym (times_free b bs v (null_free v b h)))

less_or_more : (x y : ℤ) → int_le x y ≡ false → int_le y x ≡ true
less_or_more x y h = grind (arith, ints)

lined_placed : (from : ℤ) (b : Bounds) (cs : List Bounds) → int_le from b.first ≡ true → holds_any b ≡ true → Lined from cs → Lined from (placed b cs)
lined_placed from b [] f h l = (f, h, tt)
lined_placed from b (c ∷ cs) f h l =
    by_cases (int_le b.first c.first)
    (λ e. subst (λ (x : Bool). Lined from (cond x (b ∷ c ∷ cs) (c ∷ placed b cs))) (sym e) (f, h, (e, l.1, l.2)))
    (λ e. subst (λ (x : Bool). Lined from (cond x (b ∷ c ∷ cs) (c ∷ placed b cs))) (sym e) (l.0, l.1, lined_placed c.first b cs (less_or_more b.first c.first e) h l.2))

all_lined_placed : (b : Bounds) (cs : List Bounds) → holds_any b ≡ true → AllLined cs → AllLined (placed b cs)
all_lined_placed b [] h l = (h, tt)
all_lined_placed b (c ∷ cs) h l =
    by_cases (int_le b.first c.first)
    (λ e. subst (λ (x : Bool). AllLined (cond x (b ∷ c ∷ cs) (c ∷ placed b cs))) (sym e) (h, (e, l.0, l.1)))
    (λ e. subst (λ (x : Bool). AllLined (cond x (b ∷ c ∷ cs) (c ∷ placed b cs))) (sym e) (l.0, lined_placed c.first b cs (less_or_more b.first c.first e) h l.1))

pub lined-by_first : (bs : List Bounds) → AllLined (by_first bs)
lined-by_first [] = tt
lined-by_first (b ∷ bs) =
    by_cases (holds_any b)
    (λ h. subst (λ (x : Bool). AllLined (cond x (placed b (by_first bs)) (by_first bs))) (sym h) (all_lined_placed b (by_first bs) h (lined-by_first bs)))
    (λ h. subst (λ (x : Bool). AllLined (cond x (placed b (by_first bs)) (by_first bs))) (sym h) (lined-by_first bs))

-- ---- where all is well with the ranges

either : (x y : Bool) → (x || y) ≡ true → x ≡ false → y ≡ true
either true y h e = absurd (cc)
either false y h e = h

neither_left : (x y : Bool) → (x || y) ≡ false → x ≡ false
neither_left true y h = h
neither_left false y h = refl

neither_right : (x y : Bool) → (x || y) ≡ false → y ≡ false
neither_right true y h = absurd (cc)
neither_right false y h = h

full : (lo hi : ℤ) (bs : List Bounds) → is_full lo hi bs ≡ true → (v : ℤ) → within lo hi v ≡ true → 0 < times bs v
full lo hi bs e v w =
    by_cases (int_lt hi lo)
    (λ h. absurd (none_within lo hi v h w))
    (λ h. let f = filled lo hi (by_first bs) (either (int_lt hi lo) (fill lo hi (by_first bs)) e h) v w in
    let t = times-by_first bs v in
    omega (arith, f, t))

not_less : (x y : ℤ) → int_lt y x ≡ false → int_le x y ≡ true
not_less x y h = grind (arith, ints)

hole : (lo hi : ℤ) (bs : List Bounds) → is_full lo hi bs ≡ false → IsHole lo hi bs
hole lo hi bs e =
    let h = hole_all lo hi (by_first bs) (lined-by_first bs) (not_less lo hi (neither_left (int_lt hi lo) (fill lo hi (by_first bs)) e))
    (neither_right (int_lt hi lo) (fill lo hi (by_first bs)) e) in
    record { value = h.value; inside = h.inside; hole = sym (times-by_first bs h.value) ∙ h.hole }

ended : (lo hi : ℤ) (bs : List Bounds) → AtMostOnce lo hi bs → IsCover bs lo hi (cond (is_full lo hi bs) cover.Whole cover.Missing)
ended lo hi bs a =
    by_cases (is_full lo hi bs)
    (λ e. subst (λ (x : Bool). IsCover bs lo hi (cond x cover.Whole cover.Missing)) (sym e) (whole_is lo hi bs a (full lo hi bs e)))
    (λ e. subst (λ (x : Bool). IsCover bs lo hi (cond x cover.Whole cover.Missing)) (sym e) (missing_is lo hi bs a (hole lo hi bs e)))

-- ---- the next range

taken : (bs cs : List Bounds) → take (length bs) (bs ++ cs) ≡ bs
taken [] cs = refl
taken (b ∷ bs) cs = ap (λ (xs : List Bounds). b ∷ xs) (taken bs cs)

there : (bs : List Bounds) (b : Bounds) (cs : List Bounds) → slice_get (bs ++ b ∷ cs) (length bs) ≡ Some b
there [] b cs = refl
there (c ∷ bs) b cs = there bs b cs

not_false : (x : Bool) → not x ≡ true → x ≡ false
not_false true h = absurd (cc)
not_false false h = refl

not_true : (x : Bool) → not x ≡ false → x ≡ true
not_true true h = refl
not_true false h = absurd (cc)

outside_next : (lo hi : ℤ) (bs : List Bounds) (b : Bounds) (cs : List Bounds) → AtMostOnce lo hi bs → fits_in lo hi b ≡ false → IsOutside (bs ++ b ∷ cs) lo hi (length bs)
outside_next lo hi bs b cs a f =
    let s = some_outside lo hi b f in
    record { before = subst (AtMostOnce lo hi) (sym (taken bs (b ∷ cs))) a; range = b; at = there bs b cs; value = s.0; held = s.1; outside = s.2 }

record IsShared (b : Bounds) (cs : List Bounds) : Type 0 where
  pub value : ℤ
  pub held : holds value b ≡ true
  pub more : 0 < times cs value

shared_first : (b c : Bounds) → meet b c ≡ true → int_le b.first c.first ≡ true → (holds c.first b ≡ true) × (holds c.first c ≡ true)
shared_first b c h l = (grind (arith, ints), grind (arith, ints))

shared_last : (b c : Bounds) → meet b c ≡ true → int_le b.first c.first ≡ false → (holds b.first b ≡ true) × (holds b.first c ≡ true)
shared_last b c h l = (grind (arith, ints), grind (arith, ints))

positive : (c : Bounds) (cs : List Bounds) (v : ℤ) → holds v c ≡ true → 0 < times (c ∷ cs) v
positive c cs v h = let e = times_held c cs v h in omega (arith, e)

positive_tail : (c : Bounds) (cs : List Bounds) (v : ℤ) → 0 < times cs v → 0 < times (c ∷ cs) v
positive_tail c cs v h = let e = times-cons c cs v in omega (arith, e, h)

shared : (b : Bounds) (cs : List Bounds) → meets_any b cs ≡ true → IsShared b cs
shared b [] h = absurd (cc)
shared b (c ∷ cs) h =
    by_cases (meet b c)
    (λ m. by_cases (int_le b.first c.first)
    (λ l. let s = shared_first b c m l in record { value = c.first; held = s.0; more = positive c cs c.first s.1 })
    (λ l. let s = shared_last b c m l in record { value = b.first; held = s.0; more = positive c cs b.first s.1 }))
    (λ m. let r = shared b cs (either (meet b c) (meets_any b cs) h m) in
    record { value = r.value; held = r.held; more = positive_tail c cs r.value r.more })

apart_free : (b c : Bounds) (v : ℤ) → meet b c ≡ false → holds v b ≡ true → holds v c ≡ false
apart_free b c v m h = grind (arith, ints)

alone : (b : Bounds) (cs : List Bounds) → meets_any b cs ≡ false → (v : ℤ) → holds v b ≡ true → times cs v ≡ 0
alone b [] m v h = refl
alone b (c ∷ cs) m v h =
    times_free c cs v (apart_free b c v (neither_left (meet b c) (meets_any b cs) m) h)
    ∙ alone b cs (neither_right (meet b c) (meets_any b cs) m) v h

twice_next : (lo hi : ℤ) (bs : List Bounds) (b : Bounds) (cs : List Bounds) → AtMostOnce lo hi bs → fits_in lo hi b ≡ true → meets_any b bs ≡ true → IsTwice (bs ++ b ∷ cs) lo hi (length bs)
twice_next lo hi bs b cs a f m =
    let s = shared b bs m in
    let e = sym (taken bs (b ∷ cs)) in
    record {
      before = subst (AtMostOnce lo hi) e a;
      range = b;
      at = there bs b cs;
      inside = λ v. fit_inside lo hi v b f;
      value = s.value;
      held = s.held;
      twice = subst (λ (xs : List Bounds). 0 < times xs s.value) e s.more;
    }

pub one_more : (lo hi : ℤ) (bs : List Bounds) (b : Bounds) → AtMostOnce lo hi bs → fits_in lo hi b ≡ true → meets_any b bs ≡ false → AtMostOnce lo hi (bs ++ b ∷ [])
one_more lo hi bs b a f m v =
    let p : times (bs ++ b ∷ []) v ≡ times bs v + one (holds v b) = sum_by_push (λ (x : Bounds). one (holds v x)) bs b in
    by_cases (holds v b)
    (λ h.
    let n = alone b bs m v h in
    let o : one (holds v b) ≡ 1 = ap one h in
    let w : one (within lo hi v) ≡ 1 = ap one (fit_inside lo hi v b f h) in
    omega (arith, p, n, o, w))
    (λ h.
    let n = a v in
    let o : one (holds v b) ≡ 0 = ap one h in
    omega (arith, p, n, o))

append_nil : (bs : List Bounds) → bs ++ [] ≡ bs
append_nil [] = refl
append_nil (b ∷ bs) = ap (λ (xs : List Bounds). b ∷ xs) (append_nil bs)

appended : (bs : List Bounds) (b : Bounds) (cs : List Bounds) → (bs ++ b ∷ []) ++ cs ≡ bs ++ b ∷ cs
appended [] b cs = refl
appended (c ∷ bs) b cs = ap (λ (xs : List Bounds). c ∷ xs) (appended bs b cs)

covers_after : (before : List Bounds) (lo hi : ℤ) (rest : List Bounds) → AtMostOnce lo hi before → IsCover (before ++ rest) lo hi (covering_after before lo hi rest)
covers_after bs lo hi [] a =
    subst (λ (xs : List Bounds). IsCover xs lo hi (cond (is_full lo hi bs) cover.Whole cover.Missing)) (sym (append_nil bs)) (ended lo hi bs a)
covers_after bs lo hi (b ∷ cs) a =
    let next : Cover = covering_after (bs ++ b ∷ []) lo hi cs in
    let inner : Bool → Cover = λ y. cond y (cover.Twice (length bs)) next in
    let P : Cover → Type 0 = IsCover (bs ++ b ∷ cs) lo hi in
    by_cases (not (fits_in lo hi b))
    (λ f. subst (λ (x : Bool). P (cond x (cover.Outside (length bs)) (inner (meets_any b bs)))) (sym f) (outside_next lo hi bs b cs a (not_false (fits_in lo hi b) f)))
    (λ f. subst (λ (x : Bool). P (cond x (cover.Outside (length bs)) (inner (meets_any b bs)))) (sym f)
    (by_cases (meets_any b bs)
    (λ m. subst (λ (y : Bool). P (inner y)) (sym m) (twice_next lo hi bs b cs a (not_true (fits_in lo hi b) f) m))
    (λ m. subst (λ (y : Bool). P (inner y)) (sym m)
    (subst (λ (xs : List Bounds). IsCover xs lo hi next) (appended bs b cs)
    (covers_after (bs ++ b ∷ []) lo hi cs (one_more lo hi bs b a (not_true (fits_in lo hi b) f) m))))))

pub nothing_once : (lo hi : ℤ) → AtMostOnce lo hi []
nothing_once lo hi v = omega arith

pub covers : (ranges : List Bounds) (lo hi : ℤ) → IsCover ranges lo hi (covering ranges lo hi)
covers ranges lo hi = covers_after [] lo hi ranges (nothing_once lo hi)

pub same_as : (ranges : List Bounds) (lo hi : ℤ) (c : Cover) → IsCover ranges lo hi c → c ≡ covering ranges lo hi
same_as ranges lo hi c h = only_one ranges lo hi c (covering ranges lo hi) h (covers ranges lo hi)
