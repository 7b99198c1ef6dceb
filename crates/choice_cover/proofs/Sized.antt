-- Ranges that hold no value twice, and none outside two bounds, hold all between these exactly where they have as many.
use Rattle.std.proofs.Common.{◌≡◌, ◌<◌, arith, refl, ap, sym, ◌∙◌, subst, List, [], ◌∷◌, ℤ, pos, ◌+ℤ◌, ◌-ℤ◌, Bool, true, false}
use Rattle.std.specs.Prelude.{cond, ◌||◌, if◌then◌else◌}
use Rattle.std.specs.Int.{int_max}
use Rattle.std.specs.Int.RustNames.{int_le, int_lt}
use Rattle.std.specs.Ordering.{int_eq}
use Rattle.std.proofs.Math.IntN.{+ℤ_assoc, +ℤ_comm}
use Rattle.std.proofs.lemmas.Int.{ints, clamps}
use Rattle.ada_values.specs.Scalars.{within}
use Rattle.typed_units.specs.declared.operators.Bounds.{Bounds}
use Rattle.choice_cover.specs.Cover.{AtMostOnce, holds, times}
use Rattle.choice_cover.specs.Covering.{by_first, is_full, placed}
use Rattle.choice_cover.specs.Sizes.{size, sizes}
use Rattle.choice_cover.specs.Sweeps.{fill, holds_any}
use Rattle.choice_cover.proofs.Function.{lined-by_first, times-by_first}
use Rattle.choice_cover.proofs.Held.{AllLined, Lined, by_cases, none_below, one, times_held, times_tail}

-- ---- sizes

size_of_some : (lo hi : ℤ) → int_le lo hi ≡ true → size lo hi ≡ (hi -ℤ lo) +ℤ pos 1
size_of_some lo hi h =
    let e : int_lt hi lo ≡ false = grind (arith, ints) in
    ap (λ (x : Bool). if x then pos 0 else (hi -ℤ lo) +ℤ pos 1) e

size_of_none : (lo hi : ℤ) → int_le lo hi ≡ false → size lo hi ≡ pos 0
size_of_none lo hi h =
    let e : int_lt hi lo ≡ true = grind (arith, ints) in
    ap (λ (x : Bool). if x then pos 0 else (hi -ℤ lo) +ℤ pos 1) e

swapped : (a b c : ℤ) → a +ℤ (b +ℤ c) ≡ b +ℤ (a +ℤ c)
swapped a b c = sym (+ℤ_assoc a b c) ∙ ap (λ (n : ℤ). n +ℤ c) (+ℤ_comm a b) ∙ +ℤ_assoc b a c

none_first : (a : ℤ) → pos 0 +ℤ a ≡ a
none_first a = grind (arith, ints)

sizes-placed : (b : Bounds) (cs : List Bounds) → sizes (placed b cs) ≡ size b.first b.last +ℤ sizes cs
sizes-placed b [] = refl
sizes-placed b (c ∷ cs) =
    by_cases (int_le b.first c.first)
    (λ h. ap (λ (x : Bool). sizes (cond x (b ∷ c ∷ cs) (c ∷ placed b cs))) h)
    (λ h.
    ap (λ (x : Bool). sizes (cond x (b ∷ c ∷ cs) (c ∷ placed b cs))) h
    ∙ ap (λ (n : ℤ). size c.first c.last +ℤ n) (sizes-placed b cs)
    ∙ swapped (size c.first c.last) (size b.first b.last) (sizes cs))

sizes-by_first : (bs : List Bounds) → sizes (by_first bs) ≡ sizes bs
sizes-by_first [] = refl
sizes-by_first (b ∷ bs) =
    by_cases (holds_any b)
    (λ h.
    ap (λ (x : Bool). sizes (cond x (placed b (by_first bs)) (by_first bs))) h
    ∙ sizes-placed b (by_first bs)
    ∙ ap (λ (n : ℤ). size b.first b.last +ℤ n) (sizes-by_first bs))
    (λ h.
    ap (λ (x : Bool). sizes (cond x (placed b (by_first bs)) (by_first bs))) h
    ∙ sizes-by_first bs
    ∙ sym (none_first (sizes bs))
    ∙ sym (ap (λ (n : ℤ). n +ℤ sizes bs) (size_of_none b.first b.last h)))

-- ---- ranges from `next` to `hi`, of which each begins after the end of the one before it

abbrev Apart : ℤ → ℤ → List Bounds → Type 0
Apart next hi [] = Unit {0}
Apart next hi (b ∷ bs) = (int_le next b.first ≡ true) × (int_le b.first b.last ≡ true) × (int_le b.last hi ≡ true) × Apart (b.last +ℤ pos 1) hi bs

after_last : (x hi : ℤ) → int_le x hi ≡ true → int_le (x +ℤ pos 1) (hi +ℤ pos 1) ≡ true
after_last x hi h = grind (arith, ints)

no_more_first : (next hi : ℤ) → int_le next (hi +ℤ pos 1) ≡ true → int_le (pos 0) ((hi -ℤ next) +ℤ pos 1) ≡ true
no_more_first next hi h = grind (arith, ints)

no_more_next : (next hi f l s : ℤ) → int_le next f ≡ true → int_le s ((hi -ℤ (l +ℤ pos 1)) +ℤ pos 1) ≡ true → int_le (((l -ℤ f) +ℤ pos 1) +ℤ s) ((hi -ℤ next) +ℤ pos 1) ≡ true
no_more_next next hi f l s h i = grind (arith, ints)

-- they have no more values than there are
no_more : (next hi : ℤ) (bs : List Bounds) → Apart next hi bs → int_le next (hi +ℤ pos 1) ≡ true → int_le (sizes bs) ((hi -ℤ next) +ℤ pos 1) ≡ true
no_more next hi [] a h = no_more_first next hi h
no_more next hi (b ∷ bs) a h =
    subst (λ (n : ℤ). int_le (n +ℤ sizes bs) ((hi -ℤ next) +ℤ pos 1) ≡ true) (sym (size_of_some b.first b.last a.1))
    (no_more_next next hi b.first b.last (sizes bs) a.0 (no_more (b.last +ℤ pos 1) hi bs a.3 (after_last b.last hi a.2)))

itself : (x : ℤ) → int_le x x ≡ true
itself x = grind (arith, ints)

from_first : (next hi : ℤ) (b : Bounds) (bs : List Bounds) → Apart next hi (b ∷ bs) → Apart b.first hi (b ∷ bs)
from_first next hi b bs a = (itself b.first, a.1, a.2, a.3)

first_within : (f l hi : ℤ) → int_le f l ≡ true → int_le l hi ≡ true → int_le f (hi +ℤ pos 1) ≡ true
first_within f l hi h i = grind (arith, ints)

too_few : (next hi f s : ℤ) → int_lt next f ≡ true → int_le s ((hi -ℤ f) +ℤ pos 1) ≡ true → int_eq s ((hi -ℤ next) +ℤ pos 1) ≡ false
too_few next hi f s h i = grind (arith, ints)

none_of_some : (next hi : ℤ) → int_le next hi ≡ true → int_eq (pos 0) ((hi -ℤ next) +ℤ pos 1) ≡ false
none_of_some next hi h = grind (arith, ints)

past_last : (l hi f m : ℤ) → int_le hi l ≡ true → int_le (l +ℤ pos 1) f ≡ true → int_le f m ≡ true → int_le m hi ≡ true → ⊥
past_last l hi f m h i j k = grind (arith, ints)

nothing_after : (l hi : ℤ) (bs : List Bounds) → int_le hi l ≡ true → Apart (l +ℤ pos 1) hi bs → sizes bs ≡ pos 0
nothing_after l hi [] h a = refl
nothing_after l hi (b ∷ bs) h a = absurd (past_last l hi b.first b.last h a.0 a.1 a.2)

all_of_them : (next hi f l : ℤ) → int_lt next f ≡ false → int_le next f ≡ true → int_le hi l ≡ true → int_le l hi ≡ true → int_eq (((l -ℤ f) +ℤ pos 1) +ℤ pos 0) ((hi -ℤ next) +ℤ pos 1) ≡ true
all_of_them next hi f l h i j k = grind (arith, ints)

as_many : (next hi f l s : ℤ) → int_lt next f ≡ false → int_le next f ≡ true → int_eq s ((hi -ℤ (l +ℤ pos 1)) +ℤ pos 1) ≡ int_eq (((l -ℤ f) +ℤ pos 1) +ℤ s) ((hi -ℤ next) +ℤ pos 1)
as_many next hi f l s h i = grind (arith, ints)

next_after : (next f l : ℤ) → int_lt next f ≡ false → int_le next f ≡ true → int_le f l ≡ true → int_max next (l +ℤ pos 1) ≡ l +ℤ pos 1
next_after next f l h i j = grind (arith, ints, clamps)

still_some : (l hi : ℤ) → int_le hi l ≡ false → int_le (l +ℤ pos 1) hi ≡ true
still_some l hi h = grind (arith, ints)

fill_sized : (next hi : ℤ) (bs : List Bounds) → Apart next hi bs → int_le next hi ≡ true → fill next hi bs ≡ int_eq (sizes bs) ((hi -ℤ next) +ℤ pos 1)
fill_sized next hi [] a h = sym (none_of_some next hi h)
fill_sized next hi (b ∷ bs) a h =
    let rest = fill (int_max next (b.last +ℤ pos 1)) hi bs in
    let all = (hi -ℤ next) +ℤ pos 1 in
    let own = size_of_some b.first b.last a.1 in
    by_cases (int_lt next b.first)
    (λ e.
    ap (λ (x : Bool). cond x false (cond (int_le hi b.last) true rest)) e
    ∙ sym (too_few next hi b.first (sizes (b ∷ bs)) e (no_more b.first hi (b ∷ bs) (from_first next hi b bs a) (first_within b.first b.last hi a.1 a.2))))
    (λ e.
    ap (λ (x : Bool). cond x false (cond (int_le hi b.last) true rest)) e
    ∙ by_cases (int_le hi b.last)
    (λ i.
    ap (λ (x : Bool). cond x true rest) i
    ∙ sym (ap (λ (n : ℤ). int_eq (n +ℤ sizes bs) all) own
    ∙ ap (λ (n : ℤ). int_eq (((b.last -ℤ b.first) +ℤ pos 1) +ℤ n) all) (nothing_after b.last hi bs i a.3)
    ∙ all_of_them next hi b.first b.last e a.0 i a.2))
    (λ i.
    ap (λ (x : Bool). cond x true rest) i
    ∙ ap (λ (n : ℤ). fill n hi bs) (next_after next b.first b.last e a.0 a.1)
    ∙ fill_sized (b.last +ℤ pos 1) hi bs a.3 (still_some b.last hi i)
    ∙ as_many next hi b.first b.last (sizes bs) e a.0
    ∙ sym (ap (λ (n : ℤ). int_eq (n +ℤ sizes bs) all) own)))

-- ---- ranges that hold no value twice

once_at : (lo hi : ℤ) (bs : List Bounds) (v : ℤ) → AtMostOnce lo hi bs → 0 < times bs v → within lo hi v ≡ true
once_at lo hi bs v a h =
    by_cases (within lo hi v)
    (λ w. w)
    (λ w. let e : one (within lo hi v) ≡ 0 = ap one w in let m = a v in absurd (omega (arith, e, m, h)))

own_first : (b : Bounds) → holds_any b ≡ true → holds b.first b ≡ true
own_first b h = grind (arith, ints)

own_last : (b : Bounds) → holds_any b ≡ true → holds b.last b ≡ true
own_last b h = grind (arith, ints)

held_once : (b : Bounds) (bs : List Bounds) (v : ℤ) → holds v b ≡ true → 0 < times (b ∷ bs) v
held_once b bs v h = let e = times_held b bs v h in omega (arith, e)

at_least : (lo hi v : ℤ) → within lo hi v ≡ true → int_le lo v ≡ true
at_least lo hi v h = grind (arith, ints)

at_most : (lo hi v : ℤ) → within lo hi v ≡ true → int_le v hi ≡ true
at_most lo hi v h = grind (arith, ints)

held_before : (v next hi : ℤ) (b : Bounds) → within (b.last +ℤ pos 1) hi v ≡ false → within next hi v ≡ true → int_lt v b.first ≡ false → holds v b ≡ true
held_before v next hi b h i j = grind (arith, ints)

lined_rest : (from : ℤ) (bs : List Bounds) → Lined from bs → AllLined bs
lined_rest from [] l = tt
lined_rest from (b ∷ bs) l = (l.1, l.2)

rest_once : (next hi : ℤ) (b : Bounds) (bs : List Bounds) → AtMostOnce next hi (b ∷ bs) → Lined b.first bs → AtMostOnce (b.last +ℤ pos 1) hi bs
rest_once next hi b bs a l v =
    let t = times_tail b bs v in
    let m = a v in
    by_cases (within (b.last +ℤ pos 1) hi v)
    (λ w.
    let e : one (within (b.last +ℤ pos 1) hi v) ≡ 1 = ap one w in
    by_cases (within next hi v)
    (λ u. let f : one (within next hi v) ≡ 1 = ap one u in omega (arith, e, f, t, m))
    (λ u. let f : one (within next hi v) ≡ 0 = ap one u in omega (arith, e, f, t, m)))
    (λ w.
    let e : one (within (b.last +ℤ pos 1) hi v) ≡ 0 = ap one w in
    by_cases (within next hi v)
    (λ u.
    let f : one (within next hi v) ≡ 1 = ap one u in
    by_cases (int_lt v b.first)
    (λ s. let n = none_below b.first bs v l s in omega (arith, e, n))
    (λ s. let n = times_held b bs v (held_before v next hi b w u s) in omega (arith, e, f, m, n)))
    (λ u. let f : one (within next hi v) ≡ 0 = ap one u in omega (arith, e, f, t, m)))

apart_once : (next hi : ℤ) (bs : List Bounds) → AtMostOnce next hi bs → AllLined bs → Apart next hi bs
apart_once next hi [] a l = tt
apart_once next hi (b ∷ bs) a l = (
  at_least next hi b.first (once_at next hi (b ∷ bs) b.first a (held_once b bs b.first (own_first b l.0))),
  l.0,
  at_most next hi b.last (once_at next hi (b ∷ bs) b.last a (held_once b bs b.last (own_last b l.0))),
  apart_once (b.last +ℤ pos 1) hi bs (rest_once next hi b bs a l.1) (lined_rest b.first bs l.1),
)

by_first_once : (lo hi : ℤ) (bs : List Bounds) → AtMostOnce lo hi bs → AtMostOnce lo hi (by_first bs)
by_first_once lo hi bs a v = let m = a v in let e = times-by_first bs v in omega (arith, m, e)

past_all : (lo hi f l : ℤ) → int_lt hi lo ≡ true → int_le lo f ≡ true → int_le f l ≡ true → int_le l hi ≡ true → ⊥
past_all lo hi f l h i j k = grind (arith, ints)

none_within : (lo hi : ℤ) (bs : List Bounds) → int_lt hi lo ≡ true → Apart lo hi bs → sizes bs ≡ pos 0
none_within lo hi [] h a = refl
none_within lo hi (b ∷ bs) h a = absurd (past_all lo hi b.first b.last h a.0 a.1 a.2)

some_within : (lo hi : ℤ) → int_lt hi lo ≡ false → int_le lo hi ≡ true
some_within lo hi h = grind (arith, ints)

equal_none : (x : ℤ) → x ≡ pos 0 → int_eq x (pos 0) ≡ true
equal_none x h = grind (arith, ints)

pub full_sized : (lo hi : ℤ) (bs : List Bounds) → AtMostOnce lo hi bs → is_full lo hi bs ≡ int_eq (sizes bs) (size lo hi)
full_sized lo hi bs a =
    let cs = by_first bs in
    let p = apart_once lo hi cs (by_first_once lo hi bs a) (lined-by_first bs) in
    let s = sizes-by_first bs in
    by_cases (int_lt hi lo)
    (λ e.
    ap (λ (x : Bool). x || fill lo hi cs) e
    ∙ sym (equal_none (sizes bs) (sym s ∙ none_within lo hi cs e p))
    ∙ ap (λ (x : Bool). int_eq (sizes bs) (if x then pos 0 else (hi -ℤ lo) +ℤ pos 1)) (sym e))
    (λ e.
    ap (λ (x : Bool). x || fill lo hi cs) e
    ∙ fill_sized lo hi cs p (some_within lo hi e)
    ∙ ap (λ (n : ℤ). int_eq n ((hi -ℤ lo) +ℤ pos 1)) s
    ∙ ap (λ (x : Bool). int_eq (sizes bs) (if x then pos 0 else (hi -ℤ lo) +ℤ pos 1)) (sym e))
