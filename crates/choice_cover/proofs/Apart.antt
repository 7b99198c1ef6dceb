-- Whether ranges whose first values rise are apart decides whether a value lies in two.
use Rattle.std.proofs.Common.{◌≡◌, arith, refl, sym, ◌∙◌, List, [], ◌∷◌, ℤ, Bool, true, false}
use Rattle.std.specs.Prelude.{cond, filter}
use Rattle.std.specs.Int.RustNames.{int_le}
use Rattle.std.specs.List.Sorted.{IsPermutation, IsSortedByKey}
use Rattle.std.specs.Ordering.{int_cmp}
use Rattle.std.proofs.lemmas.Int.{ints}
use Rattle.typed_units.specs.declared.operators.Bounds.{Bounds}
use Rattle.choice_cover.specs.Cover.{holds, times}
use Rattle.choice_cover.specs.Sweeps.{Crowded, IsOnce, Once, apart, apart_after, holds_any}
use Rattle.choice_cover.proofs.Held.{AllLined, Lined, by_cases, lined_sorted, times_free, times_held, times_sorted, times_tail}

free_up_to : (v r : ℤ) (b : Bounds) → int_le v r ≡ true → int_le b.first r ≡ false → holds v b ≡ false
free_up_to v r b h l = grind (arith, ints)

up_to_last : (v r : ℤ) (b : Bounds) → int_le v r ≡ true → int_le b.first r ≡ false → holds_any b ≡ true → int_le v b.last ≡ true
up_to_last v r b h l a = grind (arith, ints)

first_apart : (x y : Bool) → cond x false y ≡ true → x ≡ false
first_apart true y h = absurd (cc)
first_apart false y h = refl

rest_apart : (x y : Bool) → cond x false y ≡ true → y ≡ true
rest_apart true y h = absurd (cc)
rest_apart false y h = h

none_up_to : (r from : ℤ) (bs : List Bounds) (v : ℤ) → Lined from bs → apart_after r bs ≡ true → int_le v r ≡ true → times bs v ≡ 0
none_up_to r from [] v l a h = refl
none_up_to r from (b ∷ bs) v l a h =
    let f = first_apart (int_le b.first r) (apart_after b.last bs) a in
    times_free b bs v (free_up_to v r b h f)
    ∙ none_up_to b.last b.first bs v l.2 (rest_apart (int_le b.first r) (apart_after b.last bs) a) (up_to_last v r b h f l.1)

last_held : (v : ℤ) (b : Bounds) → holds v b ≡ true → int_le v b.last ≡ true
last_held v b h = grind (arith, ints)

once_all : (from : ℤ) (b : Bounds) (bs : List Bounds) → Lined from bs → apart_after b.last bs ≡ true → Once (b ∷ bs)
once_all from b [] l a v =
    by_cases (holds v b)
    (λ h. let e = times_held b [] v h in omega (arith, e))
    (λ h. let e = times_free b [] v h in omega (arith, e))
once_all from b (c ∷ cs) l a v =
    by_cases (holds v b)
    (λ h. let e = times_held b (c ∷ cs) v h in let n = none_up_to b.last from (c ∷ cs) v l a (last_held v b h) in omega (arith, e, n))
    (λ h. let e = times_free b (c ∷ cs) v h in let n = once_all c.first c cs l.2 (rest_apart (int_le c.first b.last) (apart_after c.last cs) a) v in omega (arith, e, n))

both_first : (b c : Bounds) → int_le b.first c.first ≡ true → int_le c.first b.last ≡ true → holds c.first b ≡ true
both_first b c f l = grind (arith, ints)

own_first : (b : Bounds) → holds_any b ≡ true → holds b.first b ≡ true
own_first b h = grind (arith, ints)

rest_crowded : (x y : Bool) → x ≡ false → cond x false y ≡ false → y ≡ false
rest_crowded true y e h = absurd (cc)
rest_crowded false y e h = h

crowded_all : (b : Bounds) (bs : List Bounds) → Lined b.first bs → apart_after b.last bs ≡ false → Crowded (b ∷ bs)
crowded_all b [] l a = absurd (cc)
crowded_all b (c ∷ cs) l a =
    by_cases (int_le c.first b.last)
    (λ h. let e = times_held b (c ∷ cs) c.first (both_first b c l.0 h) in
    let f = times_held c cs c.first (own_first c l.1) in
    (c.first, omega (arith, e, f)))
    (λ h. let r = crowded_all c cs l.2 (rest_crowded (int_le c.first b.last) (apart_after c.last cs) h a) in
    let t = times_tail b (c ∷ cs) r.0 in
    let u = r.1 in
    (r.0, omega (arith, t, u)))

decided : (cs : List Bounds) (answer : Bool) → AllLined cs → answer ≡ apart cs → IsOnce cs answer
decided [] true l e = λ v. omega arith
decided [] false l e = absurd (cc)
decided (b ∷ bs) true l e = once_all b.first b bs l.1 (sym e)
decided (b ∷ bs) false l e = crowded_all b bs l.1 (sym e)

moved : (bs cs : List Bounds) (answer : Bool) → ((v : ℤ) → times cs v ≡ times bs v) → IsOnce cs answer → IsOnce bs answer
moved bs cs true e h = λ v. let f = e v in let g = h v in omega (arith, f, g)
moved bs cs false e h = let f = e h.0 in let g = h.1 in (h.0, omega (arith, f, g))

pub once_decided : (bs cs : List Bounds) (answer : Bool) → IsPermutation (filter holds_any bs) cs → IsSortedByKey (λ x. x.first) int_cmp cs → answer ≡ apart cs → IsOnce bs answer
once_decided bs cs answer p s e = moved bs cs answer (λ v. times_sorted bs cs v p) (decided cs answer (lined_sorted bs cs p s) e)
