-- How many ranges hold a value: step by step, and in another order.
use Rattle.std.proofs.Common.{◌≡◌, ℕ, suc, ◌+◌, ◌≤◌, ◌<◌, arith, refl, ap, sym, ◌∙◌, subst, List, [], ◌∷◌, length, take, ℤ, Bool, true, false}
use Rattle.std.specs.Prelude.{cond, Some, slice_get, slice_index_or, filter}
use Rattle.std.specs.Int.RustNames.{int_le, int_lt}
use Rattle.std.specs.List.{All}
use Rattle.std.specs.List.Sorted.{IsPermutation, IsSortedByKey}
use Rattle.std.specs.Ordering.{int_cmp, is_lt}
use Rattle.std.proofs.lemmas.Int.{ints}
use Rattle.std.proofs.lemmas.List.Sums.{sum_by-cons, sum_by-take-le, sum_by_more}
use Rattle.std.proofs.lemmas.List.Sorted.{sum_by-IsPermutation, All-permutation}
use Rattle.std.proofs.lemmas.List.Elements.{filter_passes}
use Rattle.std.proofs.lemmas.Option.{get_or_from_slice_get}
use Rattle.typed_units.specs.declared.operators.Bounds.{Bounds}
use Rattle.choice_cover.specs.Cover.{holds, times}
use Rattle.choice_cover.specs.Sweeps.{holds_any}

pub by_cases : {C : Type 0} (b : Bool) → (b ≡ true → C) → (b ≡ false → C) → C
by_cases true t f = t refl
by_cases false t f = f refl

abbrev pub one : Bool → ℕ
one b = cond b 1 0

pub times-cons : (b : Bounds) (bs : List Bounds) (v : ℤ) → times (b ∷ bs) v ≡ one (holds v b) + times bs v
times-cons b bs v = sum_by-cons (λ (x : Bounds). one (holds v x)) b bs

pub times_held : (b : Bounds) (bs : List Bounds) (v : ℤ) → holds v b ≡ true → times (b ∷ bs) v ≡ suc (times bs v)
times_held b bs v h = let e = times-cons b bs v in let f : one (holds v b) ≡ 1 = ap one h in omega (arith, e, f)

pub times_free : (b : Bounds) (bs : List Bounds) (v : ℤ) → holds v b ≡ false → times (b ∷ bs) v ≡ times bs v
times_free b bs v h = let e = times-cons b bs v in let f : one (holds v b) ≡ 0 = ap one h in omega (arith, e, f)

pub times_tail : (b : Bounds) (bs : List Bounds) (v : ℤ) → times bs v ≤ times (b ∷ bs) v
times_tail b bs v = let e = times-cons b bs v in omega (arith, e)

pub times-take : (bs : List Bounds) (k : ℕ) (v : ℤ) → times (take k bs) v ≤ times bs v
times-take bs k v = sum_by-take-le (λ (x : Bounds). one (holds v x)) bs k

-- one more range
pub times_next : (bs : List Bounds) (k : ℕ) (b : Bounds) (v : ℤ) → k < length bs → slice_get bs k ≡ Some b → times (take (k + 1) bs) v ≡ times (take k bs) v + one (holds v b)
times_next bs k b v h e = sum_by_more (λ (x : Bounds). one (holds v x)) bs k b h ∙ ap (λ (x : Bounds). times (take k bs) v + one (holds v x)) (get_or_from_slice_get bs k b b e)

-- a null range holds nothing
pub null_free : (v : ℤ) (b : Bounds) → holds_any b ≡ false → holds v b ≡ false
null_free v b h = grind (arith, ints)

times-filter : (bs : List Bounds) (v : ℤ) → times (filter holds_any bs) v ≡ times bs v
times-filter [] v = refl
times-filter (b ∷ bs) v =
    by_cases (holds_any b)
    (λ h. ap (λ (x : Bool). times (cond x (b ∷ filter holds_any bs) (filter holds_any bs)) v) h ∙ times-cons b (filter holds_any bs) v ∙ ap (λ (n : ℕ). one (holds v b) + n) (times-filter bs v) ∙ sym (times-cons b bs v))
    (λ h. ap (λ (x : Bool). times (cond x (b ∷ filter holds_any bs) (filter holds_any bs)) v) h ∙ times-filter bs v ∙ sym (times_free b bs v (null_free v b h)))

pub times_sorted : (bs cs : List Bounds) (v : ℤ) → IsPermutation (filter holds_any bs) cs → times cs v ≡ times bs v
times_sorted bs cs v p = sum_by-IsPermutation (λ (x : Bounds). one (holds v x)) (filter holds_any bs) cs p ∙ times-filter bs v

-- ---- ranges that hold a value, and whose first values rise, from a value on

abbrev pub Lined : ℤ → List Bounds → Type 0
Lined from [] = Unit {0}
Lined from (b ∷ bs) = (int_le from b.first ≡ true) × (holds_any b ≡ true) × Lined b.first bs

abbrev pub AllLined : List Bounds → Type 0
AllLined [] = Unit {0}
AllLined (b ∷ bs) = (holds_any b ≡ true) × Lined b.first bs

rises : (x y : ℤ) → is_lt (int_cmp y x) ≡ false → int_le x y ≡ true
rises x y h = grind (arith, ints)

lined_after : (b : Bounds) (bs : List Bounds) → All (λ x. holds_any x ≡ true) (b ∷ bs) → IsSortedByKey (λ x. x.first) int_cmp (b ∷ bs) → Lined b.first bs
lined_after b [] a s = tt
lined_after b (c ∷ cs) a s = (
  rises b.first c.first (s 0 b (omega arith) (omega arith)),
  a 1 b (omega arith),
  lined_after c cs (λ k d h. a (suc k) d (omega arith)) (λ k d l h.
      let e : suc k + 1 ≡ suc (k + 1) = omega arith in
      let P : ℕ → Type 0 = λ m. is_lt (int_cmp (slice_index_or (b ∷ c ∷ cs) m d).first (slice_index_or (b ∷ c ∷ cs) (suc k) d).first) ≡ false in
      subst P e (s (suc k) d (omega arith) (omega arith))),
)

lined : (bs : List Bounds) → All (λ x. holds_any x ≡ true) bs → IsSortedByKey (λ x. x.first) int_cmp bs → AllLined bs
lined [] a s = tt
lined (b ∷ bs) a s = (a 0 b (omega arith), lined_after b bs a s)

pub lined_sorted : (bs cs : List Bounds) → IsPermutation (filter holds_any bs) cs → IsSortedByKey (λ x. x.first) int_cmp cs → AllLined cs
lined_sorted bs cs p s = lined cs (All-permutation (λ x. holds_any x ≡ true) (filter holds_any bs) cs p (filter_passes holds_any bs)) s

free_before : (v from : ℤ) (b : Bounds) → int_lt v from ≡ true → int_le from b.first ≡ true → holds v b ≡ false
free_before v from b h l = grind (arith, ints)

lt_le : (v x y : ℤ) → int_lt v x ≡ true → int_le x y ≡ true → int_lt v y ≡ true
lt_le v x y h l = grind (arith, ints)

pub none_below : (from : ℤ) (bs : List Bounds) (v : ℤ) → Lined from bs → int_lt v from ≡ true → times bs v ≡ 0
none_below from [] v l h = refl
none_below from (b ∷ bs) v l h = times_free b bs v (free_before v from b h l.0) ∙ none_below b.first bs v l.2 (lt_le v from b.first h l.0)
