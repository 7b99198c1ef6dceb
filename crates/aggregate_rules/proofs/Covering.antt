-- What ranges are for bounds: the rules and the walk over them in order agree.
use Rattle.std.proofs.Common.{◌≡◌, Result, Ok, Err, arith, refl, ap, sym, ◌∙◌, ℕ, suc, List, [], ◌∷◌, ◌++◌, length, ℤ, ◌+ℤ◌, Bool, true, false}
use Rattle.std.specs.Prelude.{IfOk, cond, not, ◌||◌, if◌then◌else◌}
use Rattle.std.specs.Ordering.{int_eq}
use Rattle.std.proofs.Math.IntN.{+ℤ_assoc, +ℤ_comm}
use Rattle.std.proofs.lemmas.Int.{ints}
use Rattle.typed_units.specs.declared.operators.Bounds.{Bounds}
use Rattle.choice_cover.specs.declared.cover.Cover.{Cover}
use Rattle.choice_cover.specs.declared.cover.Cover.TheVariants as cover
use Rattle.choice_cover.specs.Cover.{AtMostOnce}
use Rattle.choice_cover.specs.Covering.{covering, covering_after, is_full, meet, meets_any}
use Rattle.choice_cover.specs.Sizes.{size, sizes}
use Rattle.choice_cover.specs.Sweeps.{fits_in}
use Rattle.choice_cover.proofs.Function.{nothing_once, one_more}
use Rattle.choice_cover.proofs.Held.{by_cases}
use Rattle.choice_cover.proofs.Sized.{full_sized}
use Rattle.typing_rules.specs.Aggregates.{Cover as CoverOf, cover_after, cover_of, missing, outside, overlap, overlaps_one, size_all, twice, whole}
use Rattle.aggregate_rules.specs.Covers.{cover_as}

-- ---- ranges that were read, the newest first or last

or_swapped : (x y z : Bool) → x || (y || z) ≡ y || (x || z)
or_swapped true true z = refl
or_swapped true false z = refl
or_swapped false true z = refl
or_swapped false false z = refl

or_none : (x : Bool) → x || false ≡ x
or_none true = refl
or_none false = refl

meets-more : (r : Bounds) (bs : List Bounds) (b : Bounds) → meets_any r (bs ++ b ∷ []) ≡ meet r b || meets_any r bs
meets-more r [] b = refl
meets-more r (c ∷ cs) b = ap (λ (x : Bool). meet r c || x) (meets-more r cs b) ∙ or_swapped (meet r c) (meet r b) (meets_any r cs)

overlap_meets : (a b : Bounds) → overlap a b ≡ meet a b
overlap_meets a b = grind (arith, ints)

added : (a b c : ℤ) → a +ℤ (b +ℤ c) ≡ b +ℤ (a +ℤ c)
added a b c = sym (+ℤ_assoc a b c) ∙ ap (λ (n : ℤ). n +ℤ c) (+ℤ_comm a b) ∙ +ℤ_assoc b a c

sizes-more : (bs : List Bounds) (b : Bounds) → sizes (bs ++ b ∷ []) ≡ size b.first b.last +ℤ sizes bs
sizes-more [] b = refl
sizes-more (c ∷ cs) b = ap (λ (n : ℤ). size c.first c.last +ℤ n) (sizes-more cs b) ∙ added (size c.first c.last) (size b.first b.last) (sizes cs)

length-more : (bs : List Bounds) (b : Bounds) → length (bs ++ b ∷ []) ≡ suc (length bs)
length-more [] b = refl
length-more (c ∷ cs) b = ap suc (length-more cs b)

-- the same ranges in another order, as far as the rules ask
record IsSame (done before : List Bounds) : Type 0 where
  pub overlaps : (r : Bounds) → overlaps_one r done ≡ meets_any r before
  pub size : size_all done ≡ sizes before

one_same : (done before : List Bounds) (b : Bounds) → IsSame done before → IsSame (b ∷ done) (before ++ b ∷ [])
one_same done before b s = record {
  overlaps = λ r. ap (λ (x : Bool). x || overlaps_one r done) (overlap_meets r b) ∙ ap (λ (x : Bool). meet r b || x) (s.overlaps r) ∙ sym (meets-more r before b);
  size = ap (λ (n : ℤ). size b.first b.last +ℤ n) s.size ∙ sym (sizes-more before b);
}

-- ---- the answers

abbrev ended_as : Bool → CoverOf
ended_as b = if b then whole else missing

ended_is : (x : Bool) → ended_as x ≡ cover_as (cond x cover.Whole cover.Missing)
ended_is true = refl
ended_is false = refl

not_true : (x : Bool) → not x ≡ false → x ≡ true
not_true true h = refl
not_true false h = absurd (cc)

agree_after : (b : Bounds) (done before : List Bounds) (n : ℕ) (rs : List Bounds) → IsSame done before → n ≡ length before → AtMostOnce b.first b.last before
    → cover_after b done n rs ≡ cover_as (covering_after before b.first b.last rs)
agree_after b done before n [] s e a =
    ap (λ (m : ℤ). ended_as (int_eq m (size b.first b.last))) s.size
    ∙ ap ended_as (sym (full_sized b.first b.last before a))
    ∙ ended_is (is_full b.first b.last before)
agree_after b done before n (r ∷ rs) s e a =
    let next : CoverOf = cover_after b (r ∷ done) (suc n) rs in
    let after : Cover = covering_after (before ++ r ∷ []) b.first b.last rs in
    let second : Bool → CoverOf = λ x. if x then twice n else next in
    let inner : Bool → Cover = λ x. cond x (cover.Twice (length before)) after in
    by_cases (not (fits_in b.first b.last r))
    (λ f.
    ap (λ (x : Bool). if x then outside n else second (overlaps_one r done)) f
    ∙ ap outside e
    ∙ ap (λ (x : Bool). cover_as (cond x (cover.Outside (length before)) (inner (meets_any r before)))) (sym f))
    (λ f.
    ap (λ (x : Bool). if x then outside n else second (overlaps_one r done)) f
    ∙ ap second (s.overlaps r)
    ∙ by_cases (meets_any r before)
    (λ m. ap second m ∙ ap twice e ∙ ap (λ (x : Bool). cover_as (inner x)) (sym m))
    (λ m.
    ap second m
    ∙ agree_after b (r ∷ done) (before ++ r ∷ []) (suc n) rs (one_same done before r s) (ap suc e ∙ sym (length-more before r))
    (one_more b.first b.last before r a (not_true (fits_in b.first b.last r) f) m)
    ∙ ap (λ (x : Bool). cover_as (inner x)) (sym m))
    ∙ ap (λ (x : Bool). cover_as (cond x (cover.Outside (length before)) (inner (meets_any r before)))) (sym f))

none_same : IsSame [] []
none_same = record { overlaps = λ r. refl; size = refl }

-- what the walk answers is what the rules say
pub agree : (b : Bounds) (rs : List Bounds) → cover_as (covering rs b.first b.last) ≡ cover_of b rs
agree b rs = sym (agree_after b [] [] 0 rs none_same refl (nothing_once b.first b.last))

pub agree_where : {E : Type 0} (b : Bounds) (rs : List Bounds) (r : Result Cover E) → IfOk r (λ c. c ≡ covering rs b.first b.last) → IfOk r (λ c. cover_as c ≡ cover_of b rs)
agree_where b rs (Ok c) h = ap cover_as h ∙ agree b rs
agree_where b rs (Err e) h = tt
