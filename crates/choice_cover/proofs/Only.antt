-- One answer alone is right.
use Rattle.std.proofs.Common.{◌≡◌, ℕ, suc, zero, ◌+◌, ◌≤◌, ◌<◌, arith, refl, ap, sym, ◌∙◌, List, [], ◌∷◌, take, ℤ, true, false}
use Rattle.std.specs.Prelude.{Some, slice_get}
use Rattle.std.proofs.lemmas.Option.{slice_get_within}
use Rattle.ada_values.specs.Scalars.{within}
use Rattle.typed_units.specs.declared.operators.Bounds.{Bounds}
use Rattle.choice_cover.specs.declared.cover.Cover.{Cover}
use Rattle.choice_cover.specs.declared.cover.Cover.TheVariants as cover
use Rattle.choice_cover.specs.Cover.{AtMostOnce, EachOnce, IsCover, IsMissing, IsOutside, IsTwice, holds, times}
use Rattle.choice_cover.proofs.Held.{one, times-take, times_next}

-- all is well before range k, and not with it
record Fault (bs : List Bounds) (lo hi : ℤ) (k : ℕ) : Type 0 where
  pub before : AtMostOnce lo hi (take k bs)
  pub value : ℤ
  pub over : one (within lo hi value) < times (take (k + 1) bs) value

outside_fault : (bs : List Bounds) (lo hi : ℤ) (k : ℕ) → IsOutside bs lo hi k → Fault bs lo hi k
outside_fault bs lo hi k o =
    let n = times_next bs k o.range o.value (slice_get_within bs k o.range o.at) o.at in
    let h : one (holds o.value o.range) ≡ 1 = ap one o.held in
    let w : one (within lo hi o.value) ≡ 0 = ap one o.outside in
    record { before = o.before; value = o.value; over = omega (arith, n, h, w) }

twice_fault : (bs : List Bounds) (lo hi : ℤ) (k : ℕ) → IsTwice bs lo hi k → Fault bs lo hi k
twice_fault bs lo hi k t =
    let n = times_next bs k t.range t.value (slice_get_within bs k t.range t.at) t.at in
    let h : one (holds t.value t.range) ≡ 1 = ap one t.held in
    let w : one (within lo hi t.value) ≡ 1 = ap one (t.inside t.value t.held) in
    let m = t.twice in
    record { before = t.before; value = t.value; over = omega (arith, n, h, w, m) }

no_fault : (bs : List Bounds) (lo hi : ℤ) (k : ℕ) → AtMostOnce lo hi bs → Fault bs lo hi k → ⊥
no_fault bs lo hi k a f = let t = times-take bs (k + 1) f.value in let u = a f.value in let o = f.over in omega (arith, t, u, o)

pub taken : (bs : List Bounds) (j k : ℕ) → j ≤ k → take j (take k bs) ≡ take j bs
taken bs zero k h = refl
taken [] (suc j) zero h = refl
taken [] (suc j) (suc k) h = refl
taken (b ∷ bs) (suc j) zero h = absurd (omega arith)
taken (b ∷ bs) (suc j) (suc k) h = ap (λ (cs : List Bounds). b ∷ cs) (taken bs j k (omega arith))

not_later : (bs : List Bounds) (lo hi : ℤ) (j k : ℕ) → Fault bs lo hi j → Fault bs lo hi k → j < k → ⊥
not_later bs lo hi j k f g h =
    let t = times-take (take k bs) (j + 1) f.value in
    let e : times (take (j + 1) (take k bs)) f.value ≡ times (take (j + 1) bs) f.value = ap (λ (cs : List Bounds). times cs f.value) (taken bs (j + 1) k (omega arith)) in
    let u = g.before f.value in
    let o = f.over in
    omega (arith, t, e, u, o)

same_fault : (bs : List Bounds) (lo hi : ℤ) (j k : ℕ) → Fault bs lo hi j → Fault bs lo hi k → j ≡ k
same_fault bs lo hi j k f g =
    let p : j < k → ⊥ = not_later bs lo hi j k f g in
    let q : k < j → ⊥ = not_later bs lo hi k j g f in
    omega (arith, p, q)

some_injective : (x y : Bounds) → Some x ≡ Some y → x ≡ y
some_injective x y e = cc

not_both : (bs : List Bounds) (lo hi : ℤ) (j k : ℕ) → IsOutside bs lo hi j → IsTwice bs lo hi k → ⊥
not_both bs lo hi j k o t =
    let e = same_fault bs lo hi j k (outside_fault bs lo hi j o) (twice_fault bs lo hi k t) in
    let r : o.range ≡ t.range = some_injective o.range t.range (sym o.at ∙ ap (slice_get bs) e ∙ t.at) in
    let h : holds o.value t.range ≡ true = sym (ap (holds o.value) r) ∙ o.held in
    let i = t.inside o.value h in
    let u = o.outside in
    let n : true ≡ false = sym i ∙ u in
    absurd (cc)

whole_once : (bs : List Bounds) (lo hi : ℤ) → EachOnce lo hi bs → AtMostOnce lo hi bs
whole_once bs lo hi w v = let e = w v in omega (arith, e)

not_missing : (bs : List Bounds) (lo hi : ℤ) → IsMissing bs lo hi → EachOnce lo hi bs → ⊥
not_missing bs lo hi m w =
    let e = w m.value in
    let f = m.missing in
    let g : one (within lo hi m.value) ≡ 1 = ap one m.inside in
    omega (arith, e, f, g)

pub only_one : (ranges : List Bounds) (lo hi : ℤ) (c d : Cover) → IsCover ranges lo hi c → IsCover ranges lo hi d → c ≡ d
only_one bs lo hi (cover.Outside j) (cover.Outside k) p q = ap (λ (n : ℕ). cover.Outside n) (same_fault bs lo hi j k (outside_fault bs lo hi j p) (outside_fault bs lo hi k q))
only_one bs lo hi (cover.Outside j) (cover.Twice k) p q = absurd (not_both bs lo hi j k p q)
only_one bs lo hi (cover.Outside j) cover.Missing p q = absurd (no_fault bs lo hi j q.all (outside_fault bs lo hi j p))
only_one bs lo hi (cover.Outside j) cover.Whole p q = absurd (no_fault bs lo hi j (whole_once bs lo hi q) (outside_fault bs lo hi j p))
only_one bs lo hi (cover.Twice j) (cover.Outside k) p q = absurd (not_both bs lo hi k j q p)
only_one bs lo hi (cover.Twice j) (cover.Twice k) p q = ap (λ (n : ℕ). cover.Twice n) (same_fault bs lo hi j k (twice_fault bs lo hi j p) (twice_fault bs lo hi k q))
only_one bs lo hi (cover.Twice j) cover.Missing p q = absurd (no_fault bs lo hi j q.all (twice_fault bs lo hi j p))
only_one bs lo hi (cover.Twice j) cover.Whole p q = absurd (no_fault bs lo hi j (whole_once bs lo hi q) (twice_fault bs lo hi j p))
only_one bs lo hi cover.Missing (cover.Outside k) p q = absurd (no_fault bs lo hi k p.all (outside_fault bs lo hi k q))
only_one bs lo hi cover.Missing (cover.Twice k) p q = absurd (no_fault bs lo hi k p.all (twice_fault bs lo hi k q))
only_one bs lo hi cover.Missing cover.Missing p q = refl
only_one bs lo hi cover.Missing cover.Whole p q = absurd (not_missing bs lo hi p q)
only_one bs lo hi cover.Whole (cover.Outside k) p q = absurd (no_fault bs lo hi k (whole_once bs lo hi p) (outside_fault bs lo hi k q))
only_one bs lo hi cover.Whole (cover.Twice k) p q = absurd (no_fault bs lo hi k (whole_once bs lo hi p) (twice_fault bs lo hi k q))
only_one bs lo hi cover.Whole cover.Missing p q = absurd (not_missing bs lo hi q p)
only_one bs lo hi cover.Whole cover.Whole p q = refl
