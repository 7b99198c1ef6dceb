-- No two sorts are one kind.
use Rattle.std.proofs.Common.{◌≡◌, ◌≢◌, refl, suc, length, ◌&&◌, sym, ◌∙◌, ap, ap₂, subst, Bool, true, false, List, [], ◌∷◌, map, IsTrue, ◌↔◌}
use Rattle.logic_terms.specs.Value.{Kind, numbers, truths, arrays, records, Kinds, no_kinds, kind, same_kind, same_kinds}
use Rattle.logic_terms.specs.Sorts.{sort, sort_step, kinds_in}
use Rattle.logic_terms.specs.declared.sort.Sort.{Sort, roll-Sort, map-Sort, ind-Sort, fold-roll-Sort}
use Rattle.logic_terms.specs.declared.sort.Sort.TheVariants as s
use Rattle.logic_terms.specs.declared.sort.Sort.TheOpen.{Sort-F}
use Rattle.logic_terms.proofs.Sorted.{same_kind-is, same_kind-refl}

abbrev mutual
  sort_back : Kind → Sort
  sort_back numbers = s.Num
  sort_back truths = s.Truth
  sort_back (arrays k) = s.Array (sort_back k)
  sort_back (records ks) = s.Record (sorts_back ks)

  sorts_back : Kinds → List Sort
  sorts_back no_kinds = []
  sorts_back (kind k ks) = sort_back k ∷ sorts_back ks

abbrev Came : Sort → Type 0
Came x = sort_back (sort x) ≡ x

abbrev Told : Type 0
Told = (x : Sort) × Came x

lists_come : (xs : List Told) → sorts_back (kinds_in (map sort (map (λ e. e.0) xs))) ≡ map (λ e. e.0) xs
lists_come [] = refl
lists_come (x ∷ xs) = ap₂ (λ y ys. y ∷ ys) x.1 (lists_come xs)

layer : (y : Sort-F Told) → sort_back (sort_step (map-Sort Sort Kind sort (map-Sort Told Sort (λ e. e.0) y))) ≡ roll-Sort (map-Sort Told Sort (λ e. e.0) y)
layer Sort-F.Num = sym s.rolls-Num
layer Sort-F.Truth = sym s.rolls-Truth
layer (Sort-F.Array a) = ap s.Array a.1 ∙ sym (s.rolls-Array a.0)
layer (Sort-F.Record xs) = ap s.Record (lists_come xs) ∙ sym (s.rolls-Record (map (λ e. e.0) xs))

pub sort_came : (x : Sort) → sort_back (sort x) ≡ x
sort_came = ind-Sort Came (λ x y is.
    subst (λ z. Came (roll-Sort z)) is (ap sort_back (fold-roll-Sort Kind sort_step (map-Sort Told Sort (λ e. e.0) y)) ∙ layer y))

-- a test of kinds is one of their sorts
pub same_sorts_law : (r : Bool) (a b : Sort) → r ≡ same_kind (sort a) (sort b) → IsTrue r ↔ (a ≡ b)
same_sorts_law r a b h = (
  (λ e. sym (sort_came a) ∙ ap sort_back (same_kind-is (sort a) (sort b) (sym h ∙ e)) ∙ sort_came b),
  (λ e. h ∙ subst (λ x. same_kind (sort a) (sort x) ≡ true) e (same_kind-refl (sort a))),
)

and_false : (a b : Bool) → b ≡ false → (a && b) ≡ false
and_false true b h = h
and_false false b h = refl

pub sorts_lengths : (xs ys : List Sort) → length xs ≢ length ys → same_kinds (kinds_in (map sort xs)) (kinds_in (map sort ys)) ≡ false
sorts_lengths [] [] h = absurd (h refl)
sorts_lengths [] (y ∷ ys) h = refl
sorts_lengths (x ∷ xs) [] h = refl
sorts_lengths (x ∷ xs) (y ∷ ys) h = and_false (same_kind (sort x) (sort y)) _ (sorts_lengths xs ys (λ e. h (ap (λ n. suc n) e)))
