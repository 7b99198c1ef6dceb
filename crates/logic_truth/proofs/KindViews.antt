-- Kinds that are found one after another.
use Rattle.std.proofs.Common.{◌≡◌, refl, sym, ◌∙◌, ap, ap₂, ℕ, ◌+◌, ◌<◌, List, [], ◌∷◌, ◌++◌, length, get_or, take, map}
use Rattle.std.proofs.lemmas.List.{take_more}
use Rattle.logic_terms.specs.Value.{Kind, Kinds, no_kinds, kind, Value, Values, no_values, value, kind_of, kinds_of}
use Rattle.logic_terms.specs.Sorts.{sort, kinds_in}
use Rattle.logic_terms.specs.declared.sort.Sort.{Sort}
use Rattle.logic_truth.specs.Found.{found, found_all}
use Rattle.logic_truth.specs.declared.found.Found.{Found}
use Rattle.logic_truth.proofs.Whole.{then_value, found-push}

abbrev then_kind : Kinds → Kind → Kinds
then_kind no_kinds k = kind k no_kinds
then_kind (kind j js) k = kind j (then_kind js k)

kinds-push : (xs : List Sort) (x : Sort) → kinds_in (map sort (xs ++ x ∷ [])) ≡ then_kind (kinds_in (map sort xs)) (sort x)
kinds-push [] x = refl
kinds-push (y ∷ xs) x = ap (kind (sort y)) (kinds-push xs x)

kinds-then : (vs : Values) (v : Value) → kinds_of (then_value vs v) ≡ then_kind (kinds_of vs) (kind_of v)
kinds-then no_values v = refl
kinds-then (value u vs) v = ap (kind (kind_of u)) (kinds-then vs v)

-- a loop that finds the kinds of some values
pub kinds_more : (items : List Found) (xs new : List Sort) (i : ℕ) (v : Found) (x : Sort) → i < length items → v ≡ get_or items i v → kinds_in (map sort xs) ≡ kinds_of (found_all (take i items)) → sort x ≡ kind_of (found v) → new ≡ xs ++ x ∷ [] → kinds_in (map sort new) ≡ kinds_of (found_all (take (i + 1) items))
kinds_more items xs new i v x h is before e more =
    let read : take (i + 1) items ≡ take i items ++ v ∷ [] = take_more items i v h ∙ ap (λ y. take i items ++ y ∷ []) (sym is) in
    ap (λ ys. kinds_in (map sort ys)) more ∙ kinds-push xs x ∙ ap₂ then_kind before e ∙ sym (kinds-then (found_all (take i items)) (found v)) ∙ ap kinds_of (sym (found-push (take i items) v)) ∙ ap (λ us. kinds_of (found_all us)) (sym read)
