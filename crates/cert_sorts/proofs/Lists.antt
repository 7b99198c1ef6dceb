-- Symbols, variables, fields and calls by their numbers.
use Rattle.std.proofs.Common.{◌≡◌, ◌≢◌, refl, sym, ◌∙◌, ap, ℕ, zero, suc, ◌<◌, ◌≤◌, ◌+◌, ◌-◌, Bool, true, false, ◌&&◌, List, [], ◌∷◌, ◌++◌, map, length, get_or, drop, Some, None, arith}
use Rattle.std.specs.List.{slice_get}
use Rattle.logic_terms.specs.Value.{Kind, numbers, records, kind, same_kind, same_kinds}
use Rattle.logic_terms.specs.Sorts.{sort}
use Rattle.logic_terms.specs.Sorting.{nth, nth_kind, given, kind-upd}
use Rattle.logic_terms.specs.Goal.{called_as}
use Rattle.logic_terms.specs.declared.sort.Sort.{Sort}
use Rattle.logic_terms.specs.declared.goal.Symbol.{Symbol}
use Rattle.logic_terms.specs.declared.goal.Call.{Call}
use Rattle.cert_lines.specs.Symbols.{new_kinds}
use Rattle.cert_sorts.specs.Found.{found, kinds}

-- ---- symbols and variables

pub symbol_there : (ss : List Symbol) (n k : ℕ) (x : Symbol) → k < length ss → x ≡ get_or ss k x → nth (map (λ s. sort s.sort) ss ++ new_kinds n) k ≡ Some (sort x.sort)
symbol_there [] n k x h is = absurd (omega arith)
symbol_there (s ∷ ss) n zero x h is = ap (λ y. Some (sort y.sort)) (sym is)
symbol_there (s ∷ ss) n (suc k) x h is = symbol_there ss n k x (omega arith) is

pub symbol_new : (ss : List Symbol) (n k : ℕ) → length ss ≤ k → nth (map (λ s. sort s.sort) ss ++ new_kinds n) k ≡ nth (new_kinds n) (k - length ss)
symbol_new [] n k h = let e : k - 0 ≡ k = omega arith in ap (nth (new_kinds n)) (sym e)
symbol_new (s ∷ ss) n zero h = absurd (omega arith)
symbol_new (s ∷ ss) n (suc k) h =
    let e : suc k - suc (length ss) ≡ k - length ss = omega arith in
    symbol_new ss n k (omega arith) ∙ ap (nth (new_kinds n)) (sym e)

pub new_there : (n k : ℕ) → k < n → nth (new_kinds n) k ≡ Some numbers
new_there zero k h = absurd (omega arith)
new_there (suc n) zero h = refl
new_there (suc n) (suc k) h = new_there n k (omega arith)

pub new_past : (n k : ℕ) → n ≤ k → nth (new_kinds n) k ≡ None
new_past zero k h = refl
new_past (suc n) zero h = absurd (omega arith)
new_past (suc n) (suc k) h = new_past n k (omega arith)

-- ---- calls

pub call_there : (cs : List Call) (k : ℕ) (x : Call) → k < length cs → x ≡ get_or cs k x → nth (map called_as cs) k ≡ Some (called_as x)
call_there [] k x h is = absurd (omega arith)
call_there (c ∷ cs) zero x h is = ap (λ y. Some (called_as y)) (sym is)
call_there (c ∷ cs) (suc k) x h is = call_there cs k x (omega arith) is

pub call_past : (cs : List Call) (k : ℕ) → length cs ≤ k → nth (map called_as cs) k ≡ None
call_past [] k h = refl
call_past (c ∷ cs) zero h = absurd (omega arith)
call_past (c ∷ cs) (suc k) h = call_past cs k (omega arith)

-- ---- fields

pub field_kind : (ss : List Sort) (k : ℕ) → nth_kind (kinds ss) k ≡ found (slice_get ss k)
field_kind [] k = refl
field_kind (s ∷ ss) zero = refl
field_kind (s ∷ ss) (suc k) = field_kind ss k

pub field_there : (ss : List Sort) (k : ℕ) (s : Sort) → Some s ≡ slice_get ss k → nth_kind (kinds ss) k ≡ Some (sort s)
field_there ss k s e = field_kind ss k ∙ ap found (sym e)

pub field_past : (ss : List Sort) (k : ℕ) → None ≡ slice_get ss k → nth_kind (kinds ss) k ≡ None
field_past ss k e = field_kind ss k ∙ ap found (sym e)

pub update_there : (ss : List Sort) (k : ℕ) (s : Sort) (j : Kind) (b : Bool) → Some s ≡ slice_get ss k → b ≡ same_kind (sort s) j → given b (records (kinds ss)) ≡ kind-upd (nth_kind (kinds ss) k) (kinds ss) j
update_there ss k s j b e h = ap (λ c. given c (records (kinds ss))) h ∙ ap (λ x. kind-upd x (kinds ss) j) (sym (field_there ss k s e))

pub update_past : (ss : List Sort) (k : ℕ) (j : Kind) → None ≡ slice_get ss k → given false (records (kinds ss)) ≡ kind-upd (nth_kind (kinds ss) k) (kinds ss) j
update_past ss k j e = ap (λ x. kind-upd x (kinds ss) j) (sym (field_past ss k e))

-- ---- sorts that are compared one after another

and_false : (a b : Bool) → b ≡ false → (a && b) ≡ false
and_false true b h = h
and_false false b h = refl

pub lengths_differ : (ss ts : List Sort) → length ss ≢ length ts → same_kinds (kinds ss) (kinds ts) ≡ false
lengths_differ [] [] h = absurd (h refl)
lengths_differ [] (t ∷ ts) h = refl
lengths_differ (s ∷ ss) [] h = refl
lengths_differ (s ∷ ss) (t ∷ ts) h = and_false (same_kind (sort s) (sort t)) _ (lengths_differ ss ts (λ e. h (ap (λ n. suc n) e)))

kinds_drop : (ss : List Sort) (i : ℕ) (s : Sort) → i < length ss → s ≡ get_or ss i s → kinds (drop i ss) ≡ kind (sort s) (kinds (drop (i + 1) ss))
kinds_drop [] i s h is = absurd (omega arith)
kinds_drop (x ∷ ss) zero s h is = ap (λ y. kind (sort y) (kinds ss)) (sym is)
kinds_drop (x ∷ ss) (suc i) s h is =
    let e : suc i + 1 ≡ suc (i + 1) = omega arith in
    kinds_drop ss i s (omega arith) is ∙ ap (λ j. kind (sort s) (kinds (drop j (x ∷ ss)))) (sym e)

-- one turn of a loop over two lists of one length
pub sorts_turn : (ss ts : List Sort) (i : ℕ) (s t : Sort) → i < length ss → length ss ≡ length ts → s ≡ get_or ss i s → t ≡ get_or ts i t → same_kinds (kinds (drop i ss)) (kinds (drop i ts)) ≡ (same_kind (sort s) (sort t) && same_kinds (kinds (drop (i + 1) ss)) (kinds (drop (i + 1) ts)))
sorts_turn ss ts i s t h e p q =
    ap (λ ks. same_kinds ks (kinds (drop i ts))) (kinds_drop ss i s h p) ∙ ap (same_kinds (kind (sort s) (kinds (drop (i + 1) ss)))) (kinds_drop ts i t (omega arith) q)

pub sorts_end : (ss ts : List Sort) (i : ℕ) → length ss ≤ i → length ss ≡ length ts → same_kinds (kinds (drop i ss)) (kinds (drop i ts)) ≡ true
sorts_end [] [] zero h e = refl
sorts_end [] [] (suc i) h e = refl
sorts_end [] (t ∷ ts) i h e = absurd (omega arith)
sorts_end (s ∷ ss) [] i h e = absurd (omega arith)
sorts_end (s ∷ ss) (t ∷ ts) zero h e = absurd (omega arith)
sorts_end (s ∷ ss) (t ∷ ts) (suc i) h e = sorts_end ss ts i (omega arith) (omega arith)
