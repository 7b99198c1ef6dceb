-- When two values are one: equal terms, arrays item by item, and items and fields after a change.
use Rattle.std.proofs.Common.{◌≡◌, ◌≢◌, refl, sym, ◌∙◌, ap, subst, ℕ, zero, suc, ◌<◌, Bool, true, false, not, ◌&&◌, List, [], Some, arith}
use Rattle.std.proofs.lemmas.Bool.{and_parts, and_from, false≢true, eqb-true}
use Rattle.std.proofs.lemmas.Int.{ints}
use Rattle.std.specs.Prelude.{ℤ, pos, negsuc, ◌+ℤ◌, ◌-ℤ◌, ◌≤ℤ◌, int_le, if◌then◌else◌}
use Rattle.logic_terms.specs.Node.{Node}
use Rattle.logic_terms.specs.Value.{Kind, numbers, truths, arrays, records, Kinds, no_kinds, kind, Value, number, truth, array, record_of, Values, no_values, value, as_truth, default, value_at, with_value, count, up_to, same_kind, same_int, same_value, same_values}
use Rattle.logic_terms.specs.Meaning.{World, meaning, holds, item, stored, first, last, within, field, with_field}
use Rattle.logic_terms.specs.Sorting.{Signature, IsWorldOf, HasKind, node_kind, is_of, are_of, length_of, nth_kind}
use Rattle.logic_terms.specs.Arrays.{has_item, is_whole}
use Rattle.logic_terms.proofs.Items.{item_other, item_outside, has_item_stored, no_item_stored, nth_item}
use Rattle.logic_terms.proofs.SameNodes.{same_int-is, same_bool-is}
use Rattle.logic_terms.proofs.Sorted.{same_kind-is, meaning-has}
use Rattle.cert_rules.specs.Clause.{equals}
use Rattle.cert_rules.proofs.EqualTerms.{same_value-refl}

-- a closed term has a value of its kind
pub value_has : (s : Signature) (w : World) → IsWorldOf s w → (p : Node) (k : Kind) → node_kind s [] p ≡ Some k → is_of k (meaning w [] p) ≡ true
value_has s w fits p k e = subst (λ o. HasKind o (meaning w [] p)) e (meaning-has s w fits [] [] p (λ n. tt))

-- ---- equal terms

mutual
  pub same_value-is : (v u : Value) → same_value v u ≡ true → v ≡ u
  same_value-is (number a) (number b) h = ap number (same_int-is a b h)
  same_value-is (truth a) (truth b) h = ap truth (same_bool-is a b h)
  same_value-is (array k f l vs) (array m g n us) h =
      let a = and_parts (same_kind k m && same_int f g && same_int l n) (same_values vs us) h in
      let b = and_parts (same_kind k m && same_int f g) (same_int l n) a.0 in
      let c = and_parts (same_kind k m) (same_int f g) b.0 in
      rw (same_kind-is k m c.0, same_int-is f g c.1, same_int-is l n b.1, same_values-are vs us a.1)
  same_value-is (record_of vs) (record_of us) h = ap record_of (same_values-are vs us h)
  same_value-is (number a) _ h = absurd (false≢true h)
  same_value-is (truth a) _ h = absurd (false≢true h)
  same_value-is (array k f l vs) _ h = absurd (false≢true h)
  same_value-is (record_of vs) _ h = absurd (false≢true h)

  pub same_values-are : (vs us : Values) → same_values vs us ≡ true → vs ≡ us
  same_values-are no_values no_values h = refl
  same_values-are (value v vs) (value u us) h =
      let e = and_parts _ _ h in rw (same_value-is v u e.0, same_values-are vs us e.1)
  same_values-are no_values (value u us) h = absurd (false≢true h)
  same_values-are (value v vs) no_values h = absurd (false≢true h)

pub same_value-from : (v u : Value) → v ≡ u → same_value v u ≡ true
same_value-from v u e = rw e (same_value-refl u)

both_or_neither : (a b : Bool) → (if a then b else not b) ≡ true → a ≡ b
both_or_neither true true e = refl
both_or_neither true false e = absurd (false≢true e)
both_or_neither false true e = absurd (false≢true e)
both_or_neither false false e = refl

truths_one : (v u : Value) → is_of truths v ≡ true → is_of truths u ≡ true → as_truth v ≡ as_truth u → v ≡ u
truths_one (truth a) (truth b) p q e = ap truth e
truths_one (truth a) (number b) p q e = absurd (false≢true q)
truths_one (truth a) (array k f l vs) p q e = absurd (false≢true q)
truths_one (truth a) (record_of vs) p q e = absurd (false≢true q)
truths_one (number b) u p q e = absurd (false≢true p)
truths_one (array k f l vs) u p q e = absurd (false≢true p)
truths_one (record_of vs) u p q e = absurd (false≢true p)

-- equal terms of one kind have one value
pub equals-are : (w : World) (vs : List Value) (k : Kind) (x y : Node) → is_of k (meaning w vs x) ≡ true → is_of k (meaning w vs y) ≡ true → holds w vs (equals k x y) ≡ true → meaning w vs x ≡ meaning w vs y
equals-are w vs truths x y p q h = truths_one _ _ p q (both_or_neither _ _ h)
equals-are w vs numbers x y p q h = same_value-is _ _ h
equals-are w vs (arrays k) x y p q h = same_value-is _ _ h
equals-are w vs (records ks) x y p q h = same_value-is _ _ h

-- ---- arrays

pub kind_whole : (k : Kind) (a : Value) → is_of (arrays k) a ≡ true → is_whole a ≡ true
kind_whole k (array m f l vs) h = (and_parts _ _ (and_parts _ _ h).1).0
kind_whole k (number n) h = absurd (false≢true h)
kind_whole k (truth n) h = absurd (false≢true h)
kind_whole k (record_of n) h = absurd (false≢true h)

pub kind_item : (k : Kind) (a : Value) (i : ℤ) → is_of (arrays k) a ≡ true → int_le (first a) i ≡ true → int_le i (last a) ≡ true → has_item a i ≡ true
kind_item k (array m f l vs) i h p q = and_from _ _ p q
kind_item k (number n) i h p q = absurd (false≢true h)
kind_item k (truth n) i h p q = absurd (false≢true h)
kind_item k (record_of n) i h p q = absurd (false≢true h)

-- a change at another index
pub item_kept : (a : Value) (i : ℤ) (v : Value) (j : ℤ) → i ≢ j → item (stored a i v) j ≡ item a j
item_kept a i v j ne = go (has_item a j) refl
  where
    go : (b : Bool) → has_item a j ≡ b → item (stored a i v) j ≡ item a j
    go true h = item_other a i v j h ne
    go false h = item_outside (stored a i v) j (has_item_stored a i v j ∙ h) ∙ no_item_stored a i v ∙ sym (item_outside a j h)

values_one : (vs us : Values) (d e : Value) → length_of vs ≡ length_of us → ((n : ℕ) → n < length_of vs → value_at vs n d ≡ value_at us n e) → vs ≡ us
values_one no_values no_values d e h f = refl
values_one no_values (value u us) d e h f = absurd (omega arith)
values_one (value v vs) no_values d e h f = absurd (omega arith)
values_one (value v vs) (value u us) d e h f =
    let rest : vs ≡ us = values_one vs us d e (omega arith) (λ n lt. f (suc n) (omega arith)) in
    rw (f 0 (omega arith), rest)

-- the index of item n
at_least_first : (f : ℤ) (n : ℕ) → f ≤ℤ (f +ℤ pos n)
at_least_first f n = omega (arith, ints)

at_most_last : (f l d : ℤ) (n : ℕ) → l -ℤ f ≡ d → n < up_to d → (f +ℤ pos n) ≤ℤ l
at_most_last f l (pos m) n e h = omega (arith, ints)
at_most_last f l (negsuc m) n e h = absurd (omega arith)

pub le_is : (i j : ℤ) → int_le i j ≡ true → i ≤ℤ j
le_is i j h = grind (arith, ints)

pub le_holds : (i j : ℤ) → i ≤ℤ j → int_le i j ≡ true
le_holds i j h = grind (arith, ints)

-- arrays of one kind, with the same bounds and the same items, are one array
pub arrays_one : (k : Kind) (a b : Value) → is_of (arrays k) a ≡ true → is_of (arrays k) b ≡ true → first a ≡ first b → last a ≡ last b → ((i : ℤ) → first a ≤ℤ i → i ≤ℤ last a → item a i ≡ item b i) → a ≡ b
arrays_one k (array m f l vs) (array n g h us) p q r s items =
    let p' = and_parts _ _ p in
    let q' = and_parts _ _ q in
    let kinds : m ≡ n = sym (same_kind-is k m p'.0) ∙ same_kind-is k n q'.0 in
    let vs_length : length_of vs ≡ count f l = eqb-true _ _ (and_parts _ _ p'.1).0 in
    let us_length : length_of us ≡ count g h = eqb-true _ _ (and_parts _ _ q'.1).0 in
    let counts : count f l ≡ count g h = rw (r, s) refl in
    let b_is : array n g h us ≡ array n f l us = rw (r, s) refl in
    let one : vs ≡ us = values_one vs us (default m) (default n) (vs_length ∙ counts ∙ sym us_length) (λ i lt.
    let low = at_least_first f i in
    let high = at_most_last f l (l -ℤ f) i refl (subst (λ c. i < c) vs_length lt) in
    let inside : within f l (f +ℤ pos i) ≡ true = and_from _ _ (le_holds _ _ low) (le_holds _ _ high) in
    sym (nth_item m f l vs i inside) ∙ items (f +ℤ pos i) low high ∙ ap (λ x. item x (f +ℤ pos i)) b_is ∙ nth_item n f l us i inside) in
    rw (kinds, r, s, one)
arrays_one k (array m f l vs) (number n) p q r s items = absurd (false≢true q)
arrays_one k (array m f l vs) (truth n) p q r s items = absurd (false≢true q)
arrays_one k (array m f l vs) (record_of n) p q r s items = absurd (false≢true q)
arrays_one k (number n) b p q r s items = absurd (false≢true p)
arrays_one k (truth n) b p q r s items = absurd (false≢true p)
arrays_one k (record_of n) b p q r s items = absurd (false≢true p)

-- ---- records

changed_at : (ks : Kinds) (vs : Values) (n : ℕ) (j : Kind) (v d : Value) → nth_kind ks n ≡ Some j → are_of ks vs ≡ true → value_at (with_value vs n v) n d ≡ v
changed_at no_kinds vs n j v d e h = absurd (cc)
changed_at (kind k ks) no_values n j v d e h = absurd (false≢true h)
changed_at (kind k ks) (value u vs) zero j v d e h = refl
changed_at (kind k ks) (value u vs) (suc n) j v d e h = changed_at ks vs n j v d e (and_parts _ _ h).1

kept_at : (vs : Values) (i j : ℕ) (v d : Value) → i ≢ j → value_at (with_value vs i v) j d ≡ value_at vs j d
kept_at no_values i j v d h = refl
kept_at (value u vs) zero zero v d h = absurd (h refl)
kept_at (value u vs) zero (suc j) v d h = refl
kept_at (value u vs) (suc i) zero v d h = refl
kept_at (value u vs) (suc i) (suc j) v d h = kept_at vs i j v d (λ e. h (ap (λ k. suc k) e))

pub field_changed : (ks : Kinds) (r : Value) (n : ℕ) (j : Kind) (v : Value) → nth_kind ks n ≡ Some j → is_of (records ks) r ≡ true → field n (with_field n r v) ≡ v
field_changed ks (record_of vs) n j v e h = changed_at ks vs n j v _ e h
field_changed ks (number m) n j v e h = absurd (false≢true h)
field_changed ks (truth m) n j v e h = absurd (false≢true h)
field_changed ks (array k f l vs) n j v e h = absurd (false≢true h)

pub field_kept : (r : Value) (i j : ℕ) (v : Value) → i ≢ j → field j (with_field i r v) ≡ field j r
field_kept (record_of vs) i j v h = kept_at vs i j v _ h
field_kept (number m) i j v h = refl
field_kept (truth m) i j v h = refl
field_kept (array k f l vs) i j v h = refl
