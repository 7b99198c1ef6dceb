-- When two values are the same.
use Rattle.std.proofs.Common.{◌≡◌, ◌≢◌, refl, sym, ◌∙◌, ap, subst, ℕ, zero, suc, ◌<◌, Bool, true, false, ◌&&◌, ◌||◌, List, [], ◌∷◌, Some, None, ◌⊎◌, inl, inr, arith}
use Rattle.std.proofs.lemmas.Bool.{and_parts, and_from, false≢true, eqb-true}
use Rattle.std.proofs.lemmas.Int.{ints}
use Rattle.std.specs.Prelude.{ℤ, pos, negsuc, ◌+ℤ◌, ◌-ℤ◌, int_le, if◌then◌else◌}
use Rattle.logic_terms.specs.Value.{Kind, Value, number, truth, array, record_of, Values, no_values, value, kind_of, default, value_at, count, up_to, steps, same_kind, same_int, same_value, same_values}
use Rattle.logic_terms.specs.Meaning.{item, stored, first, last, within}
use Rattle.logic_terms.specs.Sorting.{length_of}
use Rattle.logic_terms.specs.Arrays.{has_item, is_whole}
use Rattle.logic_truth.specs.Places.{number_in, truth_in, is_array, is_record, is_place, Tells, same_at}
use Rattle.logic_terms.proofs.Items.{steps_within, nth_item}
use Rattle.logic_terms.proofs.SameNodes.{same_int-is, same_int-refl}

-- ---- what a change at an index keeps

pub number_in_stored : (a : Value) (i : ℤ) (v : Value) → number_in (stored a i v) ≡ number_in a
number_in_stored (number n) i v = refl
number_in_stored (truth b) i v = refl
number_in_stored (array k f l vs) i v = refl
number_in_stored (record_of vs) i v = refl

pub truth_in_stored : (a : Value) (i : ℤ) (v : Value) → truth_in (stored a i v) ≡ truth_in a
truth_in_stored (number n) i v = refl
truth_in_stored (truth b) i v = refl
truth_in_stored (array k f l vs) i v = refl
truth_in_stored (record_of vs) i v = refl

pub is_array_stored : (a : Value) (i : ℤ) (v : Value) → is_array (stored a i v) ≡ is_array a
is_array_stored (number n) i v = refl
is_array_stored (truth b) i v = refl
is_array_stored (array k f l vs) i v = refl
is_array_stored (record_of vs) i v = refl

pub is_record_stored : (a : Value) (i : ℤ) (v : Value) → is_record (stored a i v) ≡ is_record a
is_record_stored (number n) i v = refl
is_record_stored (truth b) i v = refl
is_record_stored (array k f l vs) i v = refl
is_record_stored (record_of vs) i v = refl

-- ---- values of different forms

pub number_is : (v : Value) (n : ℤ) → number_in v ≡ Some n → v ≡ number n
number_is (number m) n h = let e : m ≡ n = cc in ap number e
number_is (truth b) n h = absurd (cc)
number_is (array k f l vs) n h = absurd (cc)
number_is (record_of vs) n h = absurd (cc)

pub truth_is : (v : Value) (b : Bool) → truth_in v ≡ Some b → v ≡ truth b
truth_is (truth c) b h = let e : c ≡ b = cc in ap truth e
truth_is (number n) b h = absurd (cc)
truth_is (array k f l vs) b h = absurd (cc)
truth_is (record_of vs) b h = absurd (cc)

pub no_number : (n : ℤ) (v : Value) → number_in v ≡ None → same_value (number n) v ≡ false
no_number n (number m) h = absurd (cc)
no_number n (truth b) h = refl
no_number n (array k f l vs) h = refl
no_number n (record_of vs) h = refl

pub no_truth : (b : Bool) (v : Value) → truth_in v ≡ None → same_value (truth b) v ≡ false
no_truth b (truth c) h = absurd (cc)
no_truth b (number n) h = refl
no_truth b (array k f l vs) h = refl
no_truth b (record_of vs) h = refl

pub no_record : (us : Values) (v : Value) → is_record v ≡ false → same_value (record_of us) v ≡ false
no_record us (record_of vs) h = absurd (false≢true (sym h))
no_record us (truth c) h = refl
no_record us (number n) h = refl
no_record us (array k f l vs) h = refl

pub is_array_else : (v : Value) → number_in v ≡ None → truth_in v ≡ None → is_record v ≡ false → is_array v ≡ true
is_array_else (array k f l vs) e f' h = refl
is_array_else (number n) e f h = absurd (cc)
is_array_else (truth n) e f h = absurd (cc)
is_array_else (record_of n) e f h = absurd (false≢true (sym h))

pub no_array : (v w : Value) → is_array v ≡ true → is_array w ≡ false → same_value v w ≡ false
no_array (array k f l vs) (array m g h ws) e n = absurd (false≢true (sym n))
no_array (array k f l vs) (number m) e n = refl
no_array (array k f l vs) (truth m) e n = refl
no_array (array k f l vs) (record_of m) e n = refl
no_array (number m) w e n = absurd (false≢true e)
no_array (truth m) w e n = absurd (false≢true e)
no_array (record_of m) w e n = absurd (false≢true e)

-- ---- arrays

false_where : (b : Bool) → (b ≡ true → ⊥) → b ≡ false
false_where true h = absurd (h refl)
false_where false h = refl

same_first : (v w : Value) → is_array v ≡ true → is_array w ≡ true → same_value v w ≡ true → first v ≡ first w
same_first (array k f l vs) (array m g h ws) e n s = same_int-is f g (and_parts (same_kind k m) (same_int f g) (and_parts (same_kind k m && same_int f g) (same_int l h) (and_parts (same_kind k m && same_int f g && same_int l h) (same_values vs ws) s).0).0).1
same_first (array k f l vs) (number m) e n s = absurd (false≢true n)
same_first (array k f l vs) (truth m) e n s = absurd (false≢true n)
same_first (array k f l vs) (record_of m) e n s = absurd (false≢true n)
same_first (number m) w e n s = absurd (false≢true e)
same_first (truth m) w e n s = absurd (false≢true e)
same_first (record_of m) w e n s = absurd (false≢true e)

same_last : (v w : Value) → is_array v ≡ true → is_array w ≡ true → same_value v w ≡ true → last v ≡ last w
same_last (array k f l vs) (array m g h ws) e n s = same_int-is l h (and_parts (same_kind k m && same_int f g) (same_int l h) (and_parts (same_kind k m && same_int f g && same_int l h) (same_values vs ws) s).0).1
same_last (array k f l vs) (number m) e n s = absurd (false≢true n)
same_last (array k f l vs) (truth m) e n s = absurd (false≢true n)
same_last (array k f l vs) (record_of m) e n s = absurd (false≢true n)
same_last (number m) w e n s = absurd (false≢true e)
same_last (truth m) w e n s = absurd (false≢true e)
same_last (record_of m) w e n s = absurd (false≢true e)

same_item_kind : (v w : Value) → is_array v ≡ true → is_array w ≡ true → same_value v w ≡ true → same_kind (kind_of v) (kind_of w) ≡ true
same_item_kind (array k f l vs) (array m g h ws) e n s = (and_parts (same_kind k m) (same_int f g) (and_parts (same_kind k m && same_int f g) (same_int l h) (and_parts (same_kind k m && same_int f g && same_int l h) (same_values vs ws) s).0).0).0
same_item_kind (array k f l vs) (number m) e n s = absurd (false≢true n)
same_item_kind (array k f l vs) (truth m) e n s = absurd (false≢true n)
same_item_kind (array k f l vs) (record_of m) e n s = absurd (false≢true n)
same_item_kind (number m) w e n s = absurd (false≢true e)
same_item_kind (truth m) w e n s = absurd (false≢true e)
same_item_kind (record_of m) w e n s = absurd (false≢true e)

pub other_first : (v w : Value) → is_array v ≡ true → is_array w ≡ true → first v ≢ first w → same_value v w ≡ false
other_first v w e n h = false_where _ (λ s. h (same_first v w e n s))

pub other_last : (v w : Value) → is_array v ≡ true → is_array w ≡ true → last v ≢ last w → same_value v w ≡ false
other_last v w e n h = false_where _ (λ s. h (same_last v w e n s))

pub other_kind : (v w : Value) → is_array v ≡ true → is_array w ≡ true → same_kind (kind_of v) (kind_of w) ≡ false → same_value v w ≡ false
other_kind v w e n h = false_where _ (λ s. false≢true (sym h ∙ same_item_kind v w e n s))

-- items of arrays with the same bounds

pub same_bounds : (v w : Value) → is_array v ≡ true → is_array w ≡ true → first v ≡ first w → last v ≡ last w → (i : ℤ) → has_item v i ≡ has_item w i
same_bounds (array k f l vs) (array m g h ws) e n p q i = rw (p, q) refl
same_bounds (array k f l vs) (number m) e n p q i = absurd (false≢true n)
same_bounds (array k f l vs) (truth m) e n p q i = absurd (false≢true n)
same_bounds (array k f l vs) (record_of m) e n p q i = absurd (false≢true n)
same_bounds (number m) w e n p q i = absurd (false≢true e)
same_bounds (truth m) w e n p q i = absurd (false≢true e)
same_bounds (record_of m) w e n p q i = absurd (false≢true e)

all_same : (vs ws : Values) (d e : Value) → length_of vs ≡ length_of ws → ((n : ℕ) → n < length_of vs → same_value (value_at vs n d) (value_at ws n e) ≡ true) → same_values vs ws ≡ true
all_same no_values no_values d e h f = refl
all_same no_values (value w ws) d e h f = absurd (omega arith)
all_same (value v vs) no_values d e h f = absurd (omega arith)
all_same (value v vs) (value w ws) d e h f =
    and_from _ _ (f 0 (omega arith)) (all_same vs ws d e (omega arith) (λ n lt. f (suc n) (omega arith)))

each_same : (vs ws : Values) (n : ℕ) (d e : Value) → same_values vs ws ≡ true → n < length_of vs → same_value (value_at vs n d) (value_at ws n e) ≡ true
each_same no_values ws n d e s h = absurd (omega arith)
each_same (value v vs) no_values n d e s h = absurd (false≢true s)
each_same (value v vs) (value w ws) zero d e s h = (and_parts (same_value v w) (same_values vs ws) s).0
each_same (value v vs) (value w ws) (suc n) d e s h = each_same vs ws n d e (and_parts (same_value v w) (same_values vs ws) s).1 (omega arith)

both_ways : (a b : Bool) → (a ≡ true → b ≡ true) → (b ≡ true → a ≡ true) → a ≡ b
both_ways true b f g = sym (f refl)
both_ways false true f g = g refl
both_ways false false f g = refl

if_true : (b c : Bool) → (if b then c else true) ≡ true → b ≡ true → c ≡ true
if_true true c h e = h
if_true false c h e = absurd (false≢true e)

if_from : (b c : Bool) → (b ≡ true → c ≡ true) → (if b then c else true) ≡ true
if_from true c f = f refl
if_from false c f = refl

or_parts : (a b : Bool) → (a || b) ≡ true → (a ≡ true) ⊎ (b ≡ true)
or_parts true b h = inl refl
or_parts false b h = inr h

module _ (a b : Value) where
  at_place : (ps : List ℤ) (p : ℤ) → same_at a b ps ≡ true → is_place ps p ≡ true → has_item a p ≡ true → same_value (item a p) (item b p) ≡ true
  at_place [] p s h i = absurd (false≢true h)
  at_place (q ∷ ps) p s h i = go (or_parts (same_int q p) (is_place ps p) h) (at_place ps p (and_parts _ _ s).1)
    where
      go : (same_int q p ≡ true) ⊎ (is_place ps p ≡ true) → (is_place ps p ≡ true → has_item a p ≡ true → same_value (item a p) (item b p) ≡ true) → same_value (item a p) (item b p) ≡ true
      go (inl e) r = if_true (has_item a p) (same_value (item a p) (item b p)) (subst (λ x. (if has_item a x then same_value (item a x) (item b x) else true) ≡ true) (same_int-is q p e) (and_parts (if has_item a q then same_value (item a q) (item b q) else true) (same_at a b ps) s).0) i
      go (inr e) r = r e i

  at_all : (ps : List ℤ) → ((p : ℤ) → has_item a p ≡ true → same_value (item a p) (item b p) ≡ true) → same_at a b ps ≡ true
  at_all [] f = refl
  at_all (p ∷ ps) f = and_from _ _ (if_from (has_item a p) (same_value (item a p) (item b p)) (f p)) (at_all ps f)

nth_index : (f l d : ℤ) (n : ℕ) → l -ℤ f ≡ d → n < up_to d → within f l (f +ℤ pos n) ≡ true
nth_index f l (pos m) n e h =
    let a : int_le f (f +ℤ pos n) ≡ true = grind (arith, ints) in
    let b : int_le (f +ℤ pos n) l ≡ true = grind (arith, ints, e, h) in
    and_from _ _ a b
nth_index f l (negsuc m) n e h = absurd (omega arith)

within_item : (k : Kind) (f l : ℤ) (vs : Values) (i : ℤ) → within f l i ≡ true → item (array k f l vs) i ≡ value_at vs (steps (i -ℤ f)) (default k)
within_item k f l vs i h = rw h refl

-- the items alone
items_alike : (k m : Kind) (f l : ℤ) (vs ws : Values) (ps : List ℤ) → length_of vs ≡ count f l → length_of ws ≡ count f l → Tells ps (array k f l vs) (array m f l ws) → same_at (array k f l vs) (array m f l ws) ps ≡ same_values vs ws
items_alike k m f l vs ws ps p q tells = both_ways (same_at (array k f l vs) (array m f l ws) ps) (same_values vs ws) forth back
  where
    forth : same_at (array k f l vs) (array m f l ws) ps ≡ true → same_values vs ws ≡ true
    forth s = all_same vs ws (default k) (default m) (p ∙ sym q) (λ n lt.
        let lt' : n < count f l = subst (λ c. n < c) p lt in
        let w : within f l (f +ℤ pos n) ≡ true = nth_index f l (l -ℤ f) n refl lt' in
        let t = tells (f +ℤ pos n) w in
        let at = at_place (array k f l vs) (array m f l ws) ps t.0 s t.1 t.2 in
        subst (λ x. same_value x (value_at ws n (default m)) ≡ true) (nth_item k f l vs n w)
        (subst (λ y. same_value (item (array k f l vs) (f +ℤ pos n)) y ≡ true) (nth_item m f l ws n w)
        (subst (λ x. same_value x (item (array m f l ws) (f +ℤ pos n)) ≡ true) (sym t.3)
        (subst (λ y. same_value (item (array k f l vs) t.0) y ≡ true) (sym t.4) at))))

    back : same_values vs ws ≡ true → same_at (array k f l vs) (array m f l ws) ps ≡ true
    back s = at_all (array k f l vs) (array m f l ws) ps (λ i w.
        let n : steps (i -ℤ f) < length_of vs = subst (λ c. steps (i -ℤ f) < c) (sym p) (steps_within f l i w) in
        subst (λ x. same_value x (item (array m f l ws) i) ≡ true) (sym (within_item k f l vs i w))
        (subst (λ y. same_value (value_at vs (steps (i -ℤ f)) (default k)) y ≡ true) (sym (within_item m f l ws i w))
        (each_same vs ws (steps (i -ℤ f)) (default k) (default m) s n)))

and_true : (a b c d : Bool) → a ≡ true → b ≡ true → c ≡ true → d ≡ (a && b && c && d)
and_true true true true d e f g = refl
and_true true true false d e f g = absurd (false≢true g)
and_true true false c d e f g = absurd (false≢true f)
and_true false b c d e f g = absurd (false≢true e)

-- arrays of one kind with the same bounds are the same where they are at telling places
pub alike_at : (v w : Value) (ps : List ℤ) → is_array v ≡ true → is_array w ≡ true → is_whole v ≡ true → is_whole w ≡ true → first v ≡ first w → last v ≡ last w → same_kind (kind_of v) (kind_of w) ≡ true → Tells ps v w → same_at v w ps ≡ same_value v w
alike_at (array k f l vs) (array m g h ws) ps e n p q s t u tells =
    let w : array m g h ws ≡ array m f l ws = rw (s, t) refl in
    let len : length_of ws ≡ count f l = eqb-true _ _ q ∙ sym (rw (s, t) refl) in
    let tells' : Tells ps (array k f l vs) (array m f l ws) = subst (λ x. Tells ps (array k f l vs) x) w tells in
    subst (λ x. same_at (array k f l vs) x ps ≡ same_value (array k f l vs) x) (sym w)
    (items_alike k m f l vs ws ps (eqb-true _ _ p) len tells' ∙ and_true (same_kind k m) (same_int f f) (same_int l l) (same_values vs ws) u (same_int-refl f) (same_int-refl l))
alike_at (array k f l vs) (number m) ps e n p q s t u tells = absurd (false≢true n)
alike_at (array k f l vs) (truth m) ps e n p q s t u tells = absurd (false≢true n)
alike_at (array k f l vs) (record_of m) ps e n p q s t u tells = absurd (false≢true n)
alike_at (number m) w ps e n p q s t u tells = absurd (false≢true e)
alike_at (truth m) w ps e n p q s t u tells = absurd (false≢true e)
alike_at (record_of m) w ps e n p q s t u tells = absurd (false≢true e)
