-- Rules C9, C10 and C11: items and bounds of arrays, and fields of records.
use Rattle.std.proofs.Common.{◌≡◌, refl, sym, ◌∙◌, ap, subst, ℕ, zero, suc, ◌+◌, Bool, true, false, not, ◌&&◌, ◌||◌, List, [], ◌∷◌, Option, Some, None, arith}
use Rattle.std.proofs.lemmas.Bool.{and_parts, and_from, false≢true, eqb-true, eqb-false}
use Rattle.std.specs.Prelude.{ℤ, pos, ◌≤ℤ◌, ◌==◌, if◌then◌else◌}
use Rattle.logic_terms.specs.Node.{neg, fst, lst, fld, le, eq, sel, upd, sto, fill, fields, any, all, Node, num, bound, op1, op2, op3, opn, quant, Nodes, no_nodes, node}
use Rattle.logic_terms.specs.Value.{Kind, numbers, arrays, records, Kinds, no_kinds, kind, Value, number, truth, array, record_of, Values, no_values, value, as_number, value_at, same_kind, count}
use Rattle.logic_terms.specs.Meaning.{World, meaning, meanings, holds, item, stored, first, last, field, with_field, ranged}
use Rattle.logic_terms.specs.Binding.{is_closed}
use Rattle.logic_terms.specs.Sorting.{Signature, IsWorldOf, is_of, are_of, given, nth_kind, kind-upd, on1, on2, on3, node_kind}
use Rattle.logic_terms.proofs.Items.{item_same, item_filled, first_stored, last_stored}
use Rattle.logic_terms.proofs.Ranged.{ranged-dual, ranged-all_at}
use Rattle.logic_terms.proofs.SameNodes.{same_int-is}
use Rattle.logic_terms.proofs.Sorted.{same_kind-is, meaning-number}
use Rattle.logic_terms.proofs.Substitution.{meaning-more}
use Rattle.cert_lines.specs.Line.{array_fact, extensionality, field_fact}
use Rattle.cert_rules.specs.Judged.{Judged, yields, refused, too_wide, part_of, only}
use Rattle.cert_rules.specs.Clause.{equals}
use Rattle.cert_rules.specs.Context.{Context, signature, next_symbol, kind_in}
use Rattle.cert_rules.specs.Compound.{stored_facts, filled_fact, array_clause, extensional, node_at, equal_to, fields_from, whole_record, updated_field, field_of, field_clause}
use Rattle.cert_rules.specs.Rules.{judge, of_arrays}
use Rattle.cert_rules.proofs.Names.{names_below, all_names_below}
use Rattle.cert_rules.proofs.NumberedClauses.{IsSound, part_sound, when_sound}
use Rattle.cert_rules.proofs.EqualTerms.{equals-holds, equals-below}
use Rattle.cert_rules.proofs.Sorting.{kind_below, kind_closed}
use Rattle.cert_rules.proofs.Opening.{of_kind-sound}
use Rattle.cert_rules.proofs.Premises.{unless, or_else, last_holds, last_below, only-sound}
use Rattle.cert_rules.proofs.Values.{value_has, same_value-is, same_value-from, equals-are, kind_whole, kind_item, item_kept, arrays_one, field_changed, field_kept}

-- ---- the kinds of operands

given_is : (b : Bool) (k j : Kind) → given b k ≡ Some j → (b ≡ true) × (k ≡ j)
given_is true k j e = (refl, cc)
given_is false k j e = absurd (cc)

item_kinds : (x y : Option Kind) (k : Kind) → on2 sel x y ≡ Some k → (x ≡ Some (arrays k)) × (y ≡ Some numbers)
item_kinds None y k e = absurd (cc)
item_kinds (Some (arrays j)) None k e = absurd (cc)
item_kinds (Some (arrays j)) (Some numbers) k e = let same : j ≡ k = cc in (ap (λ i. Some (arrays i)) same, refl)
item_kinds (Some i) None k e = absurd (cc)
item_kinds (Some i) (Some j) k e = absurd (cc)

stored_kinds : (x y z : Option Kind) (k : Kind) → on3 sto x y z ≡ Some (arrays k) → (x ≡ Some (arrays k)) × (y ≡ Some numbers)
stored_kinds None y z k e = absurd (cc)
stored_kinds (Some i) None z k e = absurd (cc)
stored_kinds (Some i) (Some j) None k e = absurd (cc)
stored_kinds (Some (arrays i)) (Some numbers) (Some j) k e = (ap Some (given_is _ _ _ e).1, refl)
stored_kinds (Some i) (Some j) (Some h) k e = absurd (cc)

filled_kinds : (x y z : Option Kind) (k : Kind) → on3 fill x y z ≡ Some k → (x ≡ Some numbers) × (y ≡ Some numbers)
filled_kinds None y z k e = absurd (cc)
filled_kinds (Some i) None z k e = absurd (cc)
filled_kinds (Some i) (Some j) None k e = absurd (cc)
filled_kinds (Some numbers) (Some numbers) (Some j) k e = (refl, refl)
filled_kinds (Some i) (Some j) (Some h) k e = absurd (cc)

first_kind : (x : Option Kind) (k : Kind) → on1 fst x ≡ Some k → (j : Kind) × (x ≡ Some j)
first_kind None k e = absurd (cc)
first_kind (Some j) k e = (j, refl)

last_kind : (x : Option Kind) (k : Kind) → on1 lst x ≡ Some k → (j : Kind) × (x ≡ Some j)
last_kind None k e = absurd (cc)
last_kind (Some j) k e = (j, refl)

-- ---- C9

module _ (s : Signature) (w : World) (fits : IsWorldOf s w) where
  at_stored : (k : Kind) (a i v j : Node) → node_kind s [] (op2 sel (op3 sto a i v) j) ≡ Some k → holds w [] (op2 eq i j) ≡ true → holds w [] (op2 le (op1 fst a) j) ≡ true → holds w [] (op2 le j (op1 lst a)) ≡ true → meaning w [] (op2 sel (op3 sto a i v) j) ≡ meaning w [] v
  at_stored k a i v j e same low high =
      let m = item_kinds _ _ k e in
      let n = stored_kinds _ _ _ k m.0 in
      let is_array = value_has s w fits a (arrays k) n.0 in
      let one : meaning w [] i ≡ meaning w [] j = same_value-is _ _ same in
      ap (λ x. item (stored (meaning w [] a) (as_number x) (meaning w [] v)) (as_number (meaning w [] j))) one ∙ item_same (meaning w [] a) (as_number (meaning w [] j)) (meaning w [] v) (kind_whole k _ is_array) (kind_item k _ _ is_array low high)

  at_other_index : (k : Kind) (a i v j : Node) → node_kind s [] (op2 sel (op3 sto a i v) j) ≡ Some k → holds w [] (op2 eq i j) ≡ false → meaning w [] (op2 sel (op3 sto a i v) j) ≡ meaning w [] (op2 sel a j)
  at_other_index k a i v j e differ =
      let m = item_kinds _ _ k e in
      let n = stored_kinds _ _ _ k m.0 in
      item_kept (meaning w [] a) (as_number (meaning w [] i)) (meaning w [] v) (as_number (meaning w [] j)) (λ same.
      let one : meaning w [] i ≡ meaning w [] j = meaning-number s w fits i n.1 ∙ ap number same ∙ sym (meaning-number s w fits j m.1) in
      false≢true (sym differ ∙ same_value-from _ _ one))

  at_filled : (f l v j : Node) → holds w [] (op2 le f j) ≡ true → holds w [] (op2 le j l) ≡ true → meaning w [] (op2 sel (op3 fill f l v) j) ≡ meaning w [] v
  at_filled f l v j low high =
      item_filled (as_number (meaning w [] f)) (as_number (meaning w [] l)) (meaning w [] v) (as_number (meaning w [] j)) (and_from _ _ low high)

  stored_sound : (d : ℕ) (k : Kind) (a i v j : Node) (n : ℕ) → node_kind s [] (op2 sel (op3 sto a i v) j) ≡ Some k → names_below d (op2 sel (op3 sto a i v) j) ≡ true → IsSound w d (part_of (stored_facts k (op2 sel (op3 sto a i v) j) a i v j) n)
  stored_sound d k a i v j n e b =
      let t = op2 sel (op3 sto a i v) j in
      let p = and_parts (names_below d (op3 sto a i v)) (names_below d j) b in
      let q = and_parts (names_below d a) (names_below d i && names_below d v) p.0 in
      let r = and_parts (names_below d i) (names_below d v) q.1 in
      part_sound w d (stored_facts k t a i v j) n (
        unless _ _ (λ same. unless _ _ (λ low. unless _ _ (λ high. last_holds _ (equals-holds w k t v (at_stored k a i v j e same low high))))),
        (or_else _ _ (λ differ. last_holds _ (equals-holds w k t (op2 sel a j) (at_other_index k a i v j e differ))), tt),
      ) (
        and_from _ _ (and_from _ _ r.0 p.1) (and_from _ _ (and_from _ _ q.0 p.1) (and_from _ _ (and_from _ _ p.1 q.0) (last_below _ (equals-below d k t v b r.1)))),
        (and_from _ _ (and_from _ _ r.0 p.1) (last_below _ (equals-below d k t (op2 sel a j) b (and_from _ _ q.0 p.1))), tt),
      )

  filled_sound : (d : ℕ) (k : Kind) (f l v j : Node) (n : ℕ) → names_below d (op2 sel (op3 fill f l v) j) ≡ true → IsSound w d (only 4 (filled_fact k (op2 sel (op3 fill f l v) j) f l v j) n)
  filled_sound d k f l v j n b =
      let t = op2 sel (op3 fill f l v) j in
      let p = and_parts (names_below d (op3 fill f l v)) (names_below d j) b in
      let q = and_parts (names_below d f) (names_below d l && names_below d v) p.0 in
      let r = and_parts (names_below d l) (names_below d v) q.1 in
      only-sound w d 4 (filled_fact k t f l v j) n
      (unless _ _ (λ low. unless _ _ (λ high. last_holds _ (equals-holds w k t v (at_filled f l v j low high)))))
      (and_from _ _ (and_from _ _ q.0 p.1) (and_from _ _ (and_from _ _ p.1 r.0) (last_below _ (equals-below d k t v b r.1))))

  -- a clause of one equation
  equation_sound : (d m : ℕ) (x y : Node) (n : ℕ) → meaning w [] x ≡ meaning w [] y → names_below d x ≡ true → names_below d y ≡ true → IsSound w d (only m (op2 eq x y ∷ []) n)
  equation_sound d m x y n e p q =
      only-sound w d m (op2 eq x y ∷ []) n (last_holds _ (same_value-from _ _ e)) (last_below _ (and_from _ _ p q))

  array_clause-sound : (d : ℕ) (k : Kind) (t : Node) (n : ℕ) → node_kind s [] t ≡ Some k → names_below d t ≡ true → IsSound w d (array_clause k t n)
  array_clause-sound d k (op2 sel (op3 sto a i v) j) n e b = stored_sound d k a i v j n e b
  array_clause-sound d k (op1 fst (op3 sto a i v)) n e b =
      equation_sound d 2 (op1 fst (op3 sto a i v)) (op1 fst a) n (ap number (first_stored (meaning w [] a) (as_number (meaning w [] i)) (meaning w [] v))) b (and_parts (names_below d a) (names_below d i && names_below d v) b).0
  array_clause-sound d k (op1 lst (op3 sto a i v)) n e b =
      equation_sound d 3 (op1 lst (op3 sto a i v)) (op1 lst a) n (ap number (last_stored (meaning w [] a) (as_number (meaning w [] i)) (meaning w [] v))) b (and_parts (names_below d a) (names_below d i && names_below d v) b).0
  array_clause-sound d k (op2 sel (op3 fill f l v) j) n e b = filled_sound d k f l v j n b
  array_clause-sound d k (op1 fst (op3 fill f l v)) n e b =
      let m = first_kind (node_kind s [] (op3 fill f l v)) k e in
      let is_number = (filled_kinds (node_kind s [] f) (node_kind s [] l) (node_kind s [] v) m.0 m.1).0 in
      equation_sound d 5 (op1 fst (op3 fill f l v)) f n (sym (meaning-number s w fits f is_number)) b (and_parts (names_below d f) (names_below d l && names_below d v) b).0
  array_clause-sound d k (op1 lst (op3 fill f l v)) n e b =
      let m = last_kind (node_kind s [] (op3 fill f l v)) k e in
      let is_number = (filled_kinds (node_kind s [] f) (node_kind s [] l) (node_kind s [] v) m.0 m.1).1 in
      equation_sound d 6 (op1 lst (op3 fill f l v)) l n (sym (meaning-number s w fits l is_number)) b (and_parts (names_below d l) (names_below d v) (and_parts (names_below d f) (names_below d l && names_below d v) b).1).0
  array_clause-sound d k _ n e b = tt

pub array-sound : (c : Context) (w : World) → IsWorldOf (signature c) w → (n : ℕ) (t : Node) → IsSound w (next_symbol c) (judge c (array_fact n t))
array-sound c w fits n t =
    of_kind-sound w (next_symbol c) (kind_in c t) (λ k. array_clause k t n) (λ k e.
    array_clause-sound (signature c) w fits (next_symbol c) k t n e (kind_below c t k e))

-- ---- C10

-- four literals, of which the second and the third are negated
four : (a b c e : Bool) → (b ≡ true → c ≡ true → e ≡ false → a ≡ true) → (a || (not b || (not c || (e || false)))) ≡ true
four true b c e f = refl
four false true true true f = refl
four false true true false f = f refl refl refl
four false true false e f = refl
four false false c e f = refl

not_true : (b : Bool) → not (not b) ≡ true → b ≡ true
not_true true h = refl
not_true false h = absurd (false≢true h)

module _ (s : Signature) (w : World) (fits : IsWorldOf s w) where
  -- what is said of item i of two closed arrays
  same_item : (k : Kind) (a b : Node) (i : ℤ) → node_kind s [] a ≡ Some (arrays k) → node_kind s [] b ≡ Some (arrays k) → is_closed a ≡ true → is_closed b ≡ true → holds w (number i ∷ []) (equals k (op2 sel a (bound 0)) (op2 sel b (bound 0))) ≡ true → item (meaning w [] a) i ≡ item (meaning w [] b) i
  same_item k a b i ka kb ca cb h =
      let x : meaning w (number i ∷ []) a ≡ meaning w [] a = meaning-more w [] (number i ∷ []) a ca in
      let y : meaning w (number i ∷ []) b ≡ meaning w [] b = meaning-more w [] (number i ∷ []) b cb in
      let p : is_of k (item (meaning w [] a) i) ≡ true = value_has s w fits (op2 sel a (num i)) k (rw ka refl) in
      let q : is_of k (item (meaning w [] b) i) ≡ true = value_has s w fits (op2 sel b (num i)) k (rw kb refl) in
      ap (λ v. item v i) (sym x) ∙ equals-are w (number i ∷ []) k (op2 sel a (bound 0)) (op2 sel b (bound 0)) (rw x p) (rw y q) h ∙ ap (λ v. item v i) y

  -- where no item differs, each is the same
  no_item_differs : (k : Kind) (a b : Node) → node_kind s [] a ≡ Some (arrays k) → node_kind s [] b ≡ Some (arrays k) → is_closed a ≡ true → is_closed b ≡ true → holds w [] (quant any (op1 fst a) (op1 lst a) (op1 neg (equals k (op2 sel a (bound 0)) (op2 sel b (bound 0))))) ≡ false → (i : ℤ) → first (meaning w [] a) ≤ℤ i → i ≤ℤ last (meaning w [] a) → item (meaning w [] a) i ≡ item (meaning w [] b) i
  no_item_differs k a b ka kb ca cb none i low high =
      let f = first (meaning w [] a) in
      let l = last (meaning w [] a) in
      let differs : ℤ → Bool = λ j. holds w (number j ∷ []) (op1 neg (equals k (op2 sel a (bound 0)) (op2 sel b (bound 0)))) in
      let each : ranged all f (count f l) (λ j. not (differs j)) ≡ true = not_true _ (ap not (sym (ranged-dual differs (count f l) f) ∙ none)) in
      same_item k a b i ka kb ca cb (not_true _ (ranged-all_at (λ j. not (differs j)) f l i each low high))

  extensional-sound : (d : ℕ) (k : Kind) (a b : Node) → node_kind s [] a ≡ Some (arrays k) → node_kind s [] b ≡ Some (arrays k) → is_closed a ≡ true → is_closed b ≡ true → names_below d a ≡ true → names_below d b ≡ true → IsSound w d (yields (extensional k a b))
  extensional-sound d k a b ka kb ca cb na nb = (
    four (holds w [] (op2 eq a b)) (holds w [] (op2 eq (op1 fst a) (op1 fst b))) (holds w [] (op2 eq (op1 lst a) (op1 lst b))) _ (λ firsts lasts none.
        same_value-from _ _ (arrays_one k (meaning w [] a) (meaning w [] b) (value_has s w fits a (arrays k) ka) (value_has s w fits b (arrays k) kb)
        (same_int-is _ _ firsts) (same_int-is _ _ lasts) (no_item_differs k a b ka kb ca cb none))),
    and_from _ _ (and_from _ _ na nb) (and_from _ _ (and_from _ _ na nb) (and_from _ _ (and_from _ _ na nb) (last_below _ (and_from _ _ na (and_from _ _ na
        (equals-below d k (op2 sel a (bound 0)) (op2 sel b (bound 0)) (last_below _ na) (last_below _ nb))))))),
  )

of_arrays-sound : (w : World) (d : ℕ) (x y : Option Kind) (f : Kind → Judged (List Node)) → ((k : Kind) → x ≡ Some (arrays k) → y ≡ Some (arrays k) → IsSound w d (f k)) → IsSound w d (of_arrays x y f)
of_arrays-sound w d (Some (arrays j)) (Some (arrays k)) f h =
    when_sound w d (same_kind j k) (f j) (λ same. h j refl (ap (λ i. Some (arrays i)) (sym (same_kind-is j k same))))
of_arrays-sound w d _ _ f h = tt

pub extensionality-sound : (c : Context) (w : World) → IsWorldOf (signature c) w → (a b : Node) → IsSound w (next_symbol c) (judge c (extensionality a b))
extensionality-sound c w fits a b =
    of_arrays-sound w (next_symbol c) (kind_in c a) (kind_in c b) (λ k. yields (extensional k a b)) (λ k p q.
    extensional-sound (signature c) w fits (next_symbol c) k a b p q (kind_closed c a (arrays k) p) (kind_closed c b (arrays k) q) (kind_below c a (arrays k) p) (kind_below c b (arrays k) q))

-- ---- C11

fields_named : (d n : ℕ) (ks : Kinds) (t : Node) → names_below d t ≡ true → all_names_below d (fields_from n ks t) ≡ true
fields_named d n no_kinds t h = refl
fields_named d n (kind k ks) t h = and_from _ _ h (fields_named d (suc n) ks t h)

node_at-named : (d : ℕ) (ns : Nodes) (n : ℕ) (u : Node) → node_at ns n ≡ yields u → all_names_below d ns ≡ true → names_below d u ≡ true
node_at-named d no_nodes n u e h = absurd (cc)
node_at-named d (node a ns) zero u e h = let same : a ≡ u = cc in subst (λ x. names_below d x ≡ true) same (and_parts _ _ h).0
node_at-named d (node a ns) (suc n) u e h = node_at-named d ns n u e (and_parts _ _ h).1

upd_kinds : (n : ℕ) (x y : Option Kind) (k : Kind) → on2 (upd n) x y ≡ Some k → (ks : Kinds) × (x ≡ Some (records ks)) × (j : Kind) × (nth_kind ks n ≡ Some j)
upd_kinds n None y k e = absurd (cc)
upd_kinds n (Some (records ks)) None k e = absurd (cc)
upd_kinds n (Some (records ks)) (Some i) k e = go (nth_kind ks n) refl e
  where
    go : (x : Option Kind) → nth_kind ks n ≡ x → kind-upd x ks i ≡ Some k → (ls : Kinds) × (Some (records ks) ≡ Some (records ls)) × (j : Kind) × (nth_kind ls n ≡ Some j)
    go None f g = absurd (cc)
    go (Some j) f g = (ks, refl, j, f)
upd_kinds n (Some i) None k e = absurd (cc)
upd_kinds n (Some i) (Some j) k e = absurd (cc)

field_kind : (n : ℕ) (x : Option Kind) (k : Kind) → on1 (fld n) x ≡ Some k → (j : Kind) × (x ≡ Some j)
field_kind n None k e = absurd (cc)
field_kind n (Some j) k e = (j, refl)

module _ (s : Signature) (w : World) (fits : IsWorldOf s w) where
  field_at : (ns : Nodes) (n : ℕ) (u : Node) (d : Value) → node_at ns n ≡ yields u → value_at (meanings w [] ns) n d ≡ meaning w [] u
  field_at no_nodes n u d e = absurd (cc)
  field_at (node a ns) zero u d e = let same : a ≡ u = cc in ap (meaning w []) same
  field_at (node a ns) (suc n) u d e = field_at ns n u d e

  listed_sound : (d : ℕ) (k : Kind) (i : ℕ) (ns : Nodes) (x : Judged Node) → node_at ns i ≡ x → all_names_below d ns ≡ true → IsSound w d (equal_to k (op1 (fld i) (opn fields ns)) x)
  listed_sound d k i ns (yields u) e b =
      (last_holds _ (equals-holds w k (op1 (fld i) (opn fields ns)) u (field_at ns i u _ e)), last_below _ (equals-below d k (op1 (fld i) (opn fields ns)) u b (node_at-named d ns i u e b)))
  listed_sound d k i ns refused e b = tt
  listed_sound d k i ns too_wide e b = tt

  updated_sound : (d : ℕ) (k : Kind) (j i : ℕ) (r v : Node) (n : ℕ) → node_kind s [] (op1 (fld j) (op2 (upd i) r v)) ≡ Some k → names_below d r ≡ true → names_below d v ≡ true → IsSound w d (updated_field k (op1 (fld j) (op2 (upd i) r v)) j i r v n)
  updated_sound d k j i r v n e br bv = go (j == i) refl
    where
      t : Node
      t = op1 (fld j) (op2 (upd i) r v)

      go : (b : Bool) → (j == i) ≡ b → IsSound w d (if b then only 1 (equals k t v ∷ []) n else only 2 (equals k t (op1 (fld j) r) ∷ []) n)
      go true same =
          let m = field_kind j (node_kind s [] (op2 (upd i) r v)) k e in
          let p = upd_kinds i (node_kind s [] r) (node_kind s [] v) m.0 m.1 in
          let at : field j (with_field i (meaning w [] r) (meaning w [] v)) ≡ meaning w [] v = rw (eqb-true j i same) (field_changed p.0 (meaning w [] r) i p.2 (meaning w [] v) p.3 (value_has s w fits r (records p.0) p.1)) in
          only-sound w d 1 (equals k t v ∷ []) n (last_holds _ (equals-holds w k t v at)) (last_below _ (equals-below d k t v (and_from _ _ br bv) bv))
      go false other =
          only-sound w d 2 (equals k t (op1 (fld j) r) ∷ []) n
          (last_holds _ (equals-holds w k t (op1 (fld j) r) (field_kept (meaning w [] r) i j (meaning w [] v) (λ same. eqb-false j i other (sym same)))))
          (last_below _ (equals-below d k t (op1 (fld j) r) (and_from _ _ br bv) br))

  field_of-sound : (d : ℕ) (k : Kind) (t : Node) (n : ℕ) → node_kind s [] t ≡ Some k → names_below d t ≡ true → IsSound w d (field_of k t n)
  field_of-sound d k (op1 (fld i) (opn fields ns)) n e b = go (n == 0)
    where
      go : (x : Bool) → IsSound w d (if x then equal_to k (op1 (fld i) (opn fields ns)) (node_at ns i) else refused)
      go true = listed_sound d k i ns (node_at ns i) refl b
      go false = tt
  field_of-sound d k (op1 (fld j) (op2 (upd i) r v)) n e b =
      let p = and_parts (names_below d r) (names_below d v) b in updated_sound d k j i r v n e p.0 p.1
  field_of-sound d k _ n e b = tt

  -- the values of the fields from field n on
  fields_are : (ks : Kinds) (us vs : Values) (n : ℕ) (t : Node) → meaning w [] t ≡ record_of us → ((i : ℕ) → value_at us (n + i) (number (pos 0)) ≡ value_at vs i (number (pos 0))) → are_of ks vs ≡ true → meanings w [] (fields_from n ks t) ≡ vs
  fields_are no_kinds us no_values n t e f h = refl
  fields_are no_kinds us (value v vs) n t e f h = absurd (false≢true h)
  fields_are (kind k ks) us no_values n t e f h = absurd (false≢true h)
  fields_are (kind k ks) us (value v vs) n t e f h =
      let none : n + 0 ≡ n = omega arith in
      let at : field n (meaning w [] t) ≡ v = ap (field n) e ∙ ap (λ i. value_at us i (number (pos 0))) (sym none) ∙ f 0 in
      let rest : meanings w [] (fields_from (suc n) ks t) ≡ vs = fields_are ks us vs (suc n) t e (λ i. let more : suc n + i ≡ n + suc i = omega arith in ap (λ j. value_at us j (number (pos 0))) more ∙ f (suc i)) (and_parts _ _ h).1 in
      rw (at, rest)

  whole : (ks : Kinds) (t : Node) (v : Value) → meaning w [] t ≡ v → is_of (records ks) v ≡ true → meaning w [] t ≡ record_of (meanings w [] (fields_from 0 ks t))
  whole ks t (record_of vs) e h = e ∙ ap record_of (sym (fields_are ks vs vs 0 t e (λ i. let same : 0 + i ≡ i = omega arith in ap (λ j. value_at vs j (number (pos 0))) same) h))
  whole ks t (number m) e h = absurd (false≢true h)
  whole ks t (truth m) e h = absurd (false≢true h)
  whole ks t (array k f l vs) e h = absurd (false≢true h)

  whole_record-sound : (d : ℕ) (k : Kind) (t : Node) → node_kind s [] t ≡ Some k → names_below d t ≡ true → IsSound w d (whole_record k t)
  whole_record-sound d (records ks) t e b =
      (last_holds _ (same_value-from _ _ (whole ks t (meaning w [] t) refl (value_has s w fits t (records ks) e))), last_below _ (and_from _ _ b (fields_named d 0 ks t b)))
  whole_record-sound d _ t e b = tt

  field_clause-sound : (d : ℕ) (k : Kind) (t : Node) (n : ℕ) → node_kind s [] t ≡ Some k → names_below d t ≡ true → IsSound w d (field_clause k t n)
  field_clause-sound d k t n e b = go (n == 3)
    where
      go : (x : Bool) → IsSound w d (if x then whole_record k t else field_of k t n)
      go true = whole_record-sound d k t e b
      go false = field_of-sound d k t n e b

pub field-sound : (c : Context) (w : World) → IsWorldOf (signature c) w → (n : ℕ) (t : Node) → IsSound w (next_symbol c) (judge c (field_fact n t))
field-sound c w fits n t =
    of_kind-sound w (next_symbol c) (kind_in c t) (λ k. field_clause k t n) (λ k e.
    field_clause-sound (signature c) w fits (next_symbol c) k t n e (kind_below c t k e))
