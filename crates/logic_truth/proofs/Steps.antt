-- What each step of the evaluator finds, for a value of a known form.
use Rattle.std.proofs.Common.{◌≡◌, ◌≢◌, sym, ◌∙◌, ap, subst, ℕ, ◌≤◌, true, List, length, Some}
use Rattle.std.specs.Prelude.{ℤ, pos, slice_get}
use Rattle.logic_terms.specs.Value.{arrays, Value, number, record_of, with_value, kind_of, default}
use Rattle.logic_terms.specs.Meaning.{item, stored, filled, field, with_field}
use Rattle.logic_terms.specs.Arrays.{has_item}
use Rattle.logic_truth.specs.Found.{found, found_step, found_all}
use Rattle.logic_truth.specs.declared.found.Found.{Found, fold-roll-Found}
use Rattle.logic_truth.specs.declared.found.Found.TheVariants as v
use Rattle.logic_truth.specs.declared.found.Found.TheOpen as open_
use Rattle.logic_terms.proofs.Items.{item_filled, item_other, has_item_stored, kind_stored, kind_of_default, with_field_stored}
use Rattle.logic_truth.proofs.Whole.{item_of_same, found_at, found_beyond}

pub found-Filled : (f l : ℤ) (x : Found) → found (v.Filled f l x) ≡ filled f l (found x)
found-Filled f l x = ap found (sym (v.rolls-Filled f l x)) ∙ fold-roll-Found Value found_step (open_.Filled f l x)

pub found-Stored : (a : Found) (i : ℤ) (x : Found) → found (v.Stored a i x) ≡ stored (found a) i (found x)
found-Stored a i x = ap found (sym (v.rolls-Stored a i x)) ∙ fold-roll-Found Value found_step (open_.Stored a i x)

pub found-Record : (vs : List Found) → found (v.Record vs) ≡ record_of (found_all vs)
found-Record vs = ap found (sym (v.rolls-Record vs)) ∙ fold-roll-Found Value found_step (open_.Record vs)

pub found-Num : (n : ℤ) → found (v.Num n) ≡ number n
found-Num n = ap found (sym (v.rolls-Num n)) ∙ fold-roll-Found Value found_step (open_.Num n)

module _ (w : Found) (i : ℤ) where
  pub item_in_filled : (f l : ℤ) (x : Found) → w ≡ v.Filled f l x → has_item (found w) i ≡ true → found x ≡ item (found w) i
  item_in_filled f l x e h =
      let s = ap found e ∙ found-Filled f l x in
      let g : has_item (filled f l (found x)) i ≡ true = subst (λ u. has_item u i ≡ true) s h in
      sym (ap (λ u. item u i) s ∙ item_filled f l (found x) i g)

  pub item_stored_here : (a : Found) (j : ℤ) (x : Found) → w ≡ v.Stored a j x → j ≡ i → has_item (found w) i ≡ true → found x ≡ item (found w) i
  item_stored_here a j x e same h =
      let s = ap found e ∙ found-Stored a j x ∙ ap (λ k. stored (found a) k (found x)) same in
      let g : has_item (found a) i ≡ true = sym (has_item_stored (found a) i (found x) i) ∙ subst (λ u. has_item u i ≡ true) s h in
      sym (ap (λ u. item u i) s ∙ item_of_same a i (found x) g)

  pub has_item_below : (a : Found) (j : ℤ) (x : Found) → w ≡ v.Stored a j x → has_item (found w) i ≡ true → has_item (found a) i ≡ true
  has_item_below a j x e h =
      let s = ap found e ∙ found-Stored a j x in
      sym (has_item_stored (found a) j (found x) i) ∙ subst (λ u. has_item u i ≡ true) s h

  pub item_stored_elsewhere : (a : Found) (j : ℤ) (x r : Found) → w ≡ v.Stored a j x → j ≢ i → has_item (found w) i ≡ true → found r ≡ item (found a) i → found r ≡ item (found w) i
  item_stored_elsewhere a j x r e apart h f =
      let s = ap found e ∙ found-Stored a j x in
      f ∙ sym (ap (λ u. item u i) s ∙ item_other (found a) j (found x) i (has_item_below a j x e h) apart)

module _ (w : Found) where
  pub default_in_filled : (f l : ℤ) (x d : Found) → w ≡ v.Filled f l x → found d ≡ default (kind_of (found x)) → found (v.Filled (pos 1) (pos 0) d) ≡ default (kind_of (found w))
  default_in_filled f l x d e h =
      let s = ap found e ∙ found-Filled f l x in
      let k : kind_of (found d) ≡ kind_of (found x) = ap kind_of h ∙ kind_of_default (kind_of (found x)) in
      found-Filled (pos 1) (pos 0) d ∙ ap (λ j. default (arrays j)) k ∙ sym (ap (λ u. default (kind_of u)) s)

  pub default_below : (a : Found) (j : ℤ) (x : Found) → w ≡ v.Stored a j x → kind_of (found a) ≡ kind_of (found w)
  default_below a j x e = sym (ap (λ u. kind_of u) (ap found e ∙ found-Stored a j x) ∙ kind_stored (found a) j (found x))

  pub field_in : (vs : List Found) (k : ℕ) (x : Found) → w ≡ v.Record vs → slice_get vs k ≡ Some x → found x ≡ field k (found w)
  field_in vs k x e h =
      let s = ap found e ∙ found-Record vs in
      sym (ap (field k) s ∙ found_at vs k x (number (pos 0)) h)

  pub field_beyond : (vs : List Found) (k : ℕ) → w ≡ v.Record vs → length vs ≤ k → found (v.Num (pos 0)) ≡ field k (found w)
  field_beyond vs k e h =
      let s = ap found e ∙ found-Record vs in
      found-Num (pos 0) ∙ sym (ap (field k) s ∙ found_beyond vs k (number (pos 0)) h)

  pub with_field_in : (vs us : List Found) (k : ℕ) (x : Value) → w ≡ v.Record vs → found_all us ≡ with_value (found_all vs) k x → found (v.Record us) ≡ with_field k (found w) x
  with_field_in vs us k x e h =
      let s = ap found e ∙ found-Record vs in
      found-Record us ∙ ap record_of h ∙ sym (ap (λ u. with_field k u x) s)

  pub with_field_below : (a : Found) (j : ℤ) (x b : Found) (k : ℕ) (y : Value) → w ≡ v.Stored a j x → found b ≡ with_field k (found a) y → found (v.Stored b j x) ≡ with_field k (found w) y
  with_field_below a j x b k y e h =
      let s = ap found e ∙ found-Stored a j x in
      found-Stored b j x ∙ ap (λ u. stored u j (found x)) h ∙ sym (ap (λ u. with_field k u y) s ∙ with_field_stored k (found a) j (found x) y)
