-- Sorts are known by their texts.
use Rattle.std.proofs.Common.{◌≡◌, refl, sym, ◌∙◌, ap, ap₂, ℕ, List, [], ◌∷◌, ◌++◌, append_assoc}
use Rattle.std.proofs.lemmas.Bool.{eqb-false}
use Rattle.logic_terms.specs.Value.{Kind, numbers, truths, arrays, records, Kinds, no_kinds, kind}
use Rattle.term_reader.specs.Sorts.{kind_text, spaced_kinds}
use Rattle.term_reader.proofs.Digits.{same_head, same_tail}
use Rattle.term_reader.proofs.Skipping.{regrouped1, regrouped_list}

next_kind : (t u xs : List ℕ) → (((32 ∷ []) ++ t) ++ u) ++ xs ≡ 32 ∷ (t ++ (u ++ xs))
next_kind t u xs = ap (λ (x : List ℕ). 32 ∷ x) (append_assoc t u xs)

inside_array : (k : Kind) (xs : List ℕ) → kind_text (arrays k) ++ xs ≡ 40 ∷ (65 ∷ (32 ∷ (kind_text k ++ (41 ∷ xs))))
inside_array k xs = regrouped1 (65 ∷ []) (kind_text k) xs

inside_record : (ks : Kinds) (xs : List ℕ) → kind_text (records ks) ++ xs ≡ 40 ∷ (82 ∷ (spaced_kinds ks ++ (41 ∷ xs)))
inside_record ks xs = regrouped_list (82 ∷ []) (spaced_kinds ks) xs

mutual
  pub kinds_apart : (k j : Kind) (xs ys : List ℕ) → kind_text k ++ xs ≡ kind_text j ++ ys → (k ≡ j) × (xs ≡ ys)
  kinds_apart numbers numbers xs ys e = (refl, same_tail 78 78 xs ys e)
  kinds_apart truths truths xs ys e = (refl, same_tail 66 66 xs ys e)
  kinds_apart (arrays k) (arrays j) xs ys e =
      let r = kinds_apart k j (41 ∷ xs) (41 ∷ ys) (same_tail 32 32 _ _ (same_tail 65 65 _ _ (same_tail 40 40 _ _ (sym (inside_array k xs) ∙ e ∙ inside_array j ys)))) in
      (ap arrays r.0, same_tail 41 41 xs ys r.1)
  kinds_apart (records ks) (records js) xs ys e =
      let r = kind_lists_apart ks js xs ys (same_tail 82 82 _ _ (same_tail 40 40 _ _ (sym (inside_record ks xs) ∙ e ∙ inside_record js ys))) in
      (ap records r.0, r.1)
  kinds_apart numbers truths xs ys e = absurd (eqb-false 78 66 refl (same_head 78 66 xs ys e))
  kinds_apart numbers (arrays j) xs ys e = absurd (eqb-false 78 40 refl (same_head 78 40 _ _ (e ∙ inside_array j ys)))
  kinds_apart numbers (records js) xs ys e = absurd (eqb-false 78 40 refl (same_head 78 40 _ _ (e ∙ inside_record js ys)))
  kinds_apart truths numbers xs ys e = absurd (eqb-false 66 78 refl (same_head 66 78 xs ys e))
  kinds_apart truths (arrays j) xs ys e = absurd (eqb-false 66 40 refl (same_head 66 40 _ _ (e ∙ inside_array j ys)))
  kinds_apart truths (records js) xs ys e = absurd (eqb-false 66 40 refl (same_head 66 40 _ _ (e ∙ inside_record js ys)))
  kinds_apart (arrays k) numbers xs ys e = absurd (eqb-false 40 78 refl (same_head 40 78 _ _ (sym (inside_array k xs) ∙ e)))
  kinds_apart (arrays k) truths xs ys e = absurd (eqb-false 40 66 refl (same_head 40 66 _ _ (sym (inside_array k xs) ∙ e)))
  kinds_apart (arrays k) (records js) xs ys e =
      absurd (eqb-false 65 82 refl (same_head 65 82 _ _ (same_tail 40 40 _ _ (sym (inside_array k xs) ∙ e ∙ inside_record js ys))))
  kinds_apart (records ks) numbers xs ys e = absurd (eqb-false 40 78 refl (same_head 40 78 _ _ (sym (inside_record ks xs) ∙ e)))
  kinds_apart (records ks) truths xs ys e = absurd (eqb-false 40 66 refl (same_head 40 66 _ _ (sym (inside_record ks xs) ∙ e)))
  kinds_apart (records ks) (arrays j) xs ys e =
      absurd (eqb-false 82 65 refl (same_head 82 65 _ _ (same_tail 40 40 _ _ (sym (inside_record ks xs) ∙ e ∙ inside_array j ys))))

  kind_lists_apart : (ks js : Kinds) (xs ys : List ℕ) → spaced_kinds ks ++ (41 ∷ xs) ≡ spaced_kinds js ++ (41 ∷ ys) → (ks ≡ js) × (xs ≡ ys)
  kind_lists_apart no_kinds no_kinds xs ys e = (refl, same_tail 41 41 xs ys e)
  kind_lists_apart no_kinds (kind j js) xs ys e = absurd (eqb-false 41 32 refl (same_head 41 32 _ _ (e ∙ next_kind (kind_text j) (spaced_kinds js) (41 ∷ ys))))
  kind_lists_apart (kind k ks) no_kinds xs ys e = absurd (eqb-false 32 41 refl (same_head 32 41 _ _ (sym (next_kind (kind_text k) (spaced_kinds ks) (41 ∷ xs)) ∙ e)))
  kind_lists_apart (kind k ks) (kind j js) xs ys e =
      let r = kinds_apart k j (spaced_kinds ks ++ (41 ∷ xs)) (spaced_kinds js ++ (41 ∷ ys))
      (same_tail 32 32 _ _ (sym (next_kind (kind_text k) (spaced_kinds ks) (41 ∷ xs)) ∙ e ∙ next_kind (kind_text j) (spaced_kinds js) (41 ∷ ys))) in
      let s = kind_lists_apart ks js xs ys r.1 in
      (ap₂ kind r.0 s.0, s.1)
