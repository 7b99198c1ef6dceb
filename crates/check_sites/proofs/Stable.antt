-- A stable sort keeps the first site of each key, and what it gives rises.
use Rattle.std.proofs.Common.{◌≡◌, ℕ, suc, ◌+◌, arith, refl, ap, sym, ◌∙◌, subst, List, [], ◌∷◌, Bool, true, false}
use Rattle.std.specs.Prelude.{cond, filter, not, ◌&&◌, Option, Some, None, slice_index_or}
use Rattle.std.specs.List.Sorted.{IsSortedBy, IsStableBy, ties}
use Rattle.typed_units.specs.declared.checks.SiteKey.{SiteKey}
use Rattle.typed_units.specs.Sites.{same_site, site_before}
use Rattle.check_sites.specs.declared.site.Site.{Site}
use Rattle.check_sites.specs.Listed.{each_once}
use Rattle.check_sites.specs.Ordered.{in_order}
use Rattle.check_sites.proofs.Keys.{before_else, by_cases, not_before_same, same_flip}
use Rattle.check_sites.proofs.Ascending.{Rises, RisesFrom, first_at, one_list, ascends-each_once, ascends-in_order, first-each_once, first-in_order}

abbrev pub before : Site → Site → Bool
before a b = site_before a.key b.key

tied : (x y : Bool) (s : Bool) → (s ≡ true → (x ≡ false) × (y ≡ false)) → (x ≡ false → y ≡ false → s ≡ true) → (not x && not y) ≡ s
tied true y true h k = absurd (let e = (h refl).0 in cc)
tied true y false h k = refl
tied false true true h k = absurd (let e = (h refl).1 in cc)
tied false true false h k = refl
tied false false true h k = refl
tied false false false h k = sym (k refl refl)

same_if : (c d : SiteKey) → site_before c d ≡ false → site_before d c ≡ false → same_site c d ≡ true
same_if c d f g =
    by_cases (same_site c d) (λ t. t)
    (λ n. let e = before_else c d g n in let u : true ≡ false = sym e ∙ f in absurd (cc))

ties_same : (a b : Site) → ties before a b ≡ same_site a.key b.key
ties_same a b =
    tied (site_before a.key b.key) (site_before b.key a.key) (same_site a.key b.key)
    (λ t. (not_before_same a.key b.key t, not_before_same b.key a.key (same_flip a.key b.key t)))
    (same_if a.key b.key)

abbrev head : List Site → Option Site
head [] = None
head (s ∷ ss) = Some s

head_filter : (a : Site) (ss : List Site) → head (filter (ties before a) ss) ≡ first_at a.key ss
head_filter a [] = refl
head_filter a (s ∷ ss) =
    by_cases (same_site a.key s.key)
    (λ t. ap (λ (b : Bool). head (cond b (s ∷ filter (ties before a) ss) (filter (ties before a) ss))) (ties_same a s ∙ t)
    ∙ sym (ap (λ (b : Bool). cond b (Some s) (first_at a.key ss)) t))
    (λ n. ap (λ (b : Bool). head (cond b (s ∷ filter (ties before a) ss) (filter (ties before a) ss))) (ties_same a s ∙ n)
    ∙ head_filter a ss
    ∙ sym (ap (λ (b : Bool). cond b (Some s) (first_at a.key ss)) n))

first_stays : (xs ys : List Site) → IsStableBy before xs ys → (c : SiteKey) → first_at c ys ≡ first_at c xs
first_stays xs ys h c =
    let a : Site = record { key = c; owner = 0 } in
    sym (head_filter a ys) ∙ ap head (h a) ∙ head_filter a xs

rises_from : (s : Site) (ss : List Site) → IsSortedBy before (s ∷ ss) → RisesFrom s.key ss
rises_from s [] h = tt
rises_from s (t ∷ ts) h = (
  h 0 s (omega arith) (omega arith),
  rises_from t ts (λ k d l b.
      let e : suc k + 1 ≡ suc (k + 1) = omega arith in
      let P : ℕ → Type 0 = λ m. before (slice_index_or (s ∷ t ∷ ts) m d) (slice_index_or (s ∷ t ∷ ts) (suc k) d) ≡ false in
      subst P e (h (suc k) d (omega arith) (omega arith))),
)

rises : (ss : List Site) → IsSortedBy before ss → Rises ss
rises [] h = tt
rises (s ∷ ss) h = rises_from s ss h

pub once_in_order : (xs ys : List Site) → IsSortedBy before ys → IsStableBy before xs ys → each_once None ys ≡ in_order xs
once_in_order xs ys r s =
    one_list (each_once None ys) (in_order xs) (ascends-each_once ys (rises ys r)) (ascends-in_order xs)
    (λ c. first-each_once c ys ∙ first_stays xs ys s c ∙ sym (first-in_order c xs))

-- ---- another test that answers the same

pub sorted_alike : (lt : Site → Site → Bool) → ((a b : Site) → lt a b ≡ before a b) → (ss : List Site) → IsSortedBy lt ss → IsSortedBy before ss
sorted_alike lt e ss h = λ k d l b. sym (e (slice_index_or ss (k + 1) d) (slice_index_or ss k d)) ∙ h k d l b

filter_alike : (p q : Site → Bool) → ((s : Site) → p s ≡ q s) → (ss : List Site) → filter p ss ≡ filter q ss
filter_alike p q e [] = refl
filter_alike p q e (s ∷ ss) =
    ap (λ (b : Bool). cond b (s ∷ filter p ss) (filter p ss)) (e s)
    ∙ ap (λ (xs : List Site). cond (q s) (s ∷ xs) xs) (filter_alike p q e ss)

ties_alike : (lt : Site → Site → Bool) → ((a b : Site) → lt a b ≡ before a b) → (a s : Site) → ties lt a s ≡ ties before a s
ties_alike lt e a s = ap (λ (b : Bool). not b && not (lt s a)) (e a s) ∙ ap (λ (b : Bool). not (before a s) && not b) (e s a)

pub stable_alike : (lt : Site → Site → Bool) → ((a b : Site) → lt a b ≡ before a b) → (xs ys : List Site) → IsStableBy lt xs ys → IsStableBy before xs ys
stable_alike lt e xs ys h = λ a.
    sym (filter_alike (ties lt a) (ties before a) (ties_alike lt e a) ys) ∙ h a ∙ filter_alike (ties lt a) (ties before a) (ties_alike lt e a) xs
