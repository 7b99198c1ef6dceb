-- Lists of sites whose keys ascend: what they are is told by the first site of each key.
use Rattle.std.proofs.Common.{◌≡◌, refl, ap, sym, ◌∙◌, subst, List, [], ◌∷◌, Bool, true, false}
use Rattle.std.specs.Prelude.{cond, Option, Some, None}
use Rattle.typed_units.specs.declared.checks.SiteKey.{SiteKey}
use Rattle.typed_units.specs.Sites.{same_site, site_before}
use Rattle.typed_units.proofs.Sites.{same_is_equal, same_itself, before_itself, before_chain, before_neither}
use Rattle.check_sites.specs.declared.site.Site.{Site}
use Rattle.check_sites.specs.Listed.{each_once, is_same}
use Rattle.check_sites.specs.Ordered.{in_order, placed}
use Rattle.check_sites.proofs.Keys.{by_cases, not_both, before_else, not_before_same, differ_before, same_flip, not_before_chain}

-- the first site at a key
abbrev pub first_at : SiteKey → List Site → Option Site
first_at c [] = None
first_at c (s ∷ ss) = cond (same_site c s.key) (Some s) (first_at c ss)

abbrev pub AscendsFrom : SiteKey → List Site → Type 0
AscendsFrom d [] = Unit {0}
AscendsFrom d (s ∷ ss) = (site_before d s.key ≡ true) × AscendsFrom s.key ss

abbrev pub Ascends : List Site → Type 0
Ascends [] = Unit {0}
Ascends (s ∷ ss) = AscendsFrom s.key ss

abbrev pub RisesFrom : SiteKey → List Site → Type 0
RisesFrom d [] = Unit {0}
RisesFrom d (s ∷ ss) = (site_before s.key d ≡ false) × RisesFrom s.key ss

abbrev pub Rises : List Site → Type 0
Rises [] = Unit {0}
Rises (s ∷ ss) = RisesFrom s.key ss

here : (c : SiteKey) (s : Site) (ss : List Site) → same_site c s.key ≡ true → first_at c (s ∷ ss) ≡ Some s
here c s ss h = ap (λ (b : Bool). cond b (Some s) (first_at c ss)) h

there : (c : SiteKey) (s : Site) (ss : List Site) → same_site c s.key ≡ false → first_at c (s ∷ ss) ≡ first_at c ss
there c s ss h = ap (λ (b : Bool). cond b (Some s) (first_at c ss)) h

-- ---- each once

kept : (last : Option SiteKey) (s : Site) (ss : List Site) → is_same last s.key ≡ false → each_once last (s ∷ ss) ≡ s ∷ each_once (Some s.key) ss
kept last s ss h = ap (λ (b : Bool). cond b (each_once (Some s.key) ss) (s ∷ each_once (Some s.key) ss)) h

left : (last : Option SiteKey) (s : Site) (ss : List Site) → is_same last s.key ≡ true → each_once last (s ∷ ss) ≡ each_once (Some s.key) ss
left last s ss h = ap (λ (b : Bool). cond b (each_once (Some s.key) ss) (s ∷ each_once (Some s.key) ss)) h

differ_same : (c d e : SiteKey) → same_site c d ≡ false → same_site d e ≡ true → same_site c e ≡ false
differ_same c d e h s = let P : SiteKey → Type 0 = λ x. same_site c x ≡ false in subst P (same_is_equal d e s) h

first_once : (c d : SiteKey) (ss : List Site) → same_site c d ≡ false → first_at c (each_once (Some d) ss) ≡ first_at c ss
first_once c d [] h = refl
first_once c d (s ∷ ss) h =
    by_cases (same_site d s.key)
    (λ t.
    let n = differ_same c d s.key h t in
    ap (first_at c) (left (Some d) s ss t) ∙ first_once c s.key ss n ∙ sym (there c s ss n))
    (λ f. ap (first_at c) (kept (Some d) s ss f) ∙ by_cases (same_site c s.key)
    (λ t. here c s (each_once (Some s.key) ss) t ∙ sym (here c s ss t))
    (λ n. there c s (each_once (Some s.key) ss) n ∙ first_once c s.key ss n ∙ sym (there c s ss n)))

pub first-each_once : (c : SiteKey) (ss : List Site) → first_at c (each_once None ss) ≡ first_at c ss
first-each_once c [] = refl
first-each_once c (s ∷ ss) =
    by_cases (same_site c s.key)
    (λ t. here c s (each_once (Some s.key) ss) t ∙ sym (here c s ss t))
    (λ n. there c s (each_once (Some s.key) ss) n ∙ first_once c s.key ss n ∙ sym (there c s ss n))

ascends_once : (d : SiteKey) (ss : List Site) → RisesFrom d ss → AscendsFrom d (each_once (Some d) ss)
ascends_once d [] r = tt
ascends_once d (s ∷ ss) r =
    by_cases (same_site d s.key)
    (λ t.
    let P : SiteKey → Type 0 = λ x. AscendsFrom x (each_once (Some s.key) ss) in
    subst (AscendsFrom d) (sym (left (Some d) s ss t)) (subst P (sym (same_is_equal d s.key t)) (ascends_once s.key ss r.1)))
    (λ f. subst (AscendsFrom d) (sym (kept (Some d) s ss f)) (before_else d s.key r.0 f, ascends_once s.key ss r.1))

pub ascends-each_once : (ss : List Site) → Rises ss → Ascends (each_once None ss)
ascends-each_once [] r = tt
ascends-each_once (s ∷ ss) r = ascends_once s.key ss r

-- ---- in order

placed_before : (s x : Site) (xs : List Site) → site_before s.key x.key ≡ true → placed s (x ∷ xs) ≡ s ∷ x ∷ xs
placed_before s x xs h = ap (λ (b : Bool). cond b (s ∷ x ∷ xs) (cond (site_before x.key s.key) (x ∷ placed s xs) (s ∷ xs))) h

placed_after : (s x : Site) (xs : List Site) → site_before s.key x.key ≡ false → site_before x.key s.key ≡ true → placed s (x ∷ xs) ≡ x ∷ placed s xs
placed_after s x xs h k =
    ap (λ (b : Bool). cond b (s ∷ x ∷ xs) (cond (site_before x.key s.key) (x ∷ placed s xs) (s ∷ xs))) h
    ∙ ap (λ (b : Bool). cond b (x ∷ placed s xs) (s ∷ xs)) k

placed_at : (s x : Site) (xs : List Site) → site_before s.key x.key ≡ false → site_before x.key s.key ≡ false → placed s (x ∷ xs) ≡ s ∷ xs
placed_at s x xs h k =
    ap (λ (b : Bool). cond b (s ∷ x ∷ xs) (cond (site_before x.key s.key) (x ∷ placed s xs) (s ∷ xs))) h
    ∙ ap (λ (b : Bool). cond b (x ∷ placed s xs) (s ∷ xs)) k

-- the three ways of two keys
pub compared : {C : Type 0} (c d : SiteKey) → (site_before c d ≡ true → C) → (site_before c d ≡ false → site_before d c ≡ true → C) → (site_before c d ≡ false → site_before d c ≡ false → c ≡ d → C) → C
compared c d l g e = by_cases (site_before c d) l (λ f. by_cases (site_before d c) (g f) (λ h. e f h (before_neither c d f h)))

ascends_placed : (d : SiteKey) (s : Site) (xs : List Site) → site_before d s.key ≡ true → AscendsFrom d xs → AscendsFrom d (placed s xs)
ascends_placed d s [] h a = (h, tt)
ascends_placed d s (x ∷ xs) h a =
    compared s.key x.key
    (λ l. subst (AscendsFrom d) (sym (placed_before s x xs l)) (h, (l, a.1)))
    (λ f g. subst (AscendsFrom d) (sym (placed_after s x xs f g)) (a.0, ascends_placed x.key s xs g a.1))
    (λ f g e. let P : SiteKey → Type 0 = λ k. AscendsFrom k xs in subst (AscendsFrom d) (sym (placed_at s x xs f g)) (h, subst P (sym e) a.1))

ascends_more : (s : Site) (xs : List Site) → Ascends xs → Ascends (placed s xs)
ascends_more s [] a = tt
ascends_more s (x ∷ xs) a =
    compared s.key x.key
    (λ l. subst Ascends (sym (placed_before s x xs l)) (l, a))
    (λ f g. subst Ascends (sym (placed_after s x xs f g)) (ascends_placed x.key s xs g a))
    (λ f g e. let P : SiteKey → Type 0 = λ k. AscendsFrom k xs in subst Ascends (sym (placed_at s x xs f g)) (subst P (sym e) a))

pub ascends-in_order : (ss : List Site) → Ascends (in_order ss)
ascends-in_order [] = tt
ascends-in_order (s ∷ ss) = ascends_more s (in_order ss) (ascends-in_order ss)

-- two tests that don't both hold may change places
swapped : (p q : Bool) (x y z : Option Site) → (p ≡ true → q ≡ true → ⊥) → cond p x (cond q y z) ≡ cond q y (cond p x z)
swapped true true x y z h = absurd (h refl refl)
swapped true false x y z h = refl
swapped false true x y z h = refl
swapped false false x y z h = refl

both_same : (c d e : SiteKey) → same_site c d ≡ true → same_site c e ≡ true → d ≡ e
both_same c d e h k = sym (same_is_equal c d h) ∙ same_is_equal c e k

not_one : (d e : SiteKey) → d ≡ e → site_before d e ≡ true → ⊥
not_one d e h b = let P : SiteKey → Type 0 = λ k. site_before d k ≡ false in not_both (site_before d e) b (subst P h (before_itself d))

over : (p q : Bool) (x y z : Option Site) → p ≡ q → cond p x z ≡ cond p x (cond q y z)
over true true x y z h = refl
over true false x y z h = refl
over false true x y z h = absurd (cc)
over false false x y z h = refl

pub first-placed : (c : SiteKey) (s : Site) (xs : List Site) → first_at c (placed s xs) ≡ first_at c (s ∷ xs)
first-placed c s [] = refl
first-placed c s (x ∷ xs) =
    compared s.key x.key
    (λ l. ap (first_at c) (placed_before s x xs l))
    (λ f g.
    ap (first_at c) (placed_after s x xs f g)
    ∙ ap (λ (o : Option Site). cond (same_site c x.key) (Some x) o) (first-placed c s xs)
    ∙ swapped (same_site c x.key) (same_site c s.key) (Some x) (Some s) (first_at c xs) (λ p q. not_one x.key s.key (both_same c x.key s.key p q) g))
    (λ f g e. ap (first_at c) (placed_at s x xs f g) ∙ over (same_site c s.key) (same_site c x.key) (Some s) (Some x) (first_at c xs) (ap (same_site c) e))

pub first-in_order : (c : SiteKey) (ss : List Site) → first_at c (in_order ss) ≡ first_at c ss
first-in_order c [] = refl
first-in_order c (s ∷ ss) = first-placed c s (in_order ss) ∙ ap (λ (o : Option Site). cond (same_site c s.key) (Some s) o) (first-in_order c ss)

-- ---- one list alone

pub none_after : (d c : SiteKey) (xs : List Site) → AscendsFrom d xs → site_before d c ≡ false → first_at c xs ≡ None
none_after d c [] a h = refl
none_after d c (x ∷ xs) a h =
    there c x xs (by_cases (same_site c x.key)
    (λ t. let P : SiteKey → Type 0 = λ k. site_before d k ≡ true in absurd (not_both (site_before d c) (subst P (sym (same_is_equal c x.key t)) a.0) h))
    (λ f. f))
    ∙ none_after x.key c xs a.1 (not_before_chain d x.key c a.0 h)

before_flip : (d c : SiteKey) → site_before d c ≡ true → site_before c d ≡ false
before_flip d c h = by_cases (site_before c d) (λ t. absurd (not_both (site_before d d) (before_chain d c d h t) (before_itself d))) (λ f. f)

none_less : (c : SiteKey) (x : Site) (xs : List Site) → AscendsFrom x.key xs → site_before c x.key ≡ true → first_at c (x ∷ xs) ≡ None
none_less c x xs a h = there c x xs (differ_before c x.key h) ∙ none_after x.key c xs a (before_flip c x.key h)

some_none : (x : Site) → Some x ≡ None → ⊥
some_none x e = absurd (cc)

some_injective : (x y : Site) → Some x ≡ Some y → x ≡ y
some_injective x y e = cc

ascends_rest : (s : Site) (ss : List Site) → AscendsFrom s.key ss → Ascends ss
ascends_rest s [] r = tt
ascends_rest s (t ∷ ts) r = r.1

rest_alike : (c : SiteKey) (s t : Site) (ss ts : List Site) → AscendsFrom s.key ss → AscendsFrom t.key ts → s.key ≡ t.key → first_at c (s ∷ ss) ≡ first_at c (t ∷ ts) → first_at c ss ≡ first_at c ts
rest_alike c s t ss ts r u e k =
    by_cases (same_site c s.key)
    (λ w.
    let i = same_flip c s.key w in
    let Q : SiteKey → Type 0 = λ z. site_before z c ≡ false in
    none_after s.key c ss r (not_before_same s.key c i) ∙ sym (none_after t.key c ts u (subst Q e (not_before_same s.key c i))))
    (λ w.
    let Q : SiteKey → Type 0 = λ z. same_site c z ≡ false in
    sym (there c s ss w) ∙ k ∙ there c t ts (subst Q e w))

pub one_list : (xs ys : List Site) → Ascends xs → Ascends ys → ((c : SiteKey) → first_at c xs ≡ first_at c ys) → xs ≡ ys
one_list [] [] a b h = refl
one_list [] (y ∷ ys) a b h = absurd (some_none y (sym (here y.key y ys (same_itself y.key)) ∙ sym (h y.key)))
one_list (x ∷ xs) [] a b h = absurd (some_none x (sym (here x.key x xs (same_itself x.key)) ∙ h x.key))
one_list (x ∷ xs) (y ∷ ys) a b h =
    compared x.key y.key
    (λ l. absurd (some_none x (sym (here x.key x xs (same_itself x.key)) ∙ h x.key ∙ none_less x.key y ys b l)))
    (λ f g. absurd (some_none y (sym (here y.key y ys (same_itself y.key)) ∙ sym (h y.key) ∙ none_less y.key x xs a g)))
    (λ f g e.
    let P : SiteKey → Type 0 = λ k. same_site x.key k ≡ true in
    let heads : x ≡ y = some_injective x y (sym (here x.key x xs (same_itself x.key)) ∙ h x.key ∙ here x.key y ys (subst P e (same_itself x.key))) in
    let tails : xs ≡ ys = one_list xs ys (ascends_rest x xs a) (ascends_rest y ys b) (λ c. rest_alike c x y xs ys a b e (h c)) in
    ap (λ (z : Site). z ∷ xs) heads ∙ ap (λ (zs : List Site). y ∷ zs) tails)
