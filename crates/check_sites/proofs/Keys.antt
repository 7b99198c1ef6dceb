-- Keys of sites: which is before which, and which are one.
use Rattle.std.proofs.Common.{◌≡◌, refl, sym, ◌∙◌, subst, Bool, true, false}
use Rattle.typed_units.specs.declared.checks.SiteKey.{SiteKey}
use Rattle.typed_units.specs.Sites.{same_site, site_before}
use Rattle.typed_units.proofs.Sites.{same_is_equal, same_itself, before_itself, before_chain, before_neither}

pub by_cases : {C : Type 0} (b : Bool) → (b ≡ true → C) → (b ≡ false → C) → C
by_cases true t f = t refl
by_cases false t f = f refl

pub not_both : (b : Bool) → b ≡ true → b ≡ false → ⊥
not_both b t f = let e : true ≡ false = sym t ∙ f in absurd (cc)

-- not after it, and not one with it
pub before_else : (d c : SiteKey) → site_before c d ≡ false → same_site d c ≡ false → site_before d c ≡ true
before_else d c h s =
    by_cases (site_before d c) (λ t. t)
    (λ f. let e = before_neither d c f h in
    let P : SiteKey → Type 0 = λ x. same_site d x ≡ true in
    absurd (not_both (same_site d c) (subst P e (same_itself d)) s))

pub not_before_same : (d c : SiteKey) → same_site d c ≡ true → site_before d c ≡ false
not_before_same d c h = let P : SiteKey → Type 0 = λ x. site_before d x ≡ false in subst P (same_is_equal d c h) (before_itself d)

pub differ_before : (d c : SiteKey) → site_before d c ≡ true → same_site d c ≡ false
differ_before d c h =
    by_cases (same_site d c)
    (λ t. absurd (not_both (site_before d c) h (not_before_same d c t)))
    (λ f. f)

pub same_flip : (d c : SiteKey) → same_site d c ≡ true → same_site c d ≡ true
same_flip d c h = let P : SiteKey → Type 0 = λ x. same_site x d ≡ true in subst P (same_is_equal d c h) (same_itself d)

pub differ_flip : (d c : SiteKey) → same_site d c ≡ false → same_site c d ≡ false
differ_flip d c h = by_cases (same_site c d) (λ t. absurd (not_both (same_site d c) (same_flip c d t) h)) (λ f. f)

pub differ_after : (d c : SiteKey) → site_before d c ≡ true → same_site c d ≡ false
differ_after d c h = differ_flip d c (differ_before d c h)

-- what isn't after the lesser isn't after the greater
pub not_before_chain : (d x c : SiteKey) → site_before d x ≡ true → site_before d c ≡ false → site_before x c ≡ false
not_before_chain d x c h n = by_cases (site_before x c) (λ t. absurd (not_both (site_before d c) (before_chain d x c h t) n)) (λ f. f)
