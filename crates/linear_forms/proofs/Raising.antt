-- A monomial that is raised, dropped or inserted.
use Rattle.std.proofs.Common.{◌≡◌, ◌≢◌, refl, sym, ◌∙◌, ap, ap₂, ℕ, suc, ◌<◌, Bool, true, false, List, ◌∷◌, ◌++◌, length, take, drop, get_or, set}
use Rattle.std.specs.Prelude.{ℤ, pos, ◌+ℤ◌, if◌then◌else◌, remove}
use Rattle.std.specs.List.{insert}
use Rattle.std.proofs.lemmas.List.{map-append, take-map, drop-map, set_split, take-append-drop}
use Rattle.logic_terms.specs.Node.{Node}
use Rattle.logic_terms.specs.View.{term}
use Rattle.logic_terms.specs.Value.{same_int}
use Rattle.logic_terms.proofs.SameNodes.{same_int-is}
use Rattle.linear_forms.specs.Form.{Monomial, monomial, kept}
use Rattle.linear_forms.specs.Fits.{fits}
use Rattle.linear_forms.specs.View.{part, parts}
use Rattle.linear_forms.specs.Places.{at, raised_at}
use Rattle.linear_forms.specs.declared.form.Part.{Part}
use Rattle.linear_forms.proofs.Placing.{at_part}

kept_zero : (z : ℤ) (v : Node) (ms : List Monomial) → z ≡ pos 0 → kept z v ms ≡ ms
kept_zero z v ms e = ap (λ (x : ℤ). kept x v ms) e

kept_by : (b : Bool) (z : ℤ) (v : Node) (ms : List Monomial) → (b ≡ true → z ≡ pos 0) → z ≢ pos 0 → (if b then ms else monomial z v ∷ ms) ≡ monomial z v ∷ ms
kept_by true z v ms h e = absurd (e (h refl))
kept_by false z v ms h e = refl

kept_some : (z : ℤ) (v : Node) (ms : List Monomial) → z ≢ pos 0 → kept z v ms ≡ monomial z v ∷ ms
kept_some z v ms e = kept_by (same_int z (pos 0)) z v ms (same_int-is z (pos 0)) e

split_parts : (xs ys : List Part) → parts (xs ++ ys) ≡ parts xs ++ parts ys
split_parts xs ys = map-append part xs ys

both : (ps : List Part) (i : ℕ) (ms : List Monomial) → take i (parts ps) ++ ms ≡ parts (take i ps) ++ ms
both ps i ms = ap (λ (x : List Monomial). x ++ ms) (take-map part i ps)

here : (ps : List Part) (i : ℕ) (p : Part) (c z : ℤ) → i < length ps → p ≡ get_or ps i p → z ≡ p.coefficient +ℤ c → raised_at (parts ps) i c ≡ take i (parts ps) ++ kept z (term p.variable) (drop (suc i) (parts ps))
here ps i p c z h e f =
    ap (λ (m : Monomial). take i (parts ps) ++ kept (m.coefficient +ℤ c) m.variable (drop (suc i) (parts ps))) (at_part ps i p h e)
    ∙ ap (λ (x : ℤ). take i (parts ps) ++ kept x (term p.variable) (drop (suc i) (parts ps))) (sym f)

pub raised_fits : (ps : List Part) (i : ℕ) (p : Part) (c : ℤ) → i < length ps → p ≡ get_or ps i p → fits (p.coefficient +ℤ c) ≡ fits ((at (parts ps) i).coefficient +ℤ c)
raised_fits ps i p c h e = ap (λ (m : Monomial). fits (m.coefficient +ℤ c)) (sym (at_part ps i p h e))

pub raised_removed : (ps : List Part) (i : ℕ) (p : Part) (c z : ℤ) → i < length ps → p ≡ get_or ps i p → z ≡ p.coefficient +ℤ c → z ≡ pos 0 → parts (remove ps i) ≡ raised_at (parts ps) i c
raised_removed ps i p c z h e f g =
    split_parts (take i ps) (drop (suc i) ps)
    ∙ sym (both ps i (parts (drop (suc i) ps)))
    ∙ ap (λ (x : List Monomial). take i (parts ps) ++ x) (sym (drop-map part (suc i) ps) ∙ sym (kept_zero z (term p.variable) (drop (suc i) (parts ps)) g))
    ∙ sym (here ps i p c z h e f)

pub raised_set : (ps : List Part) (i : ℕ) (p q : Part) (c z : ℤ) → i < length ps → p ≡ get_or ps i p → z ≡ p.coefficient +ℤ c → z ≢ pos 0 → part q ≡ monomial z (term p.variable) → parts (set ps i q) ≡ raised_at (parts ps) i c
raised_set ps i p q c z h e f g k =
    ap parts (set_split ps i q h)
    ∙ split_parts (take i ps) (q ∷ drop (suc i) ps)
    ∙ sym (both ps i (part q ∷ parts (drop (suc i) ps)))
    ∙ ap (λ (x : List Monomial). take i (parts ps) ++ x)
    (ap₂ (λ (x : Monomial) (xs : List Monomial). x ∷ xs) k (sym (drop-map part (suc i) ps))
    ∙ sym (kept_some z (term p.variable) (drop (suc i) (parts ps)) g))
    ∙ sym (here ps i p c z h e f)

pub put_in : (ps : List Part) (i : ℕ) (q : Part) (c : ℤ) (v : Node) → part q ≡ monomial c v → c ≢ pos 0 → parts (insert ps i q) ≡ take i (parts ps) ++ kept c v (drop i (parts ps))
put_in ps i q c v k g =
    split_parts (take i ps) (q ∷ drop i ps)
    ∙ sym (both ps i (part q ∷ parts (drop i ps)))
    ∙ ap (λ (x : List Monomial). take i (parts ps) ++ x)
    (ap₂ (λ (x : Monomial) (xs : List Monomial). x ∷ xs) k (sym (drop-map part i ps)) ∙ sym (kept_some c v (drop i (parts ps)) g))

pub left_out : (ms : List Monomial) (i : ℕ) (c : ℤ) (v : Node) → c ≡ pos 0 → ms ≡ take i ms ++ kept c v (drop i ms)
left_out ms i c v e =
    sym (take-append-drop i ms) ∙ ap (λ (x : List Monomial). take i ms ++ x) (sym (kept_zero c v (drop i ms) e))
