-- The parts of a form that are divided one by one.
use Rattle.std.proofs.Common.{◌≡◌, refl, sym, ◌∙◌, ap, ap₂, ℕ, zero, suc, ◌+◌, ◌/◌, ◌<◌, ◌≤◌, max, List, [], ◌∷◌, ◌++◌, length, take, map, get_or, arith, add-one}
use Rattle.std.specs.Prelude.{ℤ, pos, negsuc}
use Rattle.std.proofs.lemmas.List.{map-append, take_all}
use Rattle.logic_terms.specs.View.{term}
use Rattle.linear_forms.specs.Form.{Monomial, monomial, Form, form, floor, divisor, divided, tightened}
use Rattle.linear_forms.specs.View.{part, parts, linear}
use Rattle.linear_forms.specs.Places.{nothing}
use Rattle.linear_forms.specs.declared.form.Part.{Part}
use Rattle.logic_terms.specs.declared.syntax.Term.{Term}
use Rattle.linear_forms.specs.declared.form.LinearForm.{LinearForm}
use Rattle.linear_forms.proofs.Placing.{at_part, as_many}
use Rattle.linear_forms.proofs.Divisors.{taken_next}

abbrev pub lessened : ℕ → List Monomial → List Monomial
lessened g ms = map (λ m. monomial (floor m.coefficient g) m.variable) ms

lessened_more : (ps qs new : List Part) (i g : ℕ) (p q : Part) → i < length ps → p ≡ get_or ps i p → parts qs ≡ lessened g (take i (parts ps)) → new ≡ qs ++ q ∷ [] → part q ≡ monomial (floor p.coefficient g) (term p.variable) → parts new ≡ lessened g (take (suc i) (parts ps))
lessened_more ps qs new i g p q h e f k d =
    ap parts k ∙ map-append part qs (q ∷ []) ∙ ap₂ (λ (xs : List Monomial) (x : Monomial). xs ++ x ∷ []) f d
    ∙ sym (ap (lessened g) (taken_next (parts ps) i nothing (rw (as_many ps) h) ∙ ap (λ (m : Monomial). take i (parts ps) ++ m ∷ []) (at_part ps i p h e))
    ∙ map-append (λ (m : Monomial). monomial (floor m.coefficient g) m.variable) (take i (parts ps)) (part p ∷ []))

pub divided_more : (ps qs new : List Part) (i g : ℕ) (p q : Part) → i < length ps → p ≡ get_or ps i p → parts qs ≡ lessened g (take i (parts ps)) → new ≡ qs ++ q ∷ [] → q.coefficient ≡ floor p.coefficient g → q.variable ≡ p.variable → parts new ≡ lessened g (take (i + 1) (parts ps))
divided_more ps qs new i g p q h e f k d v =
    rw add-one (lessened_more ps qs new i g p q h e f k (ap₂ (λ (z : ℤ) (t : Term). monomial z (term t)) d v))

floor_one : (z : ℤ) → floor z 1 ≡ z
floor_one (pos a) = ap pos (over_one a)
  where
    over_one : (n : ℕ) → n / 1 ≡ n
    over_one n = grind arith
floor_one (negsuc a) = ap negsuc (over_one a)
  where
    over_one : (n : ℕ) → n / 1 ≡ n
    over_one n = grind arith

lessened_one : (ms : List Monomial) → lessened 1 ms ≡ ms
lessened_one [] = refl
lessened_one (m ∷ ms) =
    ap₂ (λ (x : Monomial) (xs : List Monomial). x ∷ xs) (ap (λ (z : ℤ). monomial z m.variable) (floor_one m.coefficient)) (lessened_one ms)

same_divided : (f : Form) (d g : ℕ) → g ≡ max d 1 → form (floor f.constant g) (lessened g f.monomials) ≡ divided d f
same_divided f zero g e =
    ap (λ (n : ℕ). form (floor f.constant n) (lessened n f.monomials)) e
    ∙ ap₂ (λ (z : ℤ) (ms : List Monomial). form z ms) (floor_one f.constant) (lessened_one f.monomials)
same_divided f (suc d) g e =
    let more : g ≡ suc d = omega arith in
    ap (λ (n : ℕ). form (floor f.constant n) (lessened n f.monomials)) more

pub divided_end : (a : LinearForm) (qs : List Part) (i d g : ℕ) (c : ℤ) → length a.parts ≤ i → parts qs ≡ lessened g (take i (parts a.parts)) → d ≡ divisor (parts a.parts) → g ≡ max d 1 → c ≡ floor a.constant g → form c (parts qs) ≡ tightened (linear a)
divided_end a qs i d g c h e f k l =
    ap₂ (λ (z : ℤ) (ms : List Monomial). form z ms) l (e ∙ ap (lessened g) (take_all i (parts a.parts) (rw (as_many a.parts) h)))
    ∙ same_divided (linear a) d g k
    ∙ ap (λ (n : ℕ). divided n (linear a)) f
