-- The test of two formulas, and the search for an equal one.
use Rattle.std.proofs.Common.{◌≡◌, ℕ, zero, suc, ◌+◌, ◌<◌, refl, ap, sym, ◌∙◌, Bool, true, false, List, [], ◌∷◌, map, drop, get_or, length, arith}
use Rattle.std.specs.Prelude.{◌||◌}
use Rattle.logic_terms.specs.View.{formula}
use Rattle.logic_terms.specs.Same.{same_node}
use Rattle.logic_terms.specs.declared.syntax.Formula.{Formula}
use Rattle.form_prover.specs.Given.{some_equals}

-- what is left to search after so many
abbrev pub left_equals : List Formula → Formula → Bool
left_equals fs f = some_equals (map formula fs) (formula f)

pub found_equal : (fs : List Formula) (f : Formula) (k : ℕ) (g : Formula) → k < length fs → left_equals (drop k fs) f ≡ (same_node (formula (get_or fs k g)) (formula f) || left_equals (drop (suc k) fs) f)
found_equal [] f k g h = absurd (omega arith)
found_equal (e ∷ fs) f zero g h = refl
found_equal (e ∷ fs) f (suc k) g h = found_equal fs f k g (omega arith)

-- the element at k is a formula, which is tested
at_place : (fs : List Formula) (f : Formula) (k : ℕ) (g : Formula) (r : Bool) → k < length fs → g ≡ get_or fs k g → r ≡ same_node (formula g) (formula f)
    → left_equals (drop k fs) f ≡ (r || left_equals (drop (suc k) fs) f)
at_place fs f k g r h e t =
    found_equal fs f k g h
    ∙ ap (λ (x : Formula). same_node (formula x) (formula f) || left_equals (drop (suc k) fs) f) (sym e)
    ∙ ap (λ (b : Bool). b || left_equals (drop (suc k) fs) f) (sym t)

pub stop_here : (fs items : List Formula) (f : Formula) (k : ℕ) (g : Formula) (r : Bool) → items ≡ fs → k < length items → g ≡ get_or items k g
    → r ≡ same_node (formula g) (formula f) → left_equals fs f ≡ left_equals (drop k fs) f → r ≡ true → true ≡ left_equals fs f
stop_here fs items f k g r s h e t i y =
    let d = at_place items f k g r h e t in
    let c = ap (λ (xs : List Formula). left_equals (drop k xs) f) s in
    let u = ap (λ (b : Bool). b || left_equals (drop (suc k) items) f) y in
    sym (i ∙ sym c ∙ d ∙ u)

pub go_on : (fs items : List Formula) (f : Formula) (k : ℕ) (g : Formula) (r : Bool) → items ≡ fs → k < length items → g ≡ get_or items k g
    → r ≡ same_node (formula g) (formula f) → left_equals fs f ≡ left_equals (drop k fs) f → r ≡ false → left_equals fs f ≡ left_equals (drop (k + 1) fs) f
go_on fs items f k g r s h e t i y =
    let d = at_place items f k g r h e t in
    let c = ap (λ (xs : List Formula). left_equals (drop k xs) f) s in
    let u = ap (λ (b : Bool). b || left_equals (drop (suc k) items) f) y in
    let v = ap (λ (xs : List Formula). left_equals (drop (suc k) xs) f) s in
    let w : suc k ≡ k + 1 = omega arith in
    i ∙ sym c ∙ d ∙ u ∙ v ∙ ap (λ (j : ℕ). left_equals (drop j fs) f) w
