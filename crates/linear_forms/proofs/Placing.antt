-- Where a variable stands among monomials.
use Rattle.std.proofs.Common.{◌≡◌, refl, sym, ◌∙◌, ap, ℕ, zero, suc, ◌+◌, ◌<◌, ◌≤◌, Bool, true, false, List, [], ◌∷◌, ◌++◌, length, take, drop, get_or, arith, add-one}
use Rattle.std.specs.Prelude.{ℤ, ◌+ℤ◌, if◌then◌else◌}
use Rattle.std.proofs.lemmas.List.{get_or-map, length-map}
use Rattle.std.proofs.Math.ListN.{drop_of_length-le}
use Rattle.logic_terms.specs.Node.{Node}
use Rattle.logic_terms.specs.View.{term}
use Rattle.logic_terms.specs.Same.{same_node}
use Rattle.logic_terms.specs.Text.{precedes}
use Rattle.linear_forms.specs.Form.{Monomial, kept, with_monomial}
use Rattle.linear_forms.specs.Fits.{raised}
use Rattle.linear_forms.specs.View.{part, parts}
use Rattle.linear_forms.specs.Places.{at, nothing, IsPlace}
use Rattle.linear_forms.specs.declared.form.Part.{Part}
use Rattle.linear_forms.specs.declared.place.Place.TheVariants.{At, Before}

-- the variable stands at none of the first i, and not before them
pub record Passed (v : Node) (ms : List Monomial) (i : ℕ) : Type 0 where
  pub sums : (c : ℤ) → with_monomial c v ms ≡ take i ms ++ with_monomial c v (drop i ms)
  pub raised_so : (c : ℤ) → raised c v ms ≡ raised c v (drop i ms)

pub passed_start : (v : Node) (ms : List Monomial) → Passed v ms 0
passed_start v ms = record { sums = λ c. refl; raised_so = λ c. refl }

step : (v : Node) (c : ℤ) (m : Monomial) (ms : List Monomial) → same_node v m.variable ≡ false → precedes v m.variable ≡ false → with_monomial c v (m ∷ ms) ≡ m ∷ with_monomial c v ms
step v c m ms e f =
    ap (λ (b : Bool). if b then kept (m.coefficient +ℤ c) m.variable ms else if precedes v m.variable then kept c v (m ∷ ms) else m ∷ with_monomial c v ms) e
    ∙ ap (λ (b : Bool). if b then kept c v (m ∷ ms) else m ∷ with_monomial c v ms) f

step_raised : (v : Node) (c : ℤ) (m : Monomial) (ms : List Monomial) → same_node v m.variable ≡ false → precedes v m.variable ≡ false → raised c v (m ∷ ms) ≡ raised c v ms
step_raised v c m ms e f =
    ap (λ (b : Bool). if b then m.coefficient +ℤ c else if precedes v m.variable then c else raised c v ms) e
    ∙ ap (λ (b : Bool). if b then c else raised c v ms) f

found : (v : Node) (c : ℤ) (m : Monomial) (ms : List Monomial) → same_node v m.variable ≡ true → with_monomial c v (m ∷ ms) ≡ kept (m.coefficient +ℤ c) m.variable ms
found v c m ms e =
    ap (λ (b : Bool). if b then kept (m.coefficient +ℤ c) m.variable ms else if precedes v m.variable then kept c v (m ∷ ms) else m ∷ with_monomial c v ms) e

found_raised : (v : Node) (c : ℤ) (m : Monomial) (ms : List Monomial) → same_node v m.variable ≡ true → raised c v (m ∷ ms) ≡ m.coefficient +ℤ c
found_raised v c m ms e =
    ap (λ (b : Bool). if b then m.coefficient +ℤ c else if precedes v m.variable then c else raised c v ms) e

stops : (v : Node) (c : ℤ) (m : Monomial) (ms : List Monomial) → same_node v m.variable ≡ false → precedes v m.variable ≡ true → with_monomial c v (m ∷ ms) ≡ kept c v (m ∷ ms)
stops v c m ms e f =
    ap (λ (b : Bool). if b then kept (m.coefficient +ℤ c) m.variable ms else if precedes v m.variable then kept c v (m ∷ ms) else m ∷ with_monomial c v ms) e
    ∙ ap (λ (b : Bool). if b then kept c v (m ∷ ms) else m ∷ with_monomial c v ms) f

stops_raised : (v : Node) (c : ℤ) (m : Monomial) (ms : List Monomial) → same_node v m.variable ≡ false → precedes v m.variable ≡ true → raised c v (m ∷ ms) ≡ c
stops_raised v c m ms e f =
    ap (λ (b : Bool). if b then m.coefficient +ℤ c else if precedes v m.variable then c else raised c v ms) e
    ∙ ap (λ (b : Bool). if b then c else raised c v ms) f

taken_more : (ms xs : List Monomial) (i : ℕ) → i < length ms → take i ms ++ (at ms i ∷ xs) ≡ take (suc i) ms ++ xs
taken_more [] xs i h = absurd (omega arith)
taken_more (m ∷ ms) xs zero h = refl
taken_more (m ∷ ms) xs (suc i) h = ap (λ (ys : List Monomial). m ∷ ys) (taken_more ms xs i (omega arith))

drop_here : (ms : List Monomial) (i : ℕ) → i < length ms → drop i ms ≡ at ms i ∷ drop (suc i) ms
drop_here [] i h = absurd (omega arith)
drop_here (m ∷ ms) zero h = refl
drop_here (m ∷ ms) (suc i) h = drop_here ms i (omega arith)

more_of : (v : Node) (ms : List Monomial) (i : ℕ) → i < length ms → same_node v (at ms i).variable ≡ false → precedes v (at ms i).variable ≡ false → Passed v ms i → Passed v ms (suc i)
more_of v ms i h e f p = record {
  sums = λ c. p.sums c
      ∙ ap (λ (x : List Monomial). take i ms ++ with_monomial c v x) (drop_here ms i h)
      ∙ ap (λ (x : List Monomial). take i ms ++ x) (step v c (at ms i) (drop (suc i) ms) e f)
      ∙ taken_more ms (with_monomial c v (drop (suc i) ms)) i h;
  raised_so = λ c. p.raised_so c
      ∙ ap (λ (x : List Monomial). raised c v x) (drop_here ms i h)
      ∙ step_raised v c (at ms i) (drop (suc i) ms) e f;
}

at_of : (v : Node) (ms : List Monomial) (i : ℕ) → i < length ms → same_node v (at ms i).variable ≡ true → Passed v ms i → IsPlace v ms (At i)
at_of v ms i h e p = (
  h,
  λ c. p.sums c
      ∙ ap (λ (x : List Monomial). take i ms ++ with_monomial c v x) (drop_here ms i h)
      ∙ ap (λ (x : List Monomial). take i ms ++ x) (found v c (at ms i) (drop (suc i) ms) e),
  λ c. p.raised_so c
      ∙ ap (λ (x : List Monomial). raised c v x) (drop_here ms i h)
      ∙ found_raised v c (at ms i) (drop (suc i) ms) e,
)

before_of : (v : Node) (ms : List Monomial) (i : ℕ) → i < length ms → same_node v (at ms i).variable ≡ false → precedes v (at ms i).variable ≡ true → Passed v ms i → IsPlace v ms (Before i)
before_of v ms i h e f p = (
  omega arith,
  λ c. p.sums c
      ∙ ap (λ (x : List Monomial). take i ms ++ with_monomial c v x) (drop_here ms i h)
      ∙ ap (λ (x : List Monomial). take i ms ++ x) (stops v c (at ms i) (drop (suc i) ms) e f)
      ∙ ap (λ (x : List Monomial). take i ms ++ kept c v x) (sym (drop_here ms i h)),
  λ c. p.raised_so c
      ∙ ap (λ (x : List Monomial). raised c v x) (drop_here ms i h)
      ∙ stops_raised v c (at ms i) (drop (suc i) ms) e f,
)

end_of : (v : Node) (ms : List Monomial) (i j : ℕ) → length ms ≤ i → j ≡ length ms → i ≤ length ms → Passed v ms i → IsPlace v ms (Before j)
end_of v ms i j h e g p =
    let none : drop i ms ≡ [] = drop_of_length-le ms h in
    let same : i ≡ j = omega arith in (
      omega arith,
      λ c. p.sums c
          ∙ ap (λ (x : List Monomial). take i ms ++ with_monomial c v x) none
          ∙ ap (λ (x : List Monomial). take i ms ++ kept c v x) (sym none)
          ∙ ap (λ (k : ℕ). take k ms ++ kept c v (drop k ms)) same,
      λ c. p.raised_so c ∙ ap (λ (x : List Monomial). raised c v x) none,
    )

-- ---- the same for parts

pub at_part : (ps : List Part) (i : ℕ) (p : Part) → i < length ps → p ≡ get_or ps i p → at (parts ps) i ≡ part p
at_part ps i p h e = get_or-map part ps i p nothing h ∙ ap part (sym e)

pub as_many : (ps : List Part) → length (parts ps) ≡ length ps
as_many ps = length-map ps part

pub place_more : (v : Node) (ps : List Part) (i : ℕ) (p : Part) → i < length ps → p ≡ get_or ps i p → same_node v (term p.variable) ≡ false → precedes v (term p.variable) ≡ false → Passed v (parts ps) i → Passed v (parts ps) (i + 1)
place_more v ps i p h e f g w =
    let m = at_part ps i p h e in
    rw add-one (more_of v (parts ps) i (rw (as_many ps) h) (ap (λ (x : Monomial). same_node v x.variable) m ∙ f) (ap (λ (x : Monomial). precedes v x.variable) m ∙ g) w)

pub place_at : (v : Node) (ps : List Part) (i : ℕ) (p : Part) → i < length ps → p ≡ get_or ps i p → same_node v (term p.variable) ≡ true → Passed v (parts ps) i → IsPlace v (parts ps) (At i)
place_at v ps i p h e f w =
    at_of v (parts ps) i (rw (as_many ps) h) (ap (λ (x : Monomial). same_node v x.variable) (at_part ps i p h e) ∙ f) w

pub place_before : (v : Node) (ps : List Part) (i : ℕ) (p : Part) → i < length ps → p ≡ get_or ps i p → same_node v (term p.variable) ≡ false → precedes v (term p.variable) ≡ true → Passed v (parts ps) i → IsPlace v (parts ps) (Before i)
place_before v ps i p h e f g w =
    let m = at_part ps i p h e in
    before_of v (parts ps) i (rw (as_many ps) h) (ap (λ (x : Monomial). same_node v x.variable) m ∙ f) (ap (λ (x : Monomial). precedes v x.variable) m ∙ g) w

pub place_end : (v : Node) (ps : List Part) (i j : ℕ) → length ps ≤ i → i ≤ length ps → j ≡ length ps → Passed v (parts ps) i → IsPlace v (parts ps) (Before j)
place_end v ps i j h k e w =
    end_of v (parts ps) i j (rw (as_many ps) h) (e ∙ sym (as_many ps)) (rw (as_many ps) k) w
