-- What the steps of gathering monomials do.
use Rattle.std.specs.Prelude.{◌≡◌, ℕ, suc, ◌<◌, ◌≤◌, true, ℤ, pos, ◌+ℤ◌, List, ◌++◌, length, take, drop, slice_index_or, Result, MatchResult}
use Rattle.logic_terms.specs.Node.{Node, num}
use Rattle.linear_forms.specs.Form.{Monomial, monomial, kept, with_monomial, gathered}
use Rattle.linear_forms.specs.Fits.{fits, raised, gathering_fits}
use Rattle.linear_forms.specs.View.{IsFault}
use Rattle.linear_forms.specs.declared.fault.FormFault.{FormFault}
use Rattle.linear_forms.specs.declared.place.Place.{Place}
use Rattle.linear_forms.specs.declared.place.Place.TheVariants.{At, Before}

abbrev pub nothing : Monomial
nothing = monomial (pos 0) (num (pos 0))

abbrev pub at : List Monomial → ℕ → Monomial
at ms i = slice_index_or ms i nothing

-- the monomials with c added at an index, without the monomial where that gives 0
abbrev pub raised_at : List Monomial → ℕ → ℤ → List Monomial
raised_at ms i c = take i ms ++ kept ((at ms i).coefficient +ℤ c) (at ms i).variable (drop (suc i) ms)

-- whatever is added to the variable v, it is added there
abbrev pub IsPlace : Node → List Monomial → Place → Type 0
IsPlace v ms (At i) =
    (i < length ms) × ((c : ℤ) → with_monomial c v ms ≡ raised_at ms i c) × ((c : ℤ) → raised c v ms ≡ (at ms i).coefficient +ℤ c)
IsPlace v ms (Before i) =
    (i ≤ length ms) × ((c : ℤ) → with_monomial c v ms ≡ take i ms ++ kept c v (drop i ms)) × ((c : ℤ) → raised c v ms ≡ c)

abbrev pub Raises : List Monomial → ℕ → ℤ → List Monomial → Result Unit FormFault → Type 0
Raises old i c new r =
    MatchResult r (λ _. (new ≡ raised_at old i c) × (fits ((at old i).coefficient +ℤ c) ≡ true)) (IsFault (fits ((at old i).coefficient +ℤ c)))

abbrev pub Adds : ℤ → Node → List Monomial → List Monomial → Result Unit FormFault → Type 0
Adds c v old new r = MatchResult r (λ _. (new ≡ with_monomial c v old) × (fits (raised c v old) ≡ true)) (IsFault (fits (raised c v old)))

abbrev pub Gathers : List Monomial → List Monomial → List Monomial → Result Unit FormFault → Type 0
Gathers more old new r = MatchResult r (λ _. (new ≡ gathered more old) × (gathering_fits more old ≡ true)) (IsFault (gathering_fits more old))
