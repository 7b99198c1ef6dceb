-- The form that a `LinearForm` is, and what the calls answer.
use Rattle.std.specs.Prelude.{◌≡◌, Bool, true, false, ℤ, List, map, Option, Some, None, Result, Ok, Err, MatchResult}
use Rattle.logic_terms.specs.View.{term}
use Rattle.linear_forms.specs.Form.{Monomial, monomial, Form, form}
use Rattle.linear_forms.specs.declared.form.LinearForm.{LinearForm}
use Rattle.linear_forms.specs.declared.form.Part.{Part}
use Rattle.linear_forms.specs.declared.fault.FormFault.{FormFault}
use Rattle.linear_forms.specs.declared.fault.FormFault.TheVariants.{Wide, Starved}

abbrev pub part : Part → Monomial
part p = monomial p.coefficient (term p.variable)

abbrev pub parts : List Part → List Monomial
parts ps = map part ps

abbrev pub linear : LinearForm → Form
linear f = form f.constant (parts f.parts)

-- a number leaves 128 bits; memory may run out anywhere
abbrev pub IsFault : Bool → FormFault → Type 0
IsFault fits Wide = fits ≡ false
IsFault fits Starved = Unit {0}

-- the form, where all numbers on the way fit
abbrev pub Makes : Form → Bool → Result LinearForm FormFault → Type 0
Makes f fits r = MatchResult r (λ x. (linear x ≡ f) × (fits ≡ true)) (IsFault fits)

-- the number, where all numbers on the way fit
abbrev pub MakesNumber : ℤ → Bool → Result ℤ FormFault → Type 0
MakesNumber z fits r = MatchResult r (λ x. (x ≡ z) × (fits ≡ true)) (IsFault fits)

abbrev pub or_wide : Option ℤ → Result ℤ FormFault
or_wide (Some z) = Ok z
or_wide None = Err Wide
