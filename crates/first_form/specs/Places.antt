-- Which parameter a name is, and where a name stands that is none.
use Rattle.std.specs.Prelude.{ℕ, Bool, false, Option, Some, None, List, [], ◌∷◌, is_none, option_map, if◌then◌else◌, position, find}
use Rattle.std.specs.List.{flat_map}
use Rattle.ada_values.specs.declared.place.Place.{Place}
use Rattle.first_form.specs.declared.form.FirstForm.{FirstForm}
use Rattle.first_form.specs.declared.form.Assertion.{Assertion}
use Rattle.first_form.specs.declared.form.Placed.{Placed}
use Rattle.first_form.specs.declared.form.Operand.{Operand}
use Rattle.first_form.specs.declared.form.Operand.TheVariants.{Number, Name}
use Rattle.first_form.specs.Names.{same_name}

-- the first parameter of this name
abbrev pub position_of : List (List ℕ) → List ℕ → Option ℕ
position_of params name = position (λ p. same_name p name) params

-- a name that is no parameter
abbrev pub is_unknown : List (List ℕ) → Operand → Bool
is_unknown params (Number n) = false
is_unknown params (Name x) = is_none (position_of params x)

abbrev pub operands_in : Assertion → List Placed
operands_in a = a.left ∷ a.right ∷ []

-- all operands, in the order of the text
abbrev pub operands_of : FirstForm → List Placed
operands_of f = flat_map operands_in f.assertions

-- the line and the column of the first operand in the text that is a name and no parameter
abbrev pub first_unknown : FirstForm → Option (ℕ × ℕ)
first_unknown f = option_map (λ o. (o.place.line, o.place.column)) (find (λ o. is_unknown f.params o.operand) (operands_of f))

-- the place of the first such operand of an assertion
abbrev pub unknown_in : List (List ℕ) → Assertion → Option Place
unknown_in params a =
    if is_unknown params a.left.operand then Some a.left.place
    else (if is_unknown params a.right.operand then Some a.right.place else None)
