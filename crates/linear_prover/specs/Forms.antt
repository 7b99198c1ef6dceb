-- Questions about forms: coefficients, equality, and the variables of a list of forms.
use Rattle.std.specs.Prelude.{Bool, true, false, ◌&&◌, ◌||◌, ◌/◌, ℤ, pos, unsigned_abs, List, [], ◌∷◌, ◌++◌, if◌then◌else◌}
use Rattle.logic_terms.specs.Node.{Node}
use Rattle.logic_terms.specs.Value.{same_int}
use Rattle.logic_terms.specs.Same.{same_node}
use Rattle.linear_forms.specs.Form.{Monomial, monomial, Form, divisor}

-- the coefficient of v, 0 where it does not stand
abbrev pub coefficient : Node → List Monomial → ℤ
coefficient v [] = pos 0
coefficient v (m ∷ ms) = if same_node v m.variable then m.coefficient else coefficient v ms

abbrev pub is_constant : List Monomial → Bool
is_constant [] = true
is_constant (m ∷ ms) = false

abbrev pub same_monomials : List Monomial → List Monomial → Bool
same_monomials [] [] = true
same_monomials (m ∷ ms) (n ∷ ns) = (same_int m.coefficient n.coefficient && same_node m.variable n.variable) && same_monomials ms ns
same_monomials _ _ = false

abbrev pub same_form : Form → Form → Bool
same_form f g = same_int f.constant g.constant && same_monomials f.monomials g.monomials

abbrev pub stands : Node → List Node → Bool
stands v [] = false
stands v (u ∷ us) = same_node v u || stands v us

-- the variables vs and those of monomials, each once, in the order in which they appear
abbrev pub with_variables : List Monomial → List Node → List Node
with_variables [] vs = vs
with_variables (m ∷ ms) vs = with_variables ms (if stands m.variable vs then vs else vs ++ m.variable ∷ [])

abbrev pub with_all_variables : List Form → List Node → List Node
with_all_variables [] vs = vs
with_all_variables (f ∷ fs) vs = with_all_variables fs (with_variables f.monomials vs)

abbrev pub variables_of : List Form → List Node
variables_of fs = with_all_variables fs []

-- the size of v's coefficient in g, divided by the greatest common divisor of those in f and g: what f is multiplied by
abbrev pub factor : Node → Form → Form → ℤ
factor v f g =
    pos (unsigned_abs (coefficient v g.monomials) / divisor (monomial (coefficient v f.monomials) v ∷ monomial (coefficient v g.monomials) v ∷ []))
