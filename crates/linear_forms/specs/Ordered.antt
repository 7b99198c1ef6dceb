-- Forms with one spelling: the variables stand in the order of their texts, each once, and no coefficient is 0.
use Rattle.std.specs.Prelude.{◌≡◌, ◌≢◌, true, ℤ, pos, ◌+ℤ◌, List, [], ◌∷◌, if◌then◌else◌}
use Rattle.logic_terms.specs.Node.{Node}
use Rattle.logic_terms.specs.Same.{same_node}
use Rattle.logic_terms.specs.Text.{precedes}
use Rattle.linear_forms.specs.Form.{Monomial, Form}

-- the text of v is less than those of the variables
abbrev pub PrecedesAll : Node → List Monomial → Type 0
PrecedesAll v [] = Unit {0}
PrecedesAll v (m ∷ ms) = (precedes v m.variable ≡ true) × PrecedesAll v ms

abbrev pub AreOrdered : List Monomial → Type 0
AreOrdered [] = Unit {0}
AreOrdered (m ∷ ms) = (m.coefficient ≢ pos 0) × PrecedesAll m.variable ms × AreOrdered ms

abbrev pub IsOrdered : Form → Type 0
IsOrdered f = AreOrdered f.monomials

-- the coefficient of v in a sum of monomials
abbrev pub coefficient_of : Node → List Monomial → ℤ
coefficient_of v [] = pos 0
coefficient_of v (m ∷ ms) = (if same_node v m.variable then m.coefficient else pos 0) +ℤ coefficient_of v ms
