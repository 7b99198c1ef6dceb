-- Whether all numbers on the way to a form lie in 128 bits: the constants and coefficients of the forms that are combined,
-- their products, and each sum as the monomials are gathered in order.
use Rattle.std.specs.Prelude.{Bool, true, ◌&&◌, ℤ, pos, negsuc, ◌+ℤ◌, ◌*ℤ◌, List, [], ◌∷◌, if◌then◌else◌}
use Rattle.logic_terms.specs.Node.{add, sub, mul, arith, Node, num, op2}
use Rattle.logic_terms.specs.Run.{is_narrow}
use Rattle.logic_terms.specs.Same.{same_node}
use Rattle.logic_terms.specs.Text.{precedes}
use Rattle.linear_forms.specs.Form.{Monomial, Form, with_monomial, gathered, scaled, products, form_of_node}

-- -2 ** 127 to 2 ** 127 - 1
abbrev pub fits : ℤ → Bool
fits z = is_narrow z

-- the coefficient of v once c times v is added
abbrev pub raised : ℤ → Node → List Monomial → ℤ
raised c v [] = c
raised c v (m ∷ ms) = if same_node v m.variable then m.coefficient +ℤ c else if precedes v m.variable then c else raised c v ms

abbrev pub gathering_fits : List Monomial → List Monomial → Bool
gathering_fits [] ms = true
gathering_fits (n ∷ ns) ms =
    fits n.coefficient && (fits (raised n.coefficient n.variable ms) && gathering_fits ns (with_monomial n.coefficient n.variable ms))

abbrev pub combining_fits : ℤ → Form → ℤ → Form → Bool
combining_fits m a n b =
    (fits (m *ℤ a.constant) && (fits (n *ℤ b.constant) && fits (m *ℤ a.constant +ℤ n *ℤ b.constant)))
    && (gathering_fits (scaled m a.monomials) [] && gathering_fits (scaled n b.monomials) (gathered (scaled m a.monomials) []))

abbrev pub multiplying_fits : Form → Form → Bool
multiplying_fits a b =
    fits (a.constant *ℤ b.constant)
    && (gathering_fits (scaled a.constant b.monomials) []
    && (gathering_fits (scaled b.constant a.monomials) (gathered (scaled a.constant b.monomials) [])
    && gathering_fits (products a.monomials b.monomials) (gathered (scaled b.constant a.monomials) (gathered (scaled a.constant b.monomials) []))))

abbrev pub node_fits : Node → Bool
node_fits (num n) = fits n
node_fits (op2 (arith add) a b) = node_fits a && (node_fits b && combining_fits (pos 1) (form_of_node a) (pos 1) (form_of_node b))
node_fits (op2 (arith sub) a b) = node_fits a && (node_fits b && combining_fits (pos 1) (form_of_node a) (negsuc 0) (form_of_node b))
node_fits (op2 (arith mul) a b) = node_fits a && (node_fits b && multiplying_fits (form_of_node a) (form_of_node b))
node_fits v = true
