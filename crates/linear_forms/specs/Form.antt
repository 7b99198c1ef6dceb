-- Linear forms over the whole numbers, and the form of a term.
use Rattle.std.specs.Prelude.{ℕ, zero, suc, Bool, true, ◌&&◌, ◌+◌, ◌/◌, ◌%◌, ◌==◌, ℤ, pos, negsuc, ◌+ℤ◌, ◌*ℤ◌, unsigned_abs, List, [], ◌∷◌, ◌++◌, map, if◌then◌else◌}
use Rattle.logic_terms.specs.Node.{add, sub, mul, arith, Node, num, op2}
use Rattle.logic_terms.specs.Value.{Value, as_number, same_int}
use Rattle.logic_terms.specs.Meaning.{World, meaning}
use Rattle.logic_terms.specs.Same.{same_node}
use Rattle.logic_terms.specs.Text.{precedes}

-- a coefficient times a variable, which may be any term that is no sum and no number
pub record Monomial : Type 0 where
  pub coefficient : ℤ
  pub variable : Node

-- a constant plus monomials; as a statement, that the value is at least 0
pub record Form : Type 0 where
  pub constant : ℤ
  pub monomials : List Monomial

abbrev pub monomial : ℤ → Node → Monomial
monomial c v = record { coefficient = c; variable = v }

abbrev pub form : ℤ → List Monomial → Form
form c ms = record { constant = c; monomials = ms }

-- ---- values

-- the sum of monomials, where the variables' values are given
abbrev pub sum_at : (Node → ℤ) → List Monomial → ℤ
sum_at value_of [] = pos 0
sum_at value_of (m ∷ ms) = m.coefficient *ℤ value_of m.variable +ℤ sum_at value_of ms

abbrev pub monomials_value : World → List Value → List Monomial → ℤ
monomials_value w vs ms = sum_at (λ v. as_number (meaning w vs v)) ms

abbrev pub form_value : World → List Value → Form → ℤ
form_value w vs f = f.constant +ℤ monomials_value w vs f.monomials

-- ---- sums

-- no monomial has the coefficient 0
abbrev pub kept : ℤ → Node → List Monomial → List Monomial
kept c v ms = if same_int c (pos 0) then ms else monomial c v ∷ ms

-- c times v added, where the variables stand in the order of their texts
abbrev pub with_monomial : ℤ → Node → List Monomial → List Monomial
with_monomial c v [] = kept c v []
with_monomial c v (m ∷ ms) =
    if same_node v m.variable then kept (m.coefficient +ℤ c) m.variable ms
    else if precedes v m.variable then kept c v (m ∷ ms)
    else m ∷ with_monomial c v ms

-- monomials in any order added to those in order
abbrev pub gathered : List Monomial → List Monomial → List Monomial
gathered [] ms = ms
gathered (n ∷ ns) ms = gathered ns (with_monomial n.coefficient n.variable ms)

abbrev pub scaled : ℤ → List Monomial → List Monomial
scaled c ms = map (λ m. monomial (c *ℤ m.coefficient) m.variable) ms

-- m times one form plus n times another
abbrev pub combined : ℤ → Form → ℤ → Form → Form
combined m a n b =
    form (m *ℤ a.constant +ℤ n *ℤ b.constant) (gathered (scaled n b.monomials) (gathered (scaled m a.monomials) []))

-- ---- products

-- the variable for the product of two variables
abbrev pub product_variable : Node → Node → Node
product_variable u v = if precedes v u then op2 (arith mul) v u else op2 (arith mul) u v

-- one monomial times others
abbrev pub multiples : Monomial → List Monomial → List Monomial
multiples m ns = map (λ n. monomial (m.coefficient *ℤ n.coefficient) (product_variable m.variable n.variable)) ns

abbrev pub products : List Monomial → List Monomial → List Monomial
products [] ns = []
products (m ∷ ms) ns = multiples m ns ++ products ms ns

-- two forms multiplied out
abbrev pub multiplied : Form → Form → Form
multiplied a b =
    form (a.constant *ℤ b.constant)
    (gathered (products a.monomials b.monomials)
    (gathered (scaled b.constant a.monomials) (gathered (scaled a.constant b.monomials) [])))

-- ---- terms

-- numbers, sums, differences and products are taken apart; any other term is a variable
abbrev pub form_of_node : Node → Form
form_of_node (num n) = form n []
form_of_node (op2 (arith add) a b) = combined (pos 1) (form_of_node a) (pos 1) (form_of_node b)
form_of_node (op2 (arith sub) a b) = combined (pos 1) (form_of_node a) (negsuc 0) (form_of_node b)
form_of_node (op2 (arith mul) a b) = multiplied (form_of_node a) (form_of_node b)
form_of_node v = form (pos 0) (monomial (pos 1) v ∷ [])

-- ---- tightening

-- the greatest whole number that is at most z divided by g
abbrev pub floor : ℤ → ℕ → ℤ
floor (pos a) g = pos (a / g)
floor (negsuc a) g = negsuc (a / g)

abbrev pub divides_all : ℕ → List Monomial → Bool
divides_all d [] = true
divides_all d (m ∷ ms) = unsigned_abs m.coefficient % d == 0 && divides_all d ms

-- the greatest number from 1 to n that divides all coefficients, else 0
abbrev pub greatest_to : ℕ → List Monomial → ℕ
greatest_to zero ms = 0
greatest_to (suc n) ms = if divides_all (suc n) ms then suc n else greatest_to n ms

abbrev pub total : List Monomial → ℕ
total [] = 0
total (m ∷ ms) = unsigned_abs m.coefficient + total ms

-- the greatest common divisor of the coefficients, 0 where all are 0
abbrev pub divisor : List Monomial → ℕ
divisor ms = greatest_to (total ms) ms

abbrev pub divided : ℕ → Form → Form
divided zero f = f
divided g f = form (floor f.constant g) (map (λ m. monomial (floor m.coefficient g) m.variable) f.monomials)

-- the coefficients divided by their greatest common divisor, and the constant divided by it and rounded down; a constant stays
abbrev pub tightened : Form → Form
tightened f = divided (divisor f.monomials) f
