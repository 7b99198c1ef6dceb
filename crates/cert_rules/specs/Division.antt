-- What a quotient and remainders by a number are (rule C12; Ada RM 4.5.5).
use Rattle.std.specs.Prelude.{Bool, ℤ, pos, ◌-ℤ◌, ◌+ℤ◌, int_lt, unsigned_abs, List, [], ◌∷◌, if◌then◌else◌}
use Rattle.logic_terms.specs.Node.{arith, add, mul, quo, rem, mod_by, le, eq, Node, num, op2}
use Rattle.logic_terms.specs.Binding.{negated}

-- q, r and m are the quotient, the remainder and the modulus of a by d, and w is the absolute value of d
module _ (a : Node) (d : ℤ) where
  abbrev pub quotient_of : Node
  quotient_of = op2 (arith quo) a (num d)

  abbrev pub remainder_of : Node
  remainder_of = op2 (arith rem) a (num d)

  abbrev pub modulus_of : Node
  modulus_of = op2 (arith mod_by) a (num d)

  abbrev pub width : ℤ
  width = pos (unsigned_abs d)

  abbrev pub is_positive : Bool
  is_positive = int_lt (pos 0) d

  abbrev pub dividend_at_least_0 : Node
  dividend_at_least_0 = op2 le (num (pos 0)) a

  -- the clauses by the numbers of the parts
  abbrev pub division_facts : List (List Node)
  division_facts =
      (op2 eq a (op2 (arith add) (op2 (arith mul) (num d) quotient_of) remainder_of) ∷ [])
      ∷ (negated dividend_at_least_0 ∷ op2 le (num (pos 0)) remainder_of ∷ [])
      ∷ (negated dividend_at_least_0 ∷ op2 le remainder_of (num (width -ℤ pos 1)) ∷ [])
      ∷ (dividend_at_least_0 ∷ op2 le remainder_of (num (pos 0)) ∷ [])
      ∷ (dividend_at_least_0 ∷ op2 le (num (pos 1 -ℤ width)) remainder_of ∷ [])
      ∷ ((if is_positive then op2 le (num (pos 0)) modulus_of else op2 le modulus_of (num (pos 0))) ∷ [])
      ∷ ((if is_positive then op2 le modulus_of (num (d -ℤ pos 1)) else op2 le (num (d +ℤ pos 1)) modulus_of) ∷ [])
      ∷ (op2 eq modulus_of remainder_of ∷ op2 eq modulus_of (op2 (arith add) remainder_of (num d)) ∷ []) ∷ []
