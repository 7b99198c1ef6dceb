-- A small goal, and what stands before the lines that are judged by hand.
use Rattle.std.specs.Prelude.{ℕ, pos, negsuc, [], ◌∷◌}
use Rattle.logic_terms.specs.Node.{tru, neg, arith, add, mul, le, eq, conj, all, any, Node, num, sym, op1, op2, quant}
use Rattle.logic_terms.specs.Value.{numbers, truths}
use Rattle.logic_terms.specs.Sorting.{Problem}
use Rattle.cert_rules.specs.Context.{Context}

-- two numbers of the goal, a truth value of the goal, the new symbol that was made before, and one that is not made yet

abbrev pub x : Node
x = sym 0

abbrev pub y : Node
y = sym 1

abbrev pub set : Node
set = op1 tru (sym 2)

abbrev pub made : Node
made = sym 3

abbrev pub unmade : Node
unmade = sym 4

abbrev pub number : ℕ → Node
number n = num (pos n)

abbrev pub at_most : Node → Node → Node
at_most a b = op2 le a b

abbrev pub equal : Node → Node → Node
equal a b = op2 eq a b

abbrev pub opposite : Node → Node
opposite p = op1 neg p

abbrev pub plus : Node → Node → Node
plus a b = op2 (arith add) a b

abbrev pub product_of : Node → Node → Node
product_of a b = op2 (arith mul) a b

-- for all, or for some, numbers from 0 to 9
abbrev pub each_digit : Node → Node
each_digit p = quant all (number 0) (number 9) p

abbrev pub some_digit : Node → Node
some_digit p = quant any (number 0) (number 9) p

-- from x <= y and a truth value: y <= x doesn't hold
abbrev pub small_goal : Problem
small_goal = record {
  signature = record { symbols = numbers ∷ numbers ∷ truths ∷ []; calls = [] };
  hypotheses = at_most x y ∷ set ∷ [];
  conclusion = opposite (at_most y x);
}

abbrev pub small : Context
small = record {
  goal = small_goal;
  fresh = 1;
  earlier =
      (at_most x y ∷ []) ∷ (opposite (at_most x y) ∷ set ∷ []) ∷ (opposite set ∷ at_most y x ∷ [])
      ∷ (set ∷ set ∷ []) ∷ [];
}

-- x <= y, so x <= y + 1
abbrev pub weaker_goal : Problem
weaker_goal = record {
  signature = record { symbols = numbers ∷ numbers ∷ []; calls = [] };
  hypotheses = at_most x y ∷ [];
  conclusion = at_most x (plus y (number 1));
}

-- Two 32 bit numbers that are equal are equal. Its certificate has three lines.

abbrev pub in_32_bits : Node → Node
in_32_bits t = op2 conj (op2 le (num (negsuc 2147483647)) t) (op2 le t (number 2147483647))

abbrev pub equal_goal : Problem
equal_goal = record {
  signature = record { symbols = numbers ∷ numbers ∷ []; calls = [] };
  hypotheses = in_32_bits x ∷ in_32_bits y ∷ equal x y ∷ [];
  conclusion = equal x y;
}
