-- What connectives, choices and numbers say of their parts (rules C1, C2, C5, C13 and C14).
use Rattle.std.specs.Prelude.{ℕ, zero, suc, pos, List, [], ◌∷◌, if◌then◌else◌}
use Rattle.logic_terms.specs.Node.{bit, tru, arith, add, mul, le, eq, conj, disj, iff, ite, Node, num, op1, op2, op3}
use Rattle.logic_terms.specs.Value.{Kind, Value, as_truth}
use Rattle.logic_terms.specs.Binding.{negated}
use Rattle.logic_terms.specs.Run.{Outcome, gives, wide, too_long}
use Rattle.cert_rules.specs.Judged.{Judged, yields, refused, too_wide}
use Rattle.cert_rules.specs.Clause.{equals}

-- hypothesis k, or the negated conclusion where k is their number
abbrev pub hypothesis : List Node → Node → ℕ → Judged (List Node)
hypothesis [] p zero = yields (negated p ∷ [])
hypothesis [] p (suc k) = refused
hypothesis (h ∷ hs) p zero = yields (h ∷ [])
hypothesis (h ∷ hs) p (suc k) = hypothesis hs p k

abbrev pub opened_and : Node → Node → Node → List (List Node)
opened_and a p q = (negated a ∷ p ∷ []) ∷ (negated a ∷ q ∷ []) ∷ (a ∷ negated p ∷ negated q ∷ []) ∷ []

abbrev pub opened_or : Node → Node → Node → List (List Node)
opened_or a p q = (a ∷ negated p ∷ []) ∷ (a ∷ negated q ∷ []) ∷ (negated a ∷ p ∷ q ∷ []) ∷ []

abbrev pub opened_iff : Node → Node → Node → List (List Node)
opened_iff a p q =
    (negated a ∷ negated p ∷ q ∷ []) ∷ (negated a ∷ p ∷ negated q ∷ [])
    ∷ (a ∷ p ∷ q ∷ []) ∷ (a ∷ negated p ∷ negated q ∷ []) ∷ []

abbrev pub opened_bit : Node → Node → List (List Node)
opened_bit a p = (negated a ∷ p ∷ []) ∷ (a ∷ negated p ∷ []) ∷ []

-- the clauses of a formula, by the numbers of the parts
abbrev pub opened : Node → List (List Node)
opened (op2 conj p q) = opened_and (op2 conj p q) p q
opened (op2 disj p q) = opened_or (op2 disj p q) p q
opened (op2 iff p q) = opened_iff (op2 iff p q) p q
opened (op1 tru (op1 bit p)) = opened_bit (op1 tru (op1 bit p)) p
opened _ = []

-- a choice is its first side where the condition is true, else the second
abbrev pub sides : Kind → Node → List (List Node)
sides k (op3 ite c a b) = (negated c ∷ equals k (op3 ite c a b) a ∷ []) ∷ (c ∷ equals k (op3 ite c a b) b ∷ []) ∷ []
sides k _ = []

abbrev pub one_more : Node → Node
one_more a = op2 (arith add) a (num (pos 1))

-- two numbers are equal, or one is less
abbrev pub compared : Node → Node → List Node
compared a b = op2 eq a b ∷ op2 le (one_more a) b ∷ op2 le (one_more b) a ∷ []

abbrev pub at_least_0 : Node → Node
at_least_0 t = op2 le (num (pos 0)) t

-- the product of two numbers that are at least 0
abbrev pub multiplied : Node → Node → List Node
multiplied f g = negated (at_least_0 f) ∷ negated (at_least_0 g) ∷ at_least_0 (op2 (arith mul) f g) ∷ []

-- the formula, or its negation, by the truth that is computed
abbrev pub computed : Node → Outcome Value → Judged (List Node)
computed a (gives v n) = yields ((if as_truth v then a else negated a) ∷ [])
computed a wide = too_wide
computed a too_long = refused
