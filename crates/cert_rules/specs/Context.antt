-- What stands before a line: the goal, the new symbols, and the clauses of the earlier lines.
use Rattle.std.specs.Prelude.{ℕ, Bool, true, ◌&&◌, List, [], ◌∷◌, length, ◌+◌, Option}
use Rattle.logic_terms.specs.Node.{Node}
use Rattle.logic_terms.specs.Value.{Kind}
use Rattle.logic_terms.specs.Sorting.{Signature, Problem, node_kind}
use Rattle.cert_lines.specs.Symbols.{with_new, is_some_numbers, is_some_truths}

pub record Context : Type 0 where
  pub goal : Problem
  pub fresh : ℕ
  pub earlier : List (List Node)

abbrev pub start : Problem → Context
start g = record { goal = g; fresh = 0; earlier = [] }

abbrev pub signature : Context → Signature
signature c = with_new c.goal.signature c.fresh

-- the number of the next new symbol
abbrev pub next_symbol : Context → ℕ
next_symbol c = length c.goal.signature.symbols + c.fresh

-- the kind of a closed node, None where it is not closed and well sorted
abbrev pub kind_in : Context → Node → Option Kind
kind_in c p = node_kind (signature c) [] p

abbrev pub is_number : Context → Node → Bool
is_number c t = is_some_numbers (kind_in c t)

abbrev pub is_formula : Context → Node → Bool
is_formula c p = is_some_truths (kind_in c p)

abbrev pub all_formulas : Context → List Node → Bool
all_formulas c [] = true
all_formulas c (p ∷ ps) = is_formula c p && all_formulas c ps
