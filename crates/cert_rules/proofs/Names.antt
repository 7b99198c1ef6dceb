-- Nodes that name only symbols below a number, and a world with another value for one symbol.
use Rattle.std.specs.Prelude.{ℕ, Bool, true, ◌&&◌, nat_lt, ◌==◌, List, [], ◌∷◌, if◌then◌else◌}
use Rattle.logic_terms.specs.Node.{Node, num, flag, sym, bound, op1, op2, op3, opn, quant, Nodes, no_nodes, node}
use Rattle.logic_terms.specs.Value.{Value}
use Rattle.logic_terms.specs.Meaning.{World}

abbrev mutual
  pub names_below : ℕ → Node → Bool
  names_below d (num n) = true
  names_below d (flag b) = true
  names_below d (sym k) = nat_lt k d
  names_below d (bound k) = true
  names_below d (op1 o a) = names_below d a
  names_below d (op2 o a b) = names_below d a && names_below d b
  names_below d (op3 o a b c) = names_below d a && (names_below d b && names_below d c)
  names_below d (opn o ns) = all_names_below d ns
  names_below d (quant q l h p) = names_below d l && (names_below d h && names_below d p)

  pub all_names_below : ℕ → Nodes → Bool
  all_names_below d no_nodes = true
  all_names_below d (node a ns) = names_below d a && all_names_below d ns

-- each literal of a clause
abbrev pub clause_below : ℕ → List Node → Bool
clause_below d [] = true
clause_below d (p ∷ ps) = names_below d p && clause_below d ps

-- the world in which the symbol k is v
abbrev pub with_symbol : World → ℕ → Value → World
with_symbol w k v = record { symbol = λ n. if n == k then v else w.symbol n; call = w.call }
