-- How many quantifiers around a node bind all its variables.
use Rattle.std.specs.Prelude.{ℕ, suc, ◌-◌, max}
use Rattle.logic_terms.specs.Node.{Node, num, flag, sym, bound, op1, op2, op3, opn, quant, Nodes, no_nodes, node}

abbrev mutual
  pub levels : Node → ℕ
  levels (num n) = 0
  levels (flag b) = 0
  levels (sym k) = 0
  levels (bound k) = suc k
  levels (op1 o a) = levels a
  levels (op2 o a b) = max (levels a) (levels b)
  levels (op3 o a b c) = max (levels a) (max (levels b) (levels c))
  levels (opn o ns) = levels_of ns
  levels (quant q l h p) = max (levels l) (max (levels h) (levels p - 1))

  pub levels_of : Nodes → ℕ
  levels_of no_nodes = 0
  levels_of (node a ns) = max (levels a) (levels_of ns)
