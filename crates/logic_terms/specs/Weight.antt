-- How many nodes a node has: those inside it have fewer.
use Rattle.std.specs.Prelude.{ℕ, suc, ◌+◌}
use Rattle.logic_terms.specs.Node.{Node, num, flag, sym, bound, op1, op2, op3, opn, quant, Nodes, no_nodes, node}

abbrev mutual
  pub weight : Node → ℕ
  weight (num n) = 1
  weight (flag b) = 1
  weight (sym k) = 1
  weight (bound k) = 1
  weight (op1 o a) = suc (weight a)
  weight (op2 o a b) = suc (weight a + weight b)
  weight (op3 o a b c) = suc (weight a + weight b + weight c)
  weight (opn o ns) = suc (weights ns)
  weight (quant q l h p) = suc (weight l + weight h + weight p)

  pub weights : Nodes → ℕ
  weights no_nodes = 0
  weights (node a ns) = suc (weight a + weights ns)
