-- Negation, substitution and free variables.
use Rattle.std.specs.Prelude.{ℕ, suc, Bool, true, ◌&&◌, nat_lt, ◌==◌, if◌then◌else◌}
use Rattle.logic_terms.specs.Node.{Op1, neg, Node, num, flag, sym, bound, op1, op2, op3, opn, quant, Nodes, no_nodes, node}

-- p without its `not`, else `not p`
abbrev pub negated_by : Op1 → Node → Node
negated_by neg p = p
negated_by o p = op1 neg (op1 o p)

abbrev pub negated : Node → Node
negated (op1 o p) = negated_by o p
negated p = op1 neg p

-- t in place of the variable with the number d, which counts up below each quantifier
abbrev mutual
  pub put : Node → ℕ → Node → Node
  put t d (num n) = num n
  put t d (flag b) = flag b
  put t d (sym k) = sym k
  put t d (bound k) = if k == d then t else bound k
  put t d (op1 o a) = op1 o (put t d a)
  put t d (op2 o a b) = op2 o (put t d a) (put t d b)
  put t d (op3 o a b c) = op3 o (put t d a) (put t d b) (put t d c)
  put t d (opn o ns) = opn o (puts t d ns)
  put t d (quant q l h p) = quant q (put t d l) (put t d h) (put t (suc d) p)

  pub puts : Node → ℕ → Nodes → Nodes
  puts t d no_nodes = no_nodes
  puts t d (node a ns) = node (put t d a) (puts t d ns)

-- each variable has a number below d, which counts up below each quantifier
abbrev mutual
  pub is_bound_below : ℕ → Node → Bool
  is_bound_below d (num n) = true
  is_bound_below d (flag b) = true
  is_bound_below d (sym k) = true
  is_bound_below d (bound k) = nat_lt k d
  is_bound_below d (op1 o a) = is_bound_below d a
  is_bound_below d (op2 o a b) = is_bound_below d a && is_bound_below d b
  is_bound_below d (op3 o a b c) = is_bound_below d a && (is_bound_below d b && is_bound_below d c)
  is_bound_below d (opn o ns) = are_bound_below d ns
  is_bound_below d (quant q l h p) = is_bound_below d l && (is_bound_below d h && is_bound_below (suc d) p)

  pub are_bound_below : ℕ → Nodes → Bool
  are_bound_below d no_nodes = true
  are_bound_below d (node a ns) = is_bound_below d a && are_bound_below d ns

abbrev pub is_closed : Node → Bool
is_closed p = is_bound_below 0 p
