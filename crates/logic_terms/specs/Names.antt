-- Nodes that name no symbol and no call.
use Rattle.std.specs.Prelude.{Bool, true, false, ◌&&◌}
use Rattle.logic_terms.specs.Node.{fields, call, Node, num, flag, sym, bound, op1, op2, op3, opn, quant, Nodes, no_nodes, node}
use Rattle.logic_terms.specs.Binding.{is_closed}

abbrev mutual
  pub names_nothing : Node → Bool
  names_nothing (num n) = true
  names_nothing (flag b) = true
  names_nothing (sym k) = false
  names_nothing (bound k) = true
  names_nothing (op1 o a) = names_nothing a
  names_nothing (op2 o a b) = names_nothing a && names_nothing b
  names_nothing (op3 o a b c) = names_nothing a && (names_nothing b && names_nothing c)
  names_nothing (opn fields ns) = name_nothing ns
  names_nothing (opn (call k) ns) = false
  names_nothing (quant q l h p) = names_nothing l && (names_nothing h && names_nothing p)

  pub name_nothing : Nodes → Bool
  name_nothing no_nodes = true
  name_nothing (node a ns) = names_nothing a && name_nothing ns

-- no symbol, no call and no free variable, so that the value is the same in each world
abbrev pub is_constant : Node → Bool
is_constant p = names_nothing p && is_closed p
