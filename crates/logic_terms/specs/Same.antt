-- Whether two nodes are the same.
use Rattle.std.specs.Prelude.{ℕ, Bool, true, false, ◌&&◌, ◌==◌}
use Rattle.logic_terms.specs.Node.{Arith, add, sub, mul, quo, rem, mod_by, pow, Op1, bit, tru, neg, fst, lst, fld, Op2, arith, le, eq, conj, disj, iff, sel, upd, Op3, ite, sto, fill, OpN, fields, call, Quant, all, any, Node, num, flag, sym, bound, op1, op2, op3, opn, quant, Nodes, no_nodes, node}
use Rattle.logic_terms.specs.Value.{same_int, same_bool}

-- each operator has a number of its own

abbrev pub arith_number : Arith → ℕ
arith_number add = 0
arith_number sub = 1
arith_number mul = 2
arith_number quo = 3
arith_number rem = 4
arith_number mod_by = 5
arith_number pow = 6

abbrev pub same_op1 : Op1 → Op1 → Bool
same_op1 bit bit = true
same_op1 tru tru = true
same_op1 neg neg = true
same_op1 fst fst = true
same_op1 lst lst = true
same_op1 (fld j) (fld k) = j == k
same_op1 _ _ = false

abbrev pub same_op2 : Op2 → Op2 → Bool
same_op2 (arith a) (arith b) = arith_number a == arith_number b
same_op2 le le = true
same_op2 eq eq = true
same_op2 conj conj = true
same_op2 disj disj = true
same_op2 iff iff = true
same_op2 sel sel = true
same_op2 (upd j) (upd k) = j == k
same_op2 _ _ = false

abbrev pub same_op3 : Op3 → Op3 → Bool
same_op3 ite ite = true
same_op3 sto sto = true
same_op3 fill fill = true
same_op3 _ _ = false

abbrev pub same_opn : OpN → OpN → Bool
same_opn fields fields = true
same_opn (call j) (call k) = j == k
same_opn _ _ = false

abbrev pub same_quant : Quant → Quant → Bool
same_quant all all = true
same_quant any any = true
same_quant _ _ = false

abbrev mutual
  pub same_node : Node → Node → Bool
  same_node (num a) (num b) = same_int a b
  same_node (flag a) (flag b) = same_bool a b
  same_node (sym j) (sym k) = j == k
  same_node (bound j) (bound k) = j == k
  same_node (op1 o a) (op1 q x) = same_op1 o q && same_node a x
  same_node (op2 o a b) (op2 q x y) = same_op2 o q && (same_node a x && same_node b y)
  same_node (op3 o a b c) (op3 q x y z) = same_op3 o q && (same_node a x && (same_node b y && same_node c z))
  same_node (opn o as') (opn q xs) = same_opn o q && same_nodes as' xs
  same_node (quant o a b c) (quant q x y z) = same_quant o q && (same_node a x && (same_node b y && same_node c z))
  same_node _ _ = false

  pub same_nodes : Nodes → Nodes → Bool
  same_nodes no_nodes no_nodes = true
  same_nodes (node a as') (node x xs) = same_node a x && same_nodes as' xs
  same_nodes _ _ = false
