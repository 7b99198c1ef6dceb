-- The nodes of which the code tells the parts, where terms and formulas are of one kind.
use Rattle.logic_terms.specs.Node.{Op1, bit, tru, neg, Op2, Op3, ite, Node, num, flag, sym, bound, op1, op2, op3, opn, quant}
use Rattle.logic_terms.specs.Operators.{unary_of, binary_of, ternary_of, list_of, comparison_of, connective_of, quantifier_of}
use Rattle.logic_terms.specs.View.{term, formula, terms}
use Rattle.logic_terms.specs.declared.node.NodeRef.{NodeRef}
use Rattle.logic_terms.specs.declared.node.Leaf.{Leaf}
use Rattle.logic_terms.specs.declared.node.UnaryNode.{UnaryNode}
use Rattle.logic_terms.specs.declared.node.BinaryNode.{BinaryNode}
use Rattle.logic_terms.specs.declared.node.TernaryNode.{TernaryNode}
use Rattle.logic_terms.specs.declared.node.NodeParts.{NodeParts}

abbrev pub node_of : NodeRef → Node
node_of (NodeRef.Term t) = term t.now
node_of (NodeRef.Formula p) = formula p.now

abbrev pub leaf_of : Leaf → Node
leaf_of (Leaf.Number n) = num n
leaf_of (Leaf.Constant b) = flag b
leaf_of (Leaf.Symbol k) = sym k
leaf_of (Leaf.Bound k) = bound k

abbrev pub op1_of : UnaryNode → Op1
op1_of UnaryNode.Bit = bit
op1_of UnaryNode.Truth = tru
op1_of UnaryNode.Not = neg
op1_of (UnaryNode.Term o) = unary_of o

abbrev pub op2_of : BinaryNode → Op2
op2_of (BinaryNode.Term o) = binary_of o
op2_of (BinaryNode.Compared o) = comparison_of o
op2_of (BinaryNode.Joined o) = connective_of o

abbrev pub op3_of : TernaryNode → Op3
op3_of TernaryNode.Choice = ite
op3_of (TernaryNode.Term o) = ternary_of o

abbrev pub node_from : NodeParts → Node
node_from (NodeParts.Leaf l) = leaf_of l
node_from (NodeParts.One o a) = op1 (op1_of o) (node_of a)
node_from (NodeParts.Two o a b) = op2 (op2_of o) (node_of a) (node_of b)
node_from (NodeParts.Three o a b c) = op3 (op3_of o) (node_of a) (node_of b) (node_of c)
node_from (NodeParts.List o ts) = opn (list_of o) (terms ts.now)
node_from (NodeParts.Quantified o a b c) = quant (quantifier_of o) (node_of a) (node_of b) (node_of c)
