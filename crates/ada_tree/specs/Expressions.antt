-- What becomes of operators (Ada RM 4.4, 4.5).
use Rattle.std.specs.Prelude.{List, ◌∷◌, true, false, []}
use Rattle.tree_parts.specs.declared.expression_parts.ExpressionPart.TheVariants as expression_part
use Rattle.tree_parts.specs.declared.parts.Part.{Part}
use Rattle.tree_parts.specs.declared.parts.Part.TheVariants as part
use Rattle.tree_parts.specs.declared.relations.RelationTail.TheVariants as relation_tail
use Rattle.ada_tree.specs.declared.rules.LogicRule.{LogicRule}
use Rattle.ada_tree.specs.declared.rules.LogicRule.TheVariants as logic'
use Rattle.ada_tree.specs.declared.rules.OperationRule.{OperationRule}
use Rattle.ada_tree.specs.declared.rules.OperationRule.TheVariants as operation'
use Rattle.ada_tree.specs.declared.rules.RelationRule.{RelationRule}
use Rattle.ada_tree.specs.declared.rules.RelationRule.TheVariants as relation'
use Rattle.tree_parts.specs.Operations.{grouped, operation, unary}
use Rattle.tree_parts.specs.Operators.{logic_operator, operator_of, short_operator_of}
use Rattle.tree_parts.specs.Relations.{related}
use Rattle.tree_parts.specs.Parts.{◌!◌, after, expr_of, logic_tail_of, operations_of, place_of, range_of, relation_tail_of, token_of}

-- Below, the parts after the parts of a production are taken from the front, and what the rule makes of them is put there.

abbrev pub logic_rule : LogicRule → List Part → List Part
-- Logic = and AndRest | Logic = or OrRest
logic_rule logic'.Logic s = part.Expression (expression_part.Operations (operation (token_of (s ! 0)).span (logic_operator (logic_tail_of (s ! 1)).short (token_of (s ! 0)).kind) (logic_tail_of (s ! 1)).operand ∷ (logic_tail_of (s ! 1)).more)) ∷ after 2 s
-- AndRest = then Rel ThenMore | OrRest = else Rel ElseMore
logic_rule logic'.LogicShort s = part.Expression (expression_part.LogicTail (record { short = true; operand = (expr_of (s ! 1)); more = (operations_of (s ! 2)) })) ∷ after 3 s
-- AndRest = Rel AndMore | OrRest = Rel OrMore
logic_rule logic'.LogicPlain s = part.Expression (expression_part.LogicTail (record { short = false; operand = (expr_of (s ! 0)); more = (operations_of (s ! 1)) })) ∷ after 2 s
-- ThenMore = and then Rel ThenMore | ElseMore = or else Rel ElseMore
logic_rule logic'.ShortOperations s = part.Expression (expression_part.Operations (operation (token_of (s ! 0)).span (short_operator_of (token_of (s ! 0)).kind) (expr_of (s ! 2)) ∷ (operations_of (s ! 3)))) ∷ after 4 s

abbrev pub operation_rule : OperationRule → List Part → List Part
-- Expr = Rel Logic | Simple = Term AddMore | Term = Factor MulMore | Factor = Primary Pow
operation_rule operation'.Grouped s = part.Expression (expression_part.Expr (grouped (expr_of (s ! 0)) (operations_of (s ! 1)))) ∷ after 2 s
-- AddMore = + Term AddMore, and the like
operation_rule operation'.Operations s = part.Expression (expression_part.Operations (operation (token_of (s ! 0)).span (operator_of (token_of (s ! 0)).kind) (expr_of (s ! 1)) ∷ (operations_of (s ! 2)))) ∷ after 3 s
-- AddMore =, and the like
operation_rule operation'.NoOperations s = part.Expression (expression_part.Operations []) ∷ s
-- Pow = ** Primary
operation_rule operation'.Power s = part.Expression (expression_part.Operations (operation (token_of (s ! 0)).span (operator_of (token_of (s ! 0)).kind) (expr_of (s ! 1)) ∷ [])) ∷ after 2 s
-- Simple = + Term AddMore | Simple = - Term AddMore
operation_rule operation'.Signed s = part.Expression (expression_part.Expr (grouped (unary (token_of (s ! 0)) (expr_of (s ! 1))) (operations_of (s ! 2)))) ∷ after 3 s
-- Factor = abs Primary | Factor = not Primary
operation_rule operation'.Prefixed s = part.Expression (expression_part.Expr (unary (token_of (s ! 0)) (expr_of (s ! 1)))) ∷ after 2 s

abbrev pub relation_rule : RelationRule → List Part → List Part
-- Rel = Simple RelTail
relation_rule relation'.Relation s = part.Expression (expression_part.Expr (related (expr_of (s ! 0)) (relation_tail_of (s ! 1)))) ∷ after 2 s
-- RelTail = RelOp Simple
relation_rule relation'.Compare s = part.Expression (expression_part.RelationTail (relation_tail.Compare (operation (token_of (s ! 0)).span (operator_of (token_of (s ! 0)).kind) (expr_of (s ! 1))))) ∷ after 2 s
-- RelTail = in Range
relation_rule relation'.In s = part.Expression (expression_part.RelationTail (relation_tail.Member (place_of (s ! 0)) false (range_of (s ! 1)))) ∷ after 2 s
-- RelTail = not in Range
relation_rule relation'.NotIn s = part.Expression (expression_part.RelationTail (relation_tail.Member (place_of (s ! 0)) true (range_of (s ! 2)))) ∷ after 3 s
-- RelTail =
relation_rule relation'.NoRelation s = part.Expression (expression_part.RelationTail relation_tail.Nothing) ∷ s
