-- The rules of productions make parts that read as their right sides.
use Rattle.std.proofs.Common.{refl, ap, ◌∙◌, ◌++◌, append_assoc, append-nil}
use Rattle.ada_text.specs.declared.reserved.Reserved.TheVariants as res
use Rattle.ada_syntax.specs.Words.{Words}
use Rattle.ada_syntax.specs.Expressions.{expr}
use Rattle.grammar_table.specs.Parses.{right_of}
use Rattle.grammar_table.specs.Productions.{productions}
use Rattle.grammar_table.specs.declared.symbols.Nonterminal.TheVariants as non
use Rattle.grammar_table.specs.declared.symbols.Terminal.TheVariants as terminal
use Rattle.ada_tree.specs.declared.rules.LogicRule.TheVariants as LogicRule'
use Rattle.ada_tree.specs.declared.rules.OperationRule.TheVariants as OperationRule'
use Rattle.ada_tree.specs.declared.rules.RelationRule.TheVariants as RelationRule'
use Rattle.ada_tree.specs.declared.rules.Rule.TheVariants as rule
use Rattle.tree_parts.specs.Parts.{◌!◌, expr_of, logic_tail_of, operations_of, relation_tail_of, token_of}
use Rattle.ada_tree.proofs.Joins.{flat2}
use Rattle.ada_tree.proofs.Phrases.{and_text, grouped_words, operator_text, or_text, related_words, short_text}
use Rattle.ada_tree.proofs.Texts.{Law, operations, text}

-- Expr = Rel Logic
pub law_127 : Law non.Expr (right_of productions 127) (rule.Operation OperationRule'.Grouped)
unfolding productions
law_127 ps f = (grouped_words (expr_of (ps ! 0)) (operations_of (ps ! 1)) ∙ flat2 (text non.Rel (ps ! 0)) (text non.Logic (ps ! 1)), tt)

-- Logic = and AndRest
pub law_128 : Law non.Logic (right_of productions 128) (rule.Logic LogicRule'.Logic)
unfolding productions
law_128 ps f = (ap (λ (z : Words). (z ++ expr (logic_tail_of (ps ! 1)).operand) ++ operations (logic_tail_of (ps ! 1)).more) (and_text (logic_tail_of (ps ! 1)).short (token_of (ps ! 0)).kind f.0) ∙ simp (append_assoc, append-nil), tt)

-- Logic = or OrRest
pub law_129 : Law non.Logic (right_of productions 129) (rule.Logic LogicRule'.Logic)
unfolding productions
law_129 ps f = (ap (λ (z : Words). (z ++ expr (logic_tail_of (ps ! 1)).operand) ++ operations (logic_tail_of (ps ! 1)).more) (or_text (logic_tail_of (ps ! 1)).short (token_of (ps ! 0)).kind f.0) ∙ simp (append_assoc, append-nil), tt)

-- Logic = xor Rel XorMore
pub law_130 : Law non.Logic (right_of productions 130) (rule.Operation OperationRule'.Operations)
unfolding productions
law_130 ps f = (ap (λ (z : Words). (z ++ expr (expr_of (ps ! 1))) ++ operations (operations_of (ps ! 2))) (operator_text (token_of (ps ! 0)).kind ((terminal.Word res.Xor)) f.0) ∙ simp (append_assoc, append-nil), tt)

-- Logic =
pub law_131 : Law non.Logic (right_of productions 131) (rule.Operation OperationRule'.NoOperations)
unfolding productions
law_131 ps f = (refl, tt)

-- AndRest = then Rel ThenMore
pub law_132 : Law non.AndRest (right_of productions 132) (rule.Logic LogicRule'.LogicShort)
unfolding productions
law_132 ps f = (simp (append_assoc, append-nil), tt)

-- AndRest = Rel AndMore
pub law_133 : Law non.AndRest (right_of productions 133) (rule.Logic LogicRule'.LogicPlain)
unfolding productions
law_133 ps f = (simp (append_assoc, append-nil), tt)

-- ThenMore = and then Rel ThenMore
pub law_134 : Law non.ThenMore (right_of productions 134) (rule.Logic LogicRule'.ShortOperations)
unfolding productions
law_134 ps f = (ap (λ (z : Words). (z ++ expr (expr_of (ps ! 2))) ++ operations (operations_of (ps ! 3))) (short_text (token_of (ps ! 0)).kind ((terminal.Word res.And)) f.0) ∙ simp (append_assoc, append-nil), tt)

-- ThenMore =
pub law_135 : Law non.ThenMore (right_of productions 135) (rule.Operation OperationRule'.NoOperations)
unfolding productions
law_135 ps f = (refl, tt)

-- AndMore = and Rel AndMore
pub law_136 : Law non.AndMore (right_of productions 136) (rule.Operation OperationRule'.Operations)
unfolding productions
law_136 ps f = (ap (λ (z : Words). (z ++ expr (expr_of (ps ! 1))) ++ operations (operations_of (ps ! 2))) (operator_text (token_of (ps ! 0)).kind ((terminal.Word res.And)) f.0) ∙ simp (append_assoc, append-nil), tt)

-- AndMore =
pub law_137 : Law non.AndMore (right_of productions 137) (rule.Operation OperationRule'.NoOperations)
unfolding productions
law_137 ps f = (refl, tt)

-- OrRest = else Rel ElseMore
pub law_138 : Law non.OrRest (right_of productions 138) (rule.Logic LogicRule'.LogicShort)
unfolding productions
law_138 ps f = (simp (append_assoc, append-nil), tt)

-- OrRest = Rel OrMore
pub law_139 : Law non.OrRest (right_of productions 139) (rule.Logic LogicRule'.LogicPlain)
unfolding productions
law_139 ps f = (simp (append_assoc, append-nil), tt)

-- ElseMore = or else Rel ElseMore
pub law_140 : Law non.ElseMore (right_of productions 140) (rule.Logic LogicRule'.ShortOperations)
unfolding productions
law_140 ps f = (ap (λ (z : Words). (z ++ expr (expr_of (ps ! 2))) ++ operations (operations_of (ps ! 3))) (short_text (token_of (ps ! 0)).kind ((terminal.Word res.Or)) f.0) ∙ simp (append_assoc, append-nil), tt)

-- ElseMore =
pub law_141 : Law non.ElseMore (right_of productions 141) (rule.Operation OperationRule'.NoOperations)
unfolding productions
law_141 ps f = (refl, tt)

-- OrMore = or Rel OrMore
pub law_142 : Law non.OrMore (right_of productions 142) (rule.Operation OperationRule'.Operations)
unfolding productions
law_142 ps f = (ap (λ (z : Words). (z ++ expr (expr_of (ps ! 1))) ++ operations (operations_of (ps ! 2))) (operator_text (token_of (ps ! 0)).kind ((terminal.Word res.Or)) f.0) ∙ simp (append_assoc, append-nil), tt)

-- OrMore =
pub law_143 : Law non.OrMore (right_of productions 143) (rule.Operation OperationRule'.NoOperations)
unfolding productions
law_143 ps f = (refl, tt)

-- XorMore = xor Rel XorMore
pub law_144 : Law non.XorMore (right_of productions 144) (rule.Operation OperationRule'.Operations)
unfolding productions
law_144 ps f = (ap (λ (z : Words). (z ++ expr (expr_of (ps ! 1))) ++ operations (operations_of (ps ! 2))) (operator_text (token_of (ps ! 0)).kind ((terminal.Word res.Xor)) f.0) ∙ simp (append_assoc, append-nil), tt)

-- XorMore =
pub law_145 : Law non.XorMore (right_of productions 145) (rule.Operation OperationRule'.NoOperations)
unfolding productions
law_145 ps f = (refl, tt)

-- Rel = Simple RelTail
pub law_146 : Law non.Rel (right_of productions 146) (rule.Relation RelationRule'.Relation)
unfolding productions
law_146 ps f = (related_words (expr_of (ps ! 0)) (relation_tail_of (ps ! 1)) ∙ flat2 (text non.Simple (ps ! 0)) (text non.RelTail (ps ! 1)), tt)

-- RelTail = RelOp Simple
pub law_147 : Law non.RelTail (right_of productions 147) (rule.Relation RelationRule'.Compare)
unfolding productions
law_147 ps f = (simp append-nil, tt)

-- RelTail = in Range
pub law_148 : Law non.RelTail (right_of productions 148) (rule.Relation RelationRule'.In)
unfolding productions
law_148 ps f = (simp (append_assoc, append-nil), tt)

-- RelTail = not in Range
pub law_149 : Law non.RelTail (right_of productions 149) (rule.Relation RelationRule'.NotIn)
unfolding productions
law_149 ps f = (simp (append_assoc, append-nil), tt)

-- RelTail =
pub law_150 : Law non.RelTail (right_of productions 150) (rule.Relation RelationRule'.NoRelation)
unfolding productions
law_150 ps f = (refl, tt)
