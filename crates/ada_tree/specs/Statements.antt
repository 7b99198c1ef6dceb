-- What becomes of statements (Ada RM 5, 6.4, 6.5).
use Rattle.std.specs.Prelude.{List, ◌∷◌, true, false, Some, None, [], unwrap_or}
use Rattle.ada_syntax.specs.declared.statements.Action.TheVariants as action
use Rattle.ada_syntax.specs.declared.statements.Choice.TheVariants as choice
use Rattle.ada_syntax.specs.declared.statements.LoopHead.TheVariants as loop_head
use Rattle.tree_parts.specs.declared.statement_parts.StatementPart.TheVariants as statement_part
use Rattle.tree_parts.specs.declared.statement_parts.ChoicePart.TheVariants as choice_part
use Rattle.tree_parts.specs.declared.parts.Part.{Part}
use Rattle.tree_parts.specs.declared.parts.Part.TheVariants as part
use Rattle.ada_tree.specs.declared.rules.StatementRule.{StatementRule}
use Rattle.ada_tree.specs.declared.rules.StatementRule.TheVariants as statement'
use Rattle.ada_tree.specs.declared.rules.IfRule.{IfRule}
use Rattle.ada_tree.specs.declared.rules.IfRule.TheVariants as if'
use Rattle.ada_tree.specs.declared.rules.CaseRule.{CaseRule}
use Rattle.ada_tree.specs.declared.rules.CaseRule.TheVariants as case'
use Rattle.ada_tree.specs.declared.rules.ChoiceRule.{ChoiceRule}
use Rattle.ada_tree.specs.declared.rules.ChoiceRule.TheVariants as choice'
use Rattle.ada_tree.specs.declared.rules.LoopRule.{LoopRule}
use Rattle.ada_tree.specs.declared.rules.LoopRule.TheVariants as loop'
use Rattle.ada_tree.specs.declared.rules.DirectionRule.{DirectionRule}
use Rattle.ada_tree.specs.declared.rules.DirectionRule.TheVariants as direction'
use Rattle.tree_parts.specs.Missing.{stmt_at}
use Rattle.tree_parts.specs.Operations.{joined}
use Rattle.tree_parts.specs.Relations.{named_action}
use Rattle.tree_parts.specs.Parts.{◌!◌, after, alternative_of, alternatives_of, branches_of, choice_of, choices_of, expr_of, flag_of, loop_head_of, name_of, optional_expr_of, place_of, pragma_of, range_of, stmt_of, stmts_of}

-- Below, the parts after the parts of a production are taken from the front, and what the rule makes of them is put there.

abbrev pub statement_rule : StatementRule → List Part → List Part
-- Stmts = Stmt StMore | StMore = Stmt StMore
statement_rule statement'.Stmts s = part.Statement (statement_part.Stmts ((stmt_of (s ! 0)) ∷ (stmts_of (s ! 1)))) ∷ after 2 s
-- StMore = | Else =
statement_rule statement'.NoStmts s = part.Statement (statement_part.Stmts []) ∷ s
-- Stmt = null ;
statement_rule statement'.Null s = part.Statement (statement_part.Stmt (stmt_at (joined (place_of (s ! 0)) (place_of (s ! 1))) action.Null)) ∷ after 2 s
-- Stmt = Name Act ;
statement_rule statement'.Name s = part.Statement (statement_part.Stmt (stmt_at (joined (name_of (s ! 0)).span (place_of (s ! 2))) (named_action (name_of (s ! 0)) (optional_expr_of (s ! 1))))) ∷ after 3 s
-- Stmt = exit ExWhen ;
statement_rule statement'.Exit s = part.Statement (statement_part.Stmt (stmt_at (joined (place_of (s ! 0)) (place_of (s ! 2))) (action.Exit (optional_expr_of (s ! 1))))) ∷ after 3 s
-- Stmt = return RetVal ;
statement_rule statement'.Return s = part.Statement (statement_part.Stmt (stmt_at (joined (place_of (s ! 0)) (place_of (s ! 2))) (action.Return (optional_expr_of (s ! 1))))) ∷ after 3 s
-- Stmt = Pragma
statement_rule statement'.StmtPragma s = part.Statement (statement_part.Stmt (stmt_at (pragma_of (s ! 0)).span (action.Pragma (pragma_of (s ! 0))))) ∷ after 1 s

abbrev pub if_rule : IfRule → List Part → List Part
-- Stmt = if Expr then Stmts Elsifs Else end if ;
if_rule if'.If s = part.Statement (statement_part.Stmt (stmt_at (joined (place_of (s ! 0)) (place_of (s ! 8))) (action.If (record { condition = (expr_of (s ! 1)); body = (stmts_of (s ! 3)) } ∷ (branches_of (s ! 4))) (stmts_of (s ! 5))))) ∷ after 9 s
-- Elsifs = elsif Expr then Stmts Elsifs
if_rule if'.Branches s = part.Statement (statement_part.Branches (record { condition = (expr_of (s ! 1)); body = (stmts_of (s ! 3)) } ∷ (branches_of (s ! 4)))) ∷ after 5 s
-- Elsifs =
if_rule if'.NoBranches s = part.Statement (statement_part.Branches []) ∷ s

abbrev pub case_rule : CaseRule → List Part → List Part
-- Stmt = case Expr is When Whens end case ;
case_rule case'.Case s = part.Statement (statement_part.Stmt (stmt_at (joined (place_of (s ! 0)) (place_of (s ! 7))) (action.Case (expr_of (s ! 1)) ((alternative_of (s ! 3)) ∷ (alternatives_of (s ! 4)))))) ∷ after 8 s
-- When = when Choice Choices => Stmts
case_rule case'.Alternative s = part.Statement (statement_part.Alternative (record { choices = (choice_of (s ! 1)) ∷ (choices_of (s ! 2)); body = (stmts_of (s ! 4)) })) ∷ after 5 s
-- Whens = When Whens
case_rule case'.Alternatives s = part.Statement (statement_part.Alternatives ((alternative_of (s ! 0)) ∷ (alternatives_of (s ! 1)))) ∷ after 2 s
-- Whens =
case_rule case'.NoAlternatives s = part.Statement (statement_part.Alternatives []) ∷ s

abbrev pub choice_rule : ChoiceRule → List Part → List Part
-- Choice = others
choice_rule choice'.ChoiceOthers s = part.Choice (choice_part.Choice choice.Others) ∷ after 1 s
-- Choice = Range
choice_rule choice'.ChoiceRange s = part.Choice (choice_part.Choice (choice.Range (range_of (s ! 0)))) ∷ after 1 s
-- Choices = "|" Choice Choices
choice_rule choice'.Choices s = part.Choice (choice_part.Choices ((choice_of (s ! 1)) ∷ (choices_of (s ! 2)))) ∷ after 3 s
-- Choices =
choice_rule choice'.NoChoices s = part.Choice (choice_part.Choices []) ∷ s

abbrev pub loop_rule : LoopRule → List Part → List Part
-- Stmt = Head loop Stmts end loop ;
loop_rule loop'.Loop s = part.Statement (statement_part.Stmt (stmt_at (joined (unwrap_or (loop_head_of (s ! 0)).edge (place_of (s ! 1))) (place_of (s ! 5))) (action.Loop (loop_head_of (s ! 0)).value (stmts_of (s ! 2))))) ∷ after 6 s
-- Head = while Expr
loop_rule loop'.While s = part.Choice (choice_part.LoopHead (record { value = loop_head.While (expr_of (s ! 1)); edge = Some (place_of (s ! 0)) })) ∷ after 2 s
-- Head = for Id in Rev Range
loop_rule loop'.For s = part.Choice (choice_part.LoopHead (record { value = loop_head.For (place_of (s ! 1)) (flag_of (s ! 3)) (range_of (s ! 4)); edge = Some (place_of (s ! 0)) })) ∷ after 5 s
-- Head =
loop_rule loop'.Forever s = part.Choice (choice_part.LoopHead (record { value = loop_head.Forever; edge = None })) ∷ s

abbrev pub direction_rule : DirectionRule → List Part → List Part
-- Rev = reverse
direction_rule direction'.Reverse s = part.Choice (choice_part.Flag true) ∷ after 1 s
-- Rev =
direction_rule direction'.Forward s = part.Choice (choice_part.Flag false) ∷ s
