-- The rules of productions make parts that read as their right sides.
use Rattle.std.proofs.Common.{refl, ◌∙◌, append_assoc, append-nil}
use Rattle.ada_text.specs.declared.reserved.Reserved.TheVariants as res
use Rattle.ada_text.specs.declared.delimiters.Delimiter.TheVariants as del
use Rattle.ada_syntax.proofs.FoldedStatements.{stmt_words}
use Rattle.grammar_table.specs.Parses.{right_of}
use Rattle.grammar_table.specs.Productions.{productions}
use Rattle.grammar_table.specs.declared.symbols.Nonterminal.TheVariants as non
use Rattle.grammar_table.specs.declared.symbols.Terminal.TheVariants as terminal
use Rattle.ada_tree.specs.declared.rules.CaseRule.TheVariants as CaseRule'
use Rattle.ada_tree.specs.declared.rules.IfRule.TheVariants as IfRule'
use Rattle.ada_tree.specs.declared.rules.ChoiceRule.TheVariants as ChoiceRule'
use Rattle.ada_tree.specs.declared.rules.LoopRule.TheVariants as LoopRule'
use Rattle.ada_tree.specs.declared.rules.DirectionRule.TheVariants as DirectionRule'
use Rattle.ada_tree.specs.declared.rules.OptionalRule.TheVariants as OptionalRule'
use Rattle.ada_tree.specs.declared.rules.StatementRule.TheVariants as StatementRule'
use Rattle.ada_tree.specs.declared.rules.Rule.TheVariants as rule
use Rattle.tree_parts.specs.Parts.{◌!◌, stmts_of, token_of}
use Rattle.ada_tree.proofs.Joins.{branch5, case8, flat2}
use Rattle.ada_tree.proofs.Phrases.{named_words, otherwise_words}
use Rattle.ada_tree.proofs.Texts.{Law, text, token_text}

-- Stmts = Stmt StMore
pub law_71 : Law non.Stmts (right_of productions 71) (rule.Statement StatementRule'.Stmts)
unfolding productions
law_71 ps f = (simp append-nil, tt)

-- StMore = Stmt StMore
pub law_72 : Law non.StMore (right_of productions 72) (rule.Statement StatementRule'.Stmts)
unfolding productions
law_72 ps f = (simp append-nil, tt)

-- StMore =
pub law_73 : Law non.StMore (right_of productions 73) (rule.Statement StatementRule'.NoStmts)
unfolding productions
law_73 ps f = (refl, tt)

-- Stmt = null ;
pub law_74 : Law non.Stmt (right_of productions 74) (rule.Statement StatementRule'.Null)
unfolding productions
law_74 ps f = (stmt_words _ _ ∙ simp append-nil, tt)

-- Stmt = Name Act ;
pub law_75 : Law non.Stmt (right_of productions 75) (rule.Statement StatementRule'.Name)
unfolding productions
law_75 ps f = (stmt_words _ _ ∙ named_words _ _ ∙ simp (append_assoc, append-nil), tt)

-- Stmt = if Expr then Stmts Elsifs Else end if ;
pub law_76 : Law non.Stmt (right_of productions 76) (rule.If IfRule'.If)
unfolding productions
law_76 ps f = (stmt_words _ _ ∙ simp (append_assoc, append-nil), tt)

-- Stmt = case Expr is When Whens end case ;
pub law_77 : Law non.Stmt (right_of productions 77) (rule.Case CaseRule'.Case)
unfolding productions
law_77 ps f = (stmt_words _ _ ∙ case8 (token_text ((terminal.Word res.Case)) (token_of (ps ! 0))) (text non.Expr (ps ! 1)) (token_text ((terminal.Word res.Is)) (token_of (ps ! 2))) (text non.When (ps ! 3)) (text non.Whens (ps ! 4)) (token_text ((terminal.Word res.End)) (token_of (ps ! 5))) (token_text ((terminal.Word res.Case)) (token_of (ps ! 6))) (token_text ((terminal.Mark del.Semicolon)) (token_of (ps ! 7))), tt)

-- Stmt = Head loop Stmts end loop ;
pub law_78 : Law non.Stmt (right_of productions 78) (rule.Loop LoopRule'.Loop)
unfolding productions
law_78 ps f = (stmt_words _ _ ∙ simp (append_assoc, append-nil), tt)

-- Stmt = exit ExWhen ;
pub law_79 : Law non.Stmt (right_of productions 79) (rule.Statement StatementRule'.Exit)
unfolding productions
law_79 ps f = (stmt_words _ _ ∙ simp (append_assoc, append-nil), tt)

-- Stmt = return RetVal ;
pub law_80 : Law non.Stmt (right_of productions 80) (rule.Statement StatementRule'.Return)
unfolding productions
law_80 ps f = (stmt_words _ _ ∙ simp (append_assoc, append-nil), tt)

-- Stmt = Pragma
pub law_81 : Law non.Stmt (right_of productions 81) (rule.Statement StatementRule'.StmtPragma)
unfolding productions
law_81 ps f = (stmt_words _ _ ∙ simp (append_assoc, append-nil), tt)

-- Act = := Expr
pub law_82 : Law non.Act (right_of productions 82) (rule.Optional OptionalRule'.SomeExprAfter)
unfolding productions
law_82 ps f = (simp append-nil, tt)

-- Act =
pub law_83 : Law non.Act (right_of productions 83) (rule.Optional OptionalRule'.NoExpr)
unfolding productions
law_83 ps f = (refl, tt)

-- Elsifs = elsif Expr then Stmts Elsifs
pub law_84 : Law non.Elsifs (right_of productions 84) (rule.If IfRule'.Branches)
unfolding productions
law_84 ps f = (branch5 (token_text ((terminal.Word res.Elsif)) (token_of (ps ! 0))) (text non.Expr (ps ! 1)) (token_text ((terminal.Word res.Then)) (token_of (ps ! 2))) (text non.Stmts (ps ! 3)) (text non.Elsifs (ps ! 4)), tt)

-- Elsifs =
pub law_85 : Law non.Elsifs (right_of productions 85) (rule.If IfRule'.NoBranches)
unfolding productions
law_85 ps f = (refl, tt)

-- Else = else Stmts
pub law_86 : Law non.Else (right_of productions 86) rule.AfterWord
unfolding productions
law_86 ps f = (otherwise_words (stmts_of (ps ! 1)) f.1.0 ∙ simp append-nil, tt)

-- Else =
pub law_87 : Law non.Else (right_of productions 87) (rule.Statement StatementRule'.NoStmts)
unfolding productions
law_87 ps f = (refl, tt)

-- When = when Choice Choices => Stmts
pub law_88 : Law non.When (right_of productions 88) (rule.Case CaseRule'.Alternative)
unfolding productions
law_88 ps f = (simp (append_assoc, append-nil), tt)

-- Whens = When Whens
pub law_89 : Law non.Whens (right_of productions 89) (rule.Case CaseRule'.Alternatives)
unfolding productions
law_89 ps f = (flat2 (text non.When (ps ! 0)) (text non.Whens (ps ! 1)), tt)

-- Whens =
pub law_90 : Law non.Whens (right_of productions 90) (rule.Case CaseRule'.NoAlternatives)
unfolding productions
law_90 ps f = (refl, tt)

-- Choice = others
pub law_91 : Law non.Choice (right_of productions 91) (rule.Choice ChoiceRule'.ChoiceOthers)
unfolding productions
law_91 ps f = (simp append-nil, tt)

-- Choice = Range
pub law_92 : Law non.Choice (right_of productions 92) (rule.Choice ChoiceRule'.ChoiceRange)
unfolding productions
law_92 ps f = (simp (append_assoc, append-nil), tt)

-- Choices = BAR Choice Choices
pub law_93 : Law non.Choices (right_of productions 93) (rule.Choice ChoiceRule'.Choices)
unfolding productions
law_93 ps f = (simp (append_assoc, append-nil), tt)

-- Choices =
pub law_94 : Law non.Choices (right_of productions 94) (rule.Choice ChoiceRule'.NoChoices)
unfolding productions
law_94 ps f = (refl, tt)

-- Head = while Expr
pub law_95 : Law non.Head (right_of productions 95) (rule.Loop LoopRule'.While)
unfolding productions
law_95 ps f = (simp append-nil, tt)

-- Head = for Id in Rev Range
pub law_96 : Law non.Head (right_of productions 96) (rule.Loop LoopRule'.For)
unfolding productions
law_96 ps f = (simp (append_assoc, append-nil), tt)

-- Head =
pub law_97 : Law non.Head (right_of productions 97) (rule.Loop LoopRule'.Forever)
unfolding productions
law_97 ps f = (refl, tt)

-- Rev = reverse
pub law_98 : Law non.Rev (right_of productions 98) (rule.Direction DirectionRule'.Reverse)
unfolding productions
law_98 ps f = (simp append-nil, tt)

-- Rev =
pub law_99 : Law non.Rev (right_of productions 99) (rule.Direction DirectionRule'.Forward)
unfolding productions
law_99 ps f = (refl, tt)

-- ExWhen = when Expr
pub law_100 : Law non.ExWhen (right_of productions 100) (rule.Optional OptionalRule'.SomeExprAfter)
unfolding productions
law_100 ps f = (simp append-nil, tt)

-- ExWhen =
pub law_101 : Law non.ExWhen (right_of productions 101) (rule.Optional OptionalRule'.NoExpr)
unfolding productions
law_101 ps f = (refl, tt)

-- RetVal = Expr
pub law_102 : Law non.RetVal (right_of productions 102) (rule.Optional OptionalRule'.SomeExpr)
unfolding productions
law_102 ps f = (simp append-nil, tt)

-- RetVal =
pub law_103 : Law non.RetVal (right_of productions 103) (rule.Optional OptionalRule'.NoExpr)
unfolding productions
law_103 ps f = (refl, tt)
