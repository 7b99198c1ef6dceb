-- The rules of productions make parts that read as their right sides.
use Rattle.std.proofs.Common.{refl, ◌∙◌, append_assoc, append-nil}
use Rattle.ada_text.specs.declared.reserved.Reserved.TheVariants as res
use Rattle.ada_text.specs.declared.delimiters.Delimiter.TheVariants as del
use Rattle.grammar_table.specs.Parses.{right_of}
use Rattle.grammar_table.specs.Productions.{productions}
use Rattle.grammar_table.specs.declared.symbols.Nonterminal.TheVariants as non
use Rattle.grammar_table.specs.declared.symbols.Terminal.TheVariants as terminal
use Rattle.ada_tree.specs.declared.rules.ArgRule.TheVariants as ArgRule'
use Rattle.ada_tree.specs.declared.rules.ArgsRule.TheVariants as ArgsRule'
use Rattle.ada_tree.specs.declared.rules.ItemRule.TheVariants as ItemRule'
use Rattle.ada_tree.specs.declared.rules.ConditionalRule.TheVariants as ConditionalRule'
use Rattle.ada_tree.specs.declared.rules.OptionalRule.TheVariants as OptionalRule'
use Rattle.ada_tree.specs.declared.rules.Rule.TheVariants as rule
use Rattle.tree_parts.specs.Parts.{◌!◌, arg_tail_of, expr_of, token_of}
use Rattle.ada_tree.proofs.Joins.{branch5, flat2, flat7}
use Rattle.ada_tree.proofs.Phrases.{argument_words, quantifier_text}
use Rattle.ada_tree.proofs.Texts.{Law, text, token_text}

-- Range = Simple RgTail
pub law_104 : Law non.Range (right_of productions 104) (rule.Item ItemRule'.Range)
unfolding productions
law_104 ps f = (simp append-nil, tt)

-- RgTail = .. Simple
pub law_105 : Law non.RgTail (right_of productions 105) (rule.Optional OptionalRule'.SomeExprAfter)
unfolding productions
law_105 ps f = (simp append-nil, tt)

-- RgTail =
pub law_106 : Law non.RgTail (right_of productions 106) (rule.Optional OptionalRule'.NoExpr)
unfolding productions
law_106 ps f = (refl, tt)

-- Item = Cond
pub law_107 : Law non.Item (right_of productions 107) rule.Same
unfolding productions
law_107 ps f = (simp append-nil, tt)

-- Item = Expr
pub law_108 : Law non.Item (right_of productions 108) (rule.Item ItemRule'.Plain)
unfolding productions
law_108 ps f = (simp append-nil, tt)

-- Cond = for AllSome Id in Range => Expr
pub law_109 : Law non.Cond (right_of productions 109) (rule.Item ItemRule'.Quantified)
unfolding productions
law_109 ps f = (flat7 (token_text ((terminal.Word res.For)) (token_of (ps ! 0))) (text non.AllSome (ps ! 1)) (token_text (terminal.Identifier) (token_of (ps ! 2))) (token_text ((terminal.Word res.In)) (token_of (ps ! 3))) (text non.Range (ps ! 4)) (token_text ((terminal.Mark del.Arrow)) (token_of (ps ! 5))) (text non.Expr (ps ! 6)), tt)

-- Cond = if Expr then Expr IfMore IfElse
pub law_110 : Law non.Cond (right_of productions 110) (rule.Conditional ConditionalRule'.If)
unfolding productions
law_110 ps f = (simp (append_assoc, append-nil), tt)

-- AllSome = all
pub law_111 : Law non.AllSome (right_of productions 111) rule.Same
unfolding productions
law_111 ps f = (quantifier_text (token_of (ps ! 0)).kind ((terminal.Word res.All)) f.0, tt)

-- AllSome = some
pub law_112 : Law non.AllSome (right_of productions 112) rule.Same
unfolding productions
law_112 ps f = (quantifier_text (token_of (ps ! 0)).kind ((terminal.Word res.Some)) f.0, tt)

-- IfMore = elsif Expr then Expr IfMore
pub law_113 : Law non.IfMore (right_of productions 113) (rule.Conditional ConditionalRule'.Arms)
unfolding productions
law_113 ps f = (branch5 (token_text ((terminal.Word res.Elsif)) (token_of (ps ! 0))) (text non.Expr (ps ! 1)) (token_text ((terminal.Word res.Then)) (token_of (ps ! 2))) (text non.Expr (ps ! 3)) (text non.IfMore (ps ! 4)), tt)

-- IfMore =
pub law_114 : Law non.IfMore (right_of productions 114) (rule.Conditional ConditionalRule'.NoArms)
unfolding productions
law_114 ps f = (refl, tt)

-- IfElse = else Expr
pub law_115 : Law non.IfElse (right_of productions 115) (rule.Optional OptionalRule'.SomeExprAfter)
unfolding productions
law_115 ps f = (simp append-nil, tt)

-- IfElse =
pub law_116 : Law non.IfElse (right_of productions 116) (rule.Optional OptionalRule'.NoExpr)
unfolding productions
law_116 ps f = (refl, tt)

-- Args = Arg ArgMore
pub law_117 : Law non.Args (right_of productions 117) (rule.Args ArgsRule'.Args)
unfolding productions
law_117 ps f = (simp (append_assoc, append-nil), tt)

-- ArgMore = , Arg ArgMore
pub law_118 : Law non.ArgMore (right_of productions 118) (rule.Args ArgsRule'.ArgsAfter)
unfolding productions
law_118 ps f = (simp (append_assoc, append-nil), tt)

-- ArgMore =
pub law_119 : Law non.ArgMore (right_of productions 119) (rule.Args ArgsRule'.NoArgs)
unfolding productions
law_119 ps f = (refl, tt)

-- Arg = others => Item
pub law_120 : Law non.Arg (right_of productions 120) (rule.Arg ArgRule'.ArgOthers)
unfolding productions
law_120 ps f = (simp append-nil, tt)

-- Arg = Cond ArgVal
pub law_121 : Law non.Arg (right_of productions 121) (rule.Arg ArgRule'.ArgItem)
unfolding productions
law_121 ps f = (simp append-nil, tt)

-- Arg = Simple ArgMid
pub law_122 : Law non.Arg (right_of productions 122) (rule.Arg ArgRule'.ArgSimple)
unfolding productions
law_122 ps f = (argument_words (expr_of (ps ! 0)) (arg_tail_of (ps ! 1)) ∙ flat2 (text non.Simple (ps ! 0)) (text non.ArgMid (ps ! 1)), tt)

-- ArgMid = .. Simple ArgVal
pub law_123 : Law non.ArgMid (right_of productions 123) (rule.Arg ArgRule'.ArgUpTo)
unfolding productions
law_123 ps f = (simp (append_assoc, append-nil), tt)

-- ArgMid = RelTail Logic ArgVal
pub law_124 : Law non.ArgMid (right_of productions 124) (rule.Arg ArgRule'.ArgRest)
unfolding productions
law_124 ps f = (simp (append_assoc, append-nil), tt)

-- ArgVal = => Item
pub law_125 : Law non.ArgVal (right_of productions 125) (rule.Optional OptionalRule'.SomeItem)
unfolding productions
law_125 ps f = (simp append-nil, tt)

-- ArgVal =
pub law_126 : Law non.ArgVal (right_of productions 126) (rule.Optional OptionalRule'.NoItem)
unfolding productions
law_126 ps f = (refl, tt)
