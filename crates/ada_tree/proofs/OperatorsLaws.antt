-- The rules of productions make parts that read as their right sides.
use Rattle.std.proofs.Common.{refl, ap, ◌∙◌, [], ◌++◌, append_assoc, append-nil}
use Rattle.ada_text.specs.declared.reserved.Reserved.TheVariants as res
use Rattle.ada_text.specs.declared.delimiters.Delimiter.TheVariants as del
use Rattle.ada_syntax.specs.Words.{Words}
use Rattle.ada_syntax.specs.Expressions.{expr}
use Rattle.ada_syntax.proofs.Folded.{expr_words}
use Rattle.grammar_table.specs.Parses.{right_of}
use Rattle.grammar_table.specs.Productions.{productions}
use Rattle.grammar_table.specs.declared.symbols.Nonterminal.TheVariants as non
use Rattle.grammar_table.specs.declared.symbols.Terminal.TheVariants as terminal
use Rattle.ada_tree.specs.declared.rules.AttributeRule.TheVariants as AttributeRule'
use Rattle.ada_tree.specs.declared.rules.NameRule.TheVariants as NameRule'
use Rattle.ada_tree.specs.declared.rules.OperationRule.TheVariants as OperationRule'
use Rattle.ada_tree.specs.declared.rules.PrimaryRule.TheVariants as PrimaryRule'
use Rattle.ada_tree.specs.declared.rules.Rule.TheVariants as rule
use Rattle.tree_parts.specs.Parts.{◌!◌, expr_of, operations_of, token_of}
use Rattle.ada_tree.proofs.Joins.{flat2}
use Rattle.ada_tree.proofs.Phrases.{grouped_words, operator_text, unary_text, unary_words}
use Rattle.ada_tree.proofs.Texts.{Law, operations, text}

-- RelOp = =
pub law_151 : Law non.RelOp (right_of productions 151) rule.Same
unfolding productions
law_151 ps f = (operator_text (token_of (ps ! 0)).kind ((terminal.Mark del.Equal)) f.0, tt)

-- RelOp = /=
pub law_152 : Law non.RelOp (right_of productions 152) rule.Same
unfolding productions
law_152 ps f = (operator_text (token_of (ps ! 0)).kind ((terminal.Mark del.NotEqual)) f.0, tt)

-- RelOp = <
pub law_153 : Law non.RelOp (right_of productions 153) rule.Same
unfolding productions
law_153 ps f = (operator_text (token_of (ps ! 0)).kind ((terminal.Mark del.Less)) f.0, tt)

-- RelOp = <=
pub law_154 : Law non.RelOp (right_of productions 154) rule.Same
unfolding productions
law_154 ps f = (operator_text (token_of (ps ! 0)).kind ((terminal.Mark del.AtMost)) f.0, tt)

-- RelOp = >
pub law_155 : Law non.RelOp (right_of productions 155) rule.Same
unfolding productions
law_155 ps f = (operator_text (token_of (ps ! 0)).kind ((terminal.Mark del.Greater)) f.0, tt)

-- RelOp = >=
pub law_156 : Law non.RelOp (right_of productions 156) rule.Same
unfolding productions
law_156 ps f = (operator_text (token_of (ps ! 0)).kind ((terminal.Mark del.AtLeast)) f.0, tt)

-- Simple = + Term AddMore
pub law_157 : Law non.Simple (right_of productions 157) (rule.Operation OperationRule'.Signed)
unfolding productions
law_157 ps f = (grouped_words _ _ ∙ ap (λ (z : Words). z ++ operations (operations_of (ps ! 2))) (unary_words _ _ ∙ ap (λ (z : Words). z ++ expr (expr_of (ps ! 1))) (unary_text (token_of (ps ! 0)).kind ((terminal.Mark del.Plus)) f.0)) ∙ simp (append_assoc, append-nil), tt)

-- Simple = - Term AddMore
pub law_158 : Law non.Simple (right_of productions 158) (rule.Operation OperationRule'.Signed)
unfolding productions
law_158 ps f = (grouped_words _ _ ∙ ap (λ (z : Words). z ++ operations (operations_of (ps ! 2))) (unary_words _ _ ∙ ap (λ (z : Words). z ++ expr (expr_of (ps ! 1))) (unary_text (token_of (ps ! 0)).kind ((terminal.Mark del.Minus)) f.0)) ∙ simp (append_assoc, append-nil), tt)

-- Simple = Term AddMore
pub law_159 : Law non.Simple (right_of productions 159) (rule.Operation OperationRule'.Grouped)
unfolding productions
law_159 ps f = (grouped_words (expr_of (ps ! 0)) (operations_of (ps ! 1)) ∙ flat2 (text non.Term (ps ! 0)) (text non.AddMore (ps ! 1)), tt)

-- AddMore = + Term AddMore
pub law_160 : Law non.AddMore (right_of productions 160) (rule.Operation OperationRule'.Operations)
unfolding productions
law_160 ps f = (ap (λ (z : Words). (z ++ expr (expr_of (ps ! 1))) ++ operations (operations_of (ps ! 2))) (operator_text (token_of (ps ! 0)).kind ((terminal.Mark del.Plus)) f.0) ∙ simp (append_assoc, append-nil), tt)

-- AddMore = - Term AddMore
pub law_161 : Law non.AddMore (right_of productions 161) (rule.Operation OperationRule'.Operations)
unfolding productions
law_161 ps f = (ap (λ (z : Words). (z ++ expr (expr_of (ps ! 1))) ++ operations (operations_of (ps ! 2))) (operator_text (token_of (ps ! 0)).kind ((terminal.Mark del.Minus)) f.0) ∙ simp (append_assoc, append-nil), tt)

-- AddMore =
pub law_162 : Law non.AddMore (right_of productions 162) (rule.Operation OperationRule'.NoOperations)
unfolding productions
law_162 ps f = (refl, tt)

-- Term = Factor MulMore
pub law_163 : Law non.Term (right_of productions 163) (rule.Operation OperationRule'.Grouped)
unfolding productions
law_163 ps f = (grouped_words (expr_of (ps ! 0)) (operations_of (ps ! 1)) ∙ flat2 (text non.Factor (ps ! 0)) (text non.MulMore (ps ! 1)), tt)

-- MulMore = * Factor MulMore
pub law_164 : Law non.MulMore (right_of productions 164) (rule.Operation OperationRule'.Operations)
unfolding productions
law_164 ps f = (ap (λ (z : Words). (z ++ expr (expr_of (ps ! 1))) ++ operations (operations_of (ps ! 2))) (operator_text (token_of (ps ! 0)).kind ((terminal.Mark del.Star)) f.0) ∙ simp (append_assoc, append-nil), tt)

-- MulMore = / Factor MulMore
pub law_165 : Law non.MulMore (right_of productions 165) (rule.Operation OperationRule'.Operations)
unfolding productions
law_165 ps f = (ap (λ (z : Words). (z ++ expr (expr_of (ps ! 1))) ++ operations (operations_of (ps ! 2))) (operator_text (token_of (ps ! 0)).kind ((terminal.Mark del.Slash)) f.0) ∙ simp (append_assoc, append-nil), tt)

-- MulMore = mod Factor MulMore
pub law_166 : Law non.MulMore (right_of productions 166) (rule.Operation OperationRule'.Operations)
unfolding productions
law_166 ps f = (ap (λ (z : Words). (z ++ expr (expr_of (ps ! 1))) ++ operations (operations_of (ps ! 2))) (operator_text (token_of (ps ! 0)).kind ((terminal.Word res.Mod)) f.0) ∙ simp (append_assoc, append-nil), tt)

-- MulMore = rem Factor MulMore
pub law_167 : Law non.MulMore (right_of productions 167) (rule.Operation OperationRule'.Operations)
unfolding productions
law_167 ps f = (ap (λ (z : Words). (z ++ expr (expr_of (ps ! 1))) ++ operations (operations_of (ps ! 2))) (operator_text (token_of (ps ! 0)).kind ((terminal.Word res.Rem)) f.0) ∙ simp (append_assoc, append-nil), tt)

-- MulMore =
pub law_168 : Law non.MulMore (right_of productions 168) (rule.Operation OperationRule'.NoOperations)
unfolding productions
law_168 ps f = (refl, tt)

-- Factor = abs Primary
pub law_169 : Law non.Factor (right_of productions 169) (rule.Operation OperationRule'.Prefixed)
unfolding productions
law_169 ps f = (unary_words _ _ ∙ ap (λ (z : Words). z ++ expr (expr_of (ps ! 1))) (unary_text (token_of (ps ! 0)).kind ((terminal.Word res.Abs)) f.0) ∙ simp append-nil, tt)

-- Factor = not Primary
pub law_170 : Law non.Factor (right_of productions 170) (rule.Operation OperationRule'.Prefixed)
unfolding productions
law_170 ps f = (unary_words _ _ ∙ ap (λ (z : Words). z ++ expr (expr_of (ps ! 1))) (unary_text (token_of (ps ! 0)).kind ((terminal.Word res.Not)) f.0) ∙ simp append-nil, tt)

-- Factor = Primary Pow
pub law_171 : Law non.Factor (right_of productions 171) (rule.Operation OperationRule'.Grouped)
unfolding productions
law_171 ps f = (grouped_words (expr_of (ps ! 0)) (operations_of (ps ! 1)) ∙ flat2 (text non.Primary (ps ! 0)) (text non.Pow (ps ! 1)), tt)

-- Pow = ** Primary
pub law_172 : Law non.Pow (right_of productions 172) (rule.Operation OperationRule'.Power)
unfolding productions
law_172 ps f = (ap (λ (z : Words). (z ++ expr (expr_of (ps ! 1))) ++ []) (operator_text (token_of (ps ! 0)).kind ((terminal.Mark del.DoubleStar)) f.0) ∙ simp (append_assoc, append-nil), tt)

-- Pow =
pub law_173 : Law non.Pow (right_of productions 173) (rule.Operation OperationRule'.NoOperations)
unfolding productions
law_173 ps f = (refl, tt)

-- Primary = Num
pub law_174 : Law non.Primary (right_of productions 174) (rule.Primary PrimaryRule'.Number)
unfolding productions
law_174 ps f = (expr_words _ _ ∙ simp append-nil, tt)

-- Primary = null
pub law_175 : Law non.Primary (right_of productions 175) (rule.Primary PrimaryRule'.Null)
unfolding productions
law_175 ps f = (expr_words _ _ ∙ simp append-nil, tt)

-- Primary = Name
pub law_176 : Law non.Primary (right_of productions 176) (rule.Primary PrimaryRule'.Primary)
unfolding productions
law_176 ps f = (expr_words _ _ ∙ simp (append_assoc, append-nil), tt)

-- Primary = ( Args )
pub law_177 : Law non.Primary (right_of productions 177) (rule.Primary PrimaryRule'.Group)
unfolding productions
law_177 ps f = (expr_words _ _ ∙ simp (append_assoc, append-nil), tt)

-- Name = Id Suffix
pub law_178 : Law non.Name (right_of productions 178) (rule.Name NameRule'.Name)
unfolding productions
law_178 ps f = (simp append-nil, tt)

-- Suffix = . Id Suffix
pub law_179 : Law non.Suffix (right_of productions 179) (rule.Name NameRule'.Selected)
unfolding productions
law_179 ps f = (simp (append_assoc, append-nil), tt)

-- Suffix = ' Tick Suffix
pub law_180 : Law non.Suffix (right_of productions 180) (rule.Name NameRule'.Ticked)
unfolding productions
law_180 ps f = (simp (append_assoc, append-nil), tt)

-- Suffix = ( Args ) Suffix
pub law_181 : Law non.Suffix (right_of productions 181) (rule.Name NameRule'.Applied)
unfolding productions
law_181 ps f = (simp (append_assoc, append-nil), tt)

-- Suffix =
pub law_182 : Law non.Suffix (right_of productions 182) (rule.Name NameRule'.NoSuffixes)
unfolding productions
law_182 ps f = (refl, tt)

-- Tick = Id
pub law_183 : Law non.Tick (right_of productions 183) (rule.Attribute AttributeRule'.NamedAttribute)
unfolding productions
law_183 ps f = (simp append-nil, tt)

-- Tick = range
pub law_184 : Law non.Tick (right_of productions 184) (rule.Attribute AttributeRule'.RangeAttribute)
unfolding productions
law_184 ps f = (simp append-nil, tt)

-- Tick = ( Args )
pub law_185 : Law non.Tick (right_of productions 185) (rule.Attribute AttributeRule'.Qualified)
unfolding productions
law_185 ps f = (simp (append_assoc, append-nil), tt)
