-- The rules of productions make parts that read as their right sides.
use Rattle.std.proofs.Common.{refl, ◌∙◌, append_assoc, append-nil}
use Rattle.ada_text.specs.declared.delimiters.Delimiter.TheVariants as del
use Rattle.grammar_table.specs.Parses.{right_of}
use Rattle.grammar_table.specs.Productions.{productions}
use Rattle.grammar_table.specs.declared.symbols.Nonterminal.TheVariants as non
use Rattle.grammar_table.specs.declared.symbols.Terminal.TheVariants as terminal
use Rattle.ada_tree.specs.declared.rules.ArgsRule.TheVariants as ArgsRule'
use Rattle.ada_tree.specs.declared.rules.AspectRule.TheVariants as AspectRule'
use Rattle.ada_tree.specs.declared.rules.ModeRule.TheVariants as ModeRule'
use Rattle.ada_tree.specs.declared.rules.OptionalRule.TheVariants as OptionalRule'
use Rattle.ada_tree.specs.declared.rules.ParamRule.TheVariants as ParamRule'
use Rattle.ada_tree.specs.declared.rules.SubprogramRule.TheVariants as SubprogramRule'
use Rattle.ada_tree.specs.declared.rules.BodyRule.TheVariants as BodyRule'
use Rattle.ada_tree.specs.declared.rules.Rule.TheVariants as rule
use Rattle.tree_parts.specs.Parts.{◌!◌, args_of, mode_of, token_of}
use Rattle.ada_tree.proofs.Joins.{flat3, flat5}
use Rattle.ada_tree.proofs.Phrases.{args_words, mode_words}
use Rattle.ada_tree.proofs.Texts.{Law, text, token_text}

-- Sub = procedure Id Params Asp Body
pub law_47 : Law non.Sub (right_of productions 47) (rule.Subprogram SubprogramRule'.Procedure)
unfolding productions
law_47 ps f = (simp (append_assoc, append-nil), tt)

-- Sub = function Id Params return Name Asp Body
pub law_48 : Law non.Sub (right_of productions 48) (rule.Subprogram SubprogramRule'.Function)
unfolding productions
law_48 ps f = (simp (append_assoc, append-nil), tt)

-- Params = ( Param ParMore )
pub law_49 : Law non.Params (right_of productions 49) (rule.Param ParamRule'.ParamGroup)
unfolding productions
law_49 ps f = (simp (append_assoc, append-nil), tt)

-- Params =
pub law_50 : Law non.Params (right_of productions 50) (rule.Param ParamRule'.NoParams)
unfolding productions
law_50 ps f = (refl, tt)

-- ParMore = ; Param ParMore
pub law_51 : Law non.ParMore (right_of productions 51) (rule.Param ParamRule'.Params)
unfolding productions
law_51 ps f = (flat3 (token_text ((terminal.Mark del.Semicolon)) (token_of (ps ! 0))) (text non.Param (ps ! 1)) (text non.ParMore (ps ! 2)), tt)

-- ParMore =
pub law_52 : Law non.ParMore (right_of productions 52) (rule.Param ParamRule'.NoParams)
unfolding productions
law_52 ps f = (refl, tt)

-- Param = Id Ids : Mode SubInd
pub law_53 : Law non.Param (right_of productions 53) (rule.Param ParamRule'.Param)
unfolding productions
law_53 ps f = (flat5 (token_text (terminal.Identifier) (token_of (ps ! 0))) (text non.Ids (ps ! 1)) (token_text ((terminal.Mark del.Colon)) (token_of (ps ! 2))) (text non.Mode (ps ! 3)) (text non.SubInd (ps ! 4)), tt)

-- Mode = in InOut
pub law_54 : Law non.Mode (right_of productions 54) rule.AfterWord
unfolding productions
law_54 ps f = (mode_words (mode_of (ps ! 1)) f.1.0 ∙ simp append-nil, tt)

-- Mode = out
pub law_55 : Law non.Mode (right_of productions 55) (rule.Mode ModeRule'.ModeOut)
unfolding productions
law_55 ps f = (simp append-nil, tt)

-- Mode =
pub law_56 : Law non.Mode (right_of productions 56) (rule.Mode ModeRule'.ModeUnstated)
unfolding productions
law_56 ps f = (refl, tt)

-- InOut = out
pub law_57 : Law non.InOut (right_of productions 57) (rule.Mode ModeRule'.ModeInOut)
unfolding productions
law_57 ps f = (simp append-nil, tt)

-- InOut =
pub law_58 : Law non.InOut (right_of productions 58) (rule.Mode ModeRule'.ModeIn)
unfolding productions
law_58 ps f = (refl, tt)

-- Body = ;
pub law_59 : Law non.Body (right_of productions 59) (rule.Body BodyRule'.NoBody)
unfolding productions
law_59 ps f = (simp append-nil, tt)

-- Body = is Decls begin Stmts end EndId ;
pub law_60 : Law non.Body (right_of productions 60) (rule.Body BodyRule'.SomeBody)
unfolding productions
law_60 ps f = (simp (append_assoc, append-nil), tt)

-- Asp = with Aspect AspMore
pub law_61 : Law non.Asp (right_of productions 61) (rule.Aspect AspectRule'.Aspects)
unfolding productions
law_61 ps f = (simp (append_assoc, append-nil), tt)

-- Asp =
pub law_62 : Law non.Asp (right_of productions 62) (rule.Aspect AspectRule'.NoAspects)
unfolding productions
law_62 ps f = (refl, tt)

-- AspMore = , Aspect AspMore
pub law_63 : Law non.AspMore (right_of productions 63) (rule.Aspect AspectRule'.Aspects)
unfolding productions
law_63 ps f = (simp (append_assoc, append-nil), tt)

-- AspMore =
pub law_64 : Law non.AspMore (right_of productions 64) (rule.Aspect AspectRule'.NoAspects)
unfolding productions
law_64 ps f = (refl, tt)

-- Aspect = Id AspVal
pub law_65 : Law non.Aspect (right_of productions 65) (rule.Aspect AspectRule'.Aspect)
unfolding productions
law_65 ps f = (simp append-nil, tt)

-- AspVal = => Item
pub law_66 : Law non.AspVal (right_of productions 66) (rule.Optional OptionalRule'.SomeItem)
unfolding productions
law_66 ps f = (simp append-nil, tt)

-- AspVal =
pub law_67 : Law non.AspVal (right_of productions 67) (rule.Optional OptionalRule'.NoItem)
unfolding productions
law_67 ps f = (refl, tt)

-- Pragma = pragma Id PragArg ;
pub law_68 : Law non.Pragma (right_of productions 68) (rule.Aspect AspectRule'.Pragma)
unfolding productions
law_68 ps f = (simp (append_assoc, append-nil), tt)

-- PragArg = ( Args )
pub law_69 : Law non.PragArg (right_of productions 69) (rule.Args ArgsRule'.ArgGroup)
unfolding productions
law_69 ps f = (args_words (args_of (ps ! 1)) f.1.0 ∙ simp (append_assoc, append-nil), tt)

-- PragArg =
pub law_70 : Law non.PragArg (right_of productions 70) (rule.Args ArgsRule'.NoArgs)
unfolding productions
law_70 ps f = (refl, tt)
