-- The rules of productions make parts that read as their right sides.
use Rattle.std.proofs.Common.{refl, ◌∙◌, append_assoc, append-nil}
use Rattle.ada_text.specs.declared.reserved.Reserved.TheVariants as res
use Rattle.ada_text.specs.declared.delimiters.Delimiter.TheVariants as del
use Rattle.grammar_table.specs.Parses.{right_of}
use Rattle.grammar_table.specs.Productions.{productions}
use Rattle.grammar_table.specs.declared.symbols.Nonterminal.TheVariants as non
use Rattle.grammar_table.specs.declared.symbols.Terminal.TheVariants as terminal
use Rattle.ada_tree.specs.declared.rules.IndexRule.TheVariants as IndexRule'
use Rattle.ada_tree.specs.declared.rules.ObjectRule.TheVariants as ObjectRule'
use Rattle.ada_tree.specs.declared.rules.OptionalRule.TheVariants as OptionalRule'
use Rattle.ada_tree.specs.declared.rules.SubtypeRule.TheVariants as SubtypeRule'
use Rattle.ada_tree.specs.declared.rules.TypeFormRule.TheVariants as TypeFormRule'
use Rattle.ada_tree.specs.declared.rules.CompositeRule.TheVariants as CompositeRule'
use Rattle.ada_tree.specs.declared.rules.Rule.TheVariants as rule
use Rattle.tree_parts.specs.Parts.{◌!◌, index_form_of, object_of, token_of}
use Rattle.ada_tree.proofs.Joins.{flat2, flat5, flat6, record5}
use Rattle.ada_tree.proofs.Phrases.{box_words, object_words}
use Rattle.ada_tree.proofs.Texts.{Law, text, token_text}

-- TypeDef = range Simple .. Simple
pub law_23 : Law non.TypeDef (right_of productions 23) (rule.TypeForm TypeFormRule'.Range)
unfolding productions
law_23 ps f = (simp (append_assoc, append-nil), tt)

-- TypeDef = mod Simple
pub law_24 : Law non.TypeDef (right_of productions 24) (rule.TypeForm TypeFormRule'.Modular)
unfolding productions
law_24 ps f = (simp append-nil, tt)

-- TypeDef = ( Id Ids )
pub law_25 : Law non.TypeDef (right_of productions 25) (rule.TypeForm TypeFormRule'.Enumeration)
unfolding productions
law_25 ps f = (simp (append_assoc, append-nil), tt)

-- TypeDef = array ( Index ) of SubInd
pub law_26 : Law non.TypeDef (right_of productions 26) (rule.Composite CompositeRule'.Array)
unfolding productions
law_26 ps f = (flat6 (token_text ((terminal.Word res.Array)) (token_of (ps ! 0))) (token_text ((terminal.Mark del.Open)) (token_of (ps ! 1))) (text non.Index (ps ! 2)) (token_text ((terminal.Mark del.Close)) (token_of (ps ! 3))) (token_text ((terminal.Word res.Of)) (token_of (ps ! 4))) (text non.SubInd (ps ! 5)), tt)

-- TypeDef = record Comp Comps end record
pub law_27 : Law non.TypeDef (right_of productions 27) (rule.Composite CompositeRule'.Record)
unfolding productions
law_27 ps f = (record5 (token_text ((terminal.Word res.Record)) (token_of (ps ! 0))) (text non.Comp (ps ! 1)) (text non.Comps (ps ! 2)) (token_text ((terminal.Word res.End)) (token_of (ps ! 3))) (token_text ((terminal.Word res.Record)) (token_of (ps ! 4))), tt)

-- TypeDef = new SubInd
pub law_28 : Law non.TypeDef (right_of productions 28) (rule.TypeForm TypeFormRule'.Derived)
unfolding productions
law_28 ps f = (flat2 (token_text ((terminal.Word res.New)) (token_of (ps ! 0))) (text non.SubInd (ps ! 1)), tt)

-- Index = Simple IdxTail
pub law_29 : Law non.Index (right_of productions 29) (rule.Index IndexRule'.Index)
unfolding productions
law_29 ps f = (simp append-nil, tt)

-- IdxTail = range Box
pub law_30 : Law non.IdxTail (right_of productions 30) rule.AfterWord
unfolding productions
law_30 ps f = (box_words (index_form_of (ps ! 1)) f.1.0 ∙ simp append-nil, tt)

-- IdxTail = .. Simple
pub law_31 : Law non.IdxTail (right_of productions 31) (rule.Index IndexRule'.IndexUpTo)
unfolding productions
law_31 ps f = (simp append-nil, tt)

-- IdxTail =
pub law_32 : Law non.IdxTail (right_of productions 32) (rule.Index IndexRule'.IndexAlone)
unfolding productions
law_32 ps f = (refl, tt)

-- Box = <>
pub law_33 : Law non.Box (right_of productions 33) (rule.Index IndexRule'.IndexUnconstrained)
unfolding productions
law_33 ps f = (simp append-nil, tt)

-- Box = Simple .. Simple
pub law_34 : Law non.Box (right_of productions 34) (rule.Index IndexRule'.IndexWithin)
unfolding productions
law_34 ps f = (simp (append_assoc, append-nil), tt)

-- Comp = Id Ids : SubInd ;
pub law_35 : Law non.Comp (right_of productions 35) (rule.Subtype SubtypeRule'.Component)
unfolding productions
law_35 ps f = (flat5 (token_text (terminal.Identifier) (token_of (ps ! 0))) (text non.Ids (ps ! 1)) (token_text ((terminal.Mark del.Colon)) (token_of (ps ! 2))) (text non.SubInd (ps ! 3)) (token_text ((terminal.Mark del.Semicolon)) (token_of (ps ! 4))), tt)

-- Comps = Comp Comps
pub law_36 : Law non.Comps (right_of productions 36) (rule.Subtype SubtypeRule'.Components)
unfolding productions
law_36 ps f = (simp (append_assoc, append-nil), tt)

-- Comps =
pub law_37 : Law non.Comps (right_of productions 37) (rule.Subtype SubtypeRule'.NoComponents)
unfolding productions
law_37 ps f = (refl, tt)

-- SubInd = Name SubTail
pub law_38 : Law non.SubInd (right_of productions 38) (rule.Subtype SubtypeRule'.SubInd)
unfolding productions
law_38 ps f = (simp (append_assoc, append-nil), tt)

-- SubTail = range Simple .. Simple
pub law_39 : Law non.SubTail (right_of productions 39) (rule.Subtype SubtypeRule'.SomeBounds)
unfolding productions
law_39 ps f = (simp (append_assoc, append-nil), tt)

-- SubTail =
pub law_40 : Law non.SubTail (right_of productions 40) (rule.Subtype SubtypeRule'.NoBounds)
unfolding productions
law_40 ps f = (refl, tt)

-- Obj = constant Const
pub law_41 : Law non.Obj (right_of productions 41) rule.AfterWord
unfolding productions
law_41 ps f = (object_words (object_of (ps ! 1)) f.1.0 ∙ simp (append_assoc, append-nil), tt)

-- Obj = SubInd Init
pub law_42 : Law non.Obj (right_of productions 42) (rule.Object ObjectRule'.Variable)
unfolding productions
law_42 ps f = (simp (append_assoc, append-nil), tt)

-- Const = := Expr
pub law_43 : Law non.Const (right_of productions 43) (rule.Object ObjectRule'.NamedNumber)
unfolding productions
law_43 ps f = (simp append-nil, refl)

-- Const = SubInd Init
pub law_44 : Law non.Const (right_of productions 44) (rule.Object ObjectRule'.Constant)
unfolding productions
law_44 ps f = (simp (append_assoc, append-nil), refl)

-- Init = := Expr
pub law_45 : Law non.Init (right_of productions 45) (rule.Optional OptionalRule'.SomeExprAfter)
unfolding productions
law_45 ps f = (simp append-nil, tt)

-- Init =
pub law_46 : Law non.Init (right_of productions 46) (rule.Optional OptionalRule'.NoExpr)
unfolding productions
law_46 ps f = (refl, tt)
