-- The rules of productions make parts that read as their right sides.
use Rattle.std.proofs.Common.{refl, ap, ◌∙◌, append_assoc, append-nil}
use Rattle.ada_text.specs.declared.delimiters.Delimiter.TheVariants as del
use Rattle.ada_syntax.specs.Words.{Words}
use Rattle.ada_syntax.proofs.FoldedStatements.{decl_words}
use Rattle.grammar_table.specs.Parses.{right_of}
use Rattle.grammar_table.specs.Productions.{productions}
use Rattle.grammar_table.specs.declared.symbols.Nonterminal.TheVariants as non
use Rattle.grammar_table.specs.declared.symbols.Terminal.TheVariants as terminal
use Rattle.ada_tree.specs.declared.rules.ContextRule.TheVariants as ContextRule'
use Rattle.ada_tree.specs.declared.rules.ClauseRule.TheVariants as ClauseRule'
use Rattle.ada_tree.specs.declared.rules.DeclarationRule.TheVariants as DeclarationRule'
use Rattle.ada_tree.specs.declared.rules.NamesRule.TheVariants as NamesRule'
use Rattle.ada_tree.specs.declared.rules.OtherDeclarationRule.TheVariants as OtherDeclarationRule'
use Rattle.ada_tree.specs.declared.rules.UnitRule.TheVariants as UnitRule'
use Rattle.ada_tree.specs.declared.rules.PackageRule.TheVariants as PackageRule'
use Rattle.ada_tree.specs.declared.rules.Rule.TheVariants as rule
use Rattle.tree_parts.specs.Parts.{◌!◌, token_of, unit_of}
use Rattle.ada_tree.proofs.Joins.{flat2, flat5}
use Rattle.ada_tree.proofs.Phrases.{pack_words}
use Rattle.ada_tree.proofs.Texts.{Law, text, token_text}

-- File = Start Unit
pub law_0 : Law non.File (right_of productions 0) (rule.Context ContextRule'.File)
unfolding productions
law_0 ps f = (simp append-nil, tt)

-- Start = Pragma Start
pub law_1 : Law non.Start (right_of productions 1) (rule.Context ContextRule'.ContextPragma)
unfolding productions
law_1 ps f = (flat2 (text non.Pragma (ps ! 0)) (text non.Start (ps ! 1)), tt)

-- Start = with Id Ids ; Start
pub law_2 : Law non.Start (right_of productions 2) (rule.Clause ClauseRule'.ContextWith)
unfolding productions
law_2 ps f = (simp (append_assoc, append-nil), tt)

-- Start = use Id Ids ; Start
pub law_3 : Law non.Start (right_of productions 3) (rule.Clause ClauseRule'.ContextUse)
unfolding productions
law_3 ps f = (simp (append_assoc, append-nil), tt)

-- Start =
pub law_4 : Law non.Start (right_of productions 4) (rule.Context ContextRule'.NoContext)
unfolding productions
law_4 ps f = (refl, tt)

-- Ids = , Id Ids
pub law_5 : Law non.Ids (right_of productions 5) (rule.Names NamesRule'.Names)
unfolding productions
law_5 ps f = (simp (append_assoc, append-nil), tt)

-- Ids =
pub law_6 : Law non.Ids (right_of productions 6) (rule.Names NamesRule'.NoNames)
unfolding productions
law_6 ps f = (refl, tt)

-- Unit = package Pack
pub law_7 : Law non.Unit (right_of productions 7) (rule.Unit UnitRule'.UnitPackage)
unfolding productions
law_7 ps f = (ap (λ (z : Words). z) (pack_words (unit_of (ps ! 1)).form f.1.0) ∙ simp append-nil, tt)

-- Unit = Sub
pub law_8 : Law non.Unit (right_of productions 8) (rule.Unit UnitRule'.UnitSub)
unfolding productions
law_8 ps f = (simp (append_assoc, append-nil), tt)

-- Pack = body Id Asp is Decls end EndId ;
pub law_9 : Law non.Pack (right_of productions 9) (rule.Package PackageRule'.PackageBody)
unfolding productions
law_9 ps f = (simp (append_assoc, append-nil), tt)

-- Pack = Id Asp is Decls Priv end EndId ;
pub law_10 : Law non.Pack (right_of productions 10) (rule.Package PackageRule'.PackageSpec)
unfolding productions
law_10 ps f = (simp (append_assoc, append-nil), tt)

-- Priv = private Decls
pub law_11 : Law non.Priv (right_of productions 11) (rule.Unit UnitRule'.SomePrivate)
unfolding productions
law_11 ps f = (simp append-nil, tt)

-- Priv =
pub law_12 : Law non.Priv (right_of productions 12) (rule.Unit UnitRule'.NoPrivate)
unfolding productions
law_12 ps f = (refl, tt)

-- EndId = Id
pub law_13 : Law non.EndId (right_of productions 13) (rule.Names NamesRule'.SomeEndName)
unfolding productions
law_13 ps f = (simp append-nil, tt)

-- EndId =
pub law_14 : Law non.EndId (right_of productions 14) (rule.Names NamesRule'.NoEndName)
unfolding productions
law_14 ps f = (refl, tt)

-- Decls = Decl Decls
pub law_15 : Law non.Decls (right_of productions 15) (rule.Declaration DeclarationRule'.Decls)
unfolding productions
law_15 ps f = (simp append-nil, tt)

-- Decls =
pub law_16 : Law non.Decls (right_of productions 16) (rule.Declaration DeclarationRule'.NoDecls)
unfolding productions
law_16 ps f = (refl, tt)

-- Decl = type Id is TypeDef ;
pub law_17 : Law non.Decl (right_of productions 17) (rule.Declaration DeclarationRule'.Type)
unfolding productions
law_17 ps f = (decl_words _ _ ∙ simp (append_assoc, append-nil), tt)

-- Decl = subtype Id is SubInd ;
pub law_18 : Law non.Decl (right_of productions 18) (rule.Declaration DeclarationRule'.Subtype)
unfolding productions
law_18 ps f = (decl_words _ _ ∙ simp (append_assoc, append-nil), tt)

-- Decl = Id Ids : Obj ;
pub law_19 : Law non.Decl (right_of productions 19) (rule.Declaration DeclarationRule'.Object)
unfolding productions
law_19 ps f = (decl_words _ _ ∙ flat5 (token_text (terminal.Identifier) (token_of (ps ! 0))) (text non.Ids (ps ! 1)) (token_text ((terminal.Mark del.Colon)) (token_of (ps ! 2))) (text non.Obj (ps ! 3)) (token_text ((terminal.Mark del.Semicolon)) (token_of (ps ! 4))), tt)

-- Decl = Sub
pub law_20 : Law non.Decl (right_of productions 20) (rule.OtherDeclaration OtherDeclarationRule'.DeclSub)
unfolding productions
law_20 ps f = (decl_words _ _ ∙ simp (append_assoc, append-nil), tt)

-- Decl = Pragma
pub law_21 : Law non.Decl (right_of productions 21) (rule.OtherDeclaration OtherDeclarationRule'.DeclPragma)
unfolding productions
law_21 ps f = (decl_words _ _ ∙ simp (append_assoc, append-nil), tt)

-- Decl = use Id Ids ;
pub law_22 : Law non.Decl (right_of productions 22) (rule.OtherDeclaration OtherDeclarationRule'.DeclUse)
unfolding productions
law_22 ps f = (decl_words _ _ ∙ simp (append_assoc, append-nil), tt)
