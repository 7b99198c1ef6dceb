-- What becomes of declarations (Ada RM 3.2.1, 3.2.2, 3.3.1, 3.11, 8.4).
use Rattle.std.specs.Prelude.{List, ◌∷◌, true, false, Some, None, []}
use Rattle.ada_syntax.specs.declared.declarations.DeclForm.TheVariants as decl_form
use Rattle.tree_parts.specs.declared.declaration_parts.DeclarationPart.TheVariants as declaration_part
use Rattle.tree_parts.specs.declared.parts.Part.{Part}
use Rattle.tree_parts.specs.declared.parts.Part.TheVariants as part
use Rattle.ada_tree.specs.declared.rules.DeclarationRule.{DeclarationRule}
use Rattle.ada_tree.specs.declared.rules.DeclarationRule.TheVariants as declaration'
use Rattle.ada_tree.specs.declared.rules.OtherDeclarationRule.{OtherDeclarationRule}
use Rattle.ada_tree.specs.declared.rules.OtherDeclarationRule.TheVariants as other_declaration'
use Rattle.ada_tree.specs.declared.rules.ObjectRule.{ObjectRule}
use Rattle.ada_tree.specs.declared.rules.ObjectRule.TheVariants as object'
use Rattle.tree_parts.specs.Missing.{decl_at}
use Rattle.tree_parts.specs.Operations.{joined}
use Rattle.tree_parts.specs.Parts.{◌!◌, after, decl_of, decls_of, expr_of, names_of, object_of, optional_expr_of, place_of, pragma_of, sub_ind_of, sub_of, type_def_of}

-- Below, the parts after the parts of a production are taken from the front, and what the rule makes of them is put there.

abbrev pub declaration_rule : DeclarationRule → List Part → List Part
-- Decls = Decl Decls
declaration_rule declaration'.Decls s = part.Declaration (declaration_part.Decls ((decl_of (s ! 0)) ∷ (decls_of (s ! 1)))) ∷ after 2 s
-- Decls =
declaration_rule declaration'.NoDecls s = part.Declaration (declaration_part.Decls []) ∷ s
-- Decl = type Id is TypeDef ;
declaration_rule declaration'.Type s = part.Declaration (declaration_part.Decl (decl_at (joined (place_of (s ! 0)) (place_of (s ! 4))) (decl_form.Type (place_of (s ! 1)) (type_def_of (s ! 3))))) ∷ after 5 s
-- Decl = subtype Id is SubInd ;
declaration_rule declaration'.Subtype s = part.Declaration (declaration_part.Decl (decl_at (joined (place_of (s ! 0)) (place_of (s ! 4))) (decl_form.Subtype (place_of (s ! 1)) (sub_ind_of (s ! 3))))) ∷ after 5 s
-- Decl = Id Ids : Obj ;
declaration_rule declaration'.Object s = part.Declaration (declaration_part.Decl (decl_at (joined (place_of (s ! 0)) (place_of (s ! 4))) (decl_form.Object ((place_of (s ! 0)) ∷ (names_of (s ! 1))) (object_of (s ! 3))))) ∷ after 5 s

abbrev pub other_declaration_rule : OtherDeclarationRule → List Part → List Part
-- Decl = Sub
other_declaration_rule other_declaration'.DeclSub s = part.Declaration (declaration_part.Decl (decl_at (sub_of (s ! 0)).span (decl_form.Sub (sub_of (s ! 0))))) ∷ after 1 s
-- Decl = Pragma
other_declaration_rule other_declaration'.DeclPragma s = part.Declaration (declaration_part.Decl (decl_at (pragma_of (s ! 0)).span (decl_form.Pragma (pragma_of (s ! 0))))) ∷ after 1 s
-- Decl = use Id Ids ;
other_declaration_rule other_declaration'.DeclUse s = part.Declaration (declaration_part.Decl (decl_at (joined (place_of (s ! 0)) (place_of (s ! 3))) (decl_form.Use ((place_of (s ! 1)) ∷ (names_of (s ! 2)))))) ∷ after 4 s

abbrev pub object_rule : ObjectRule → List Part → List Part
-- Obj = SubInd Init
object_rule object'.Variable s = part.Declaration (declaration_part.Object (record { constant = false; subtype = Some (sub_ind_of (s ! 0)); value = (optional_expr_of (s ! 1)) })) ∷ after 2 s
-- Const = := Expr
object_rule object'.NamedNumber s = part.Declaration (declaration_part.Object (record { constant = true; subtype = None; value = Some (expr_of (s ! 1)) })) ∷ after 2 s
-- Const = SubInd Init
object_rule object'.Constant s = part.Declaration (declaration_part.Object (record { constant = true; subtype = Some (sub_ind_of (s ! 0)); value = (optional_expr_of (s ! 1)) })) ∷ after 2 s
