-- What becomes of subprograms, aspects and pragmas (Ada RM 2.8, 6.1, 6.3, 13.1.1).
use Rattle.std.specs.Prelude.{List, ◌∷◌, Some, None, []}
use Rattle.ada_syntax.specs.declared.declarations.Mode.TheVariants as mode
use Rattle.tree_parts.specs.declared.declaration_parts.DeclarationPart.TheVariants as declaration_part
use Rattle.tree_parts.specs.declared.subprogram_parts.SubprogramPart.TheVariants as subprogram_part
use Rattle.tree_parts.specs.declared.parts.Part.{Part}
use Rattle.tree_parts.specs.declared.parts.Part.TheVariants as part
use Rattle.ada_tree.specs.declared.rules.SubprogramRule.{SubprogramRule}
use Rattle.ada_tree.specs.declared.rules.SubprogramRule.TheVariants as subprogram'
use Rattle.ada_tree.specs.declared.rules.BodyRule.{BodyRule}
use Rattle.ada_tree.specs.declared.rules.BodyRule.TheVariants as body'
use Rattle.ada_tree.specs.declared.rules.ParamRule.{ParamRule}
use Rattle.ada_tree.specs.declared.rules.ParamRule.TheVariants as param'
use Rattle.ada_tree.specs.declared.rules.ModeRule.{ModeRule}
use Rattle.ada_tree.specs.declared.rules.ModeRule.TheVariants as mode'
use Rattle.ada_tree.specs.declared.rules.AspectRule.{AspectRule}
use Rattle.ada_tree.specs.declared.rules.AspectRule.TheVariants as aspect'
use Rattle.tree_parts.specs.Ends.{item_end}
use Rattle.tree_parts.specs.Operations.{joined}
use Rattle.tree_parts.specs.Parts.{◌!◌, after, args_of, aspect_of, aspects_of, body_of, decls_of, end_name_of, mode_of, name_of, names_of, optional_item_of, param_of, params_of, place_of, stmts_of, sub_ind_of}

-- Below, the parts after the parts of a production are taken from the front, and what the rule makes of them is put there.

abbrev pub subprogram_rule : SubprogramRule → List Part → List Part
-- Sub = procedure Id Params Asp Body
subprogram_rule subprogram'.Procedure s = part.Declaration (declaration_part.Sub (record { span = joined (place_of (s ! 0)) (body_of (s ! 4)).end; name = (place_of (s ! 1)); params = (params_of (s ! 2)); result = None; aspects = (aspects_of (s ! 3)); body = (body_of (s ! 4)).value })) ∷ after 5 s
-- Sub = function Id Params return Name Asp Body
subprogram_rule subprogram'.Function s = part.Declaration (declaration_part.Sub (record { span = joined (place_of (s ! 0)) (body_of (s ! 6)).end; name = (place_of (s ! 1)); params = (params_of (s ! 2)); result = Some (name_of (s ! 4)); aspects = (aspects_of (s ! 5)); body = (body_of (s ! 6)).value })) ∷ after 7 s

abbrev pub body_rule : BodyRule → List Part → List Part
-- Body = ;
body_rule body'.NoBody s = part.Declaration (declaration_part.Body (record { value = None; end = (place_of (s ! 0)) })) ∷ after 1 s
-- Body = is Decls begin Stmts end EndId ;
body_rule body'.SomeBody s = part.Declaration (declaration_part.Body (record { value = Some (record { declarations = (decls_of (s ! 1)); statements = (stmts_of (s ! 3)); end_name = (end_name_of (s ! 5)) }); end = (place_of (s ! 6)) })) ∷ after 7 s

abbrev pub param_rule : ParamRule → List Part → List Part
-- Params = ( Param ParMore )
param_rule param'.ParamGroup s = part.Subprogram (subprogram_part.Params ((param_of (s ! 1)) ∷ (params_of (s ! 2)))) ∷ after 4 s
-- Params = | ParMore =
param_rule param'.NoParams s = part.Subprogram (subprogram_part.Params []) ∷ s
-- ParMore = ; Param ParMore
param_rule param'.Params s = part.Subprogram (subprogram_part.Params ((param_of (s ! 1)) ∷ (params_of (s ! 2)))) ∷ after 3 s
-- Param = Id Ids : Mode SubInd
param_rule param'.Param s = part.Subprogram (subprogram_part.Param (record { span = joined (place_of (s ! 0)) (sub_ind_of (s ! 4)).span; names = (place_of (s ! 0)) ∷ (names_of (s ! 1)); mode = (mode_of (s ! 3)); subtype = (sub_ind_of (s ! 4)) })) ∷ after 5 s

abbrev pub mode_rule : ModeRule → List Part → List Part
-- Mode = out
mode_rule mode'.ModeOut s = part.Subprogram (subprogram_part.Mode mode.Out) ∷ after 1 s
-- Mode =
mode_rule mode'.ModeUnstated s = part.Subprogram (subprogram_part.Mode mode.Unstated) ∷ s
-- InOut = out
mode_rule mode'.ModeInOut s = part.Subprogram (subprogram_part.Mode mode.InOut) ∷ after 1 s
-- InOut =
mode_rule mode'.ModeIn s = part.Subprogram (subprogram_part.Mode mode.In) ∷ s

abbrev pub aspect_rule : AspectRule → List Part → List Part
-- Asp = with Aspect AspMore | AspMore = , Aspect AspMore
aspect_rule aspect'.Aspects s = part.Subprogram (subprogram_part.Aspects ((aspect_of (s ! 1)) ∷ (aspects_of (s ! 2)))) ∷ after 3 s
-- Asp = | AspMore =
aspect_rule aspect'.NoAspects s = part.Subprogram (subprogram_part.Aspects []) ∷ s
-- Aspect = Id AspVal
aspect_rule aspect'.Aspect s = part.Subprogram (subprogram_part.Aspect (record { span = joined (place_of (s ! 0)) (item_end (optional_item_of (s ! 1)) (place_of (s ! 0))); name = (place_of (s ! 0)); value = (optional_item_of (s ! 1)) })) ∷ after 2 s
-- Pragma = pragma Id PragArg ;
aspect_rule aspect'.Pragma s = part.Declaration (declaration_part.Pragma (record { span = joined (place_of (s ! 0)) (place_of (s ! 3)); name = (place_of (s ! 1)); args = (args_of (s ! 2)) })) ∷ after 4 s
