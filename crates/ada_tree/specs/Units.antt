-- What becomes of compilation units and their context (Ada RM 10.1.1, 10.1.2), and packages (Ada RM 7.1, 7.2).
use Rattle.std.specs.Prelude.{List, ◌∷◌, Some, None, [], unwrap_or}
use Rattle.ada_syntax.specs.declared.units.ContextItem.TheVariants as context_item
use Rattle.ada_syntax.specs.declared.units.UnitForm.TheVariants as unit_form
use Rattle.tree_parts.specs.declared.unit_parts.UnitPart.TheVariants as unit_part
use Rattle.tree_parts.specs.declared.parts.Part.{Part}
use Rattle.tree_parts.specs.declared.parts.Part.TheVariants as part
use Rattle.ada_tree.specs.declared.rules.ContextRule.{ContextRule}
use Rattle.ada_tree.specs.declared.rules.ContextRule.TheVariants as context'
use Rattle.ada_tree.specs.declared.rules.ClauseRule.{ClauseRule}
use Rattle.ada_tree.specs.declared.rules.ClauseRule.TheVariants as clause'
use Rattle.ada_tree.specs.declared.rules.NamesRule.{NamesRule}
use Rattle.ada_tree.specs.declared.rules.NamesRule.TheVariants as names'
use Rattle.ada_tree.specs.declared.rules.UnitRule.{UnitRule}
use Rattle.ada_tree.specs.declared.rules.UnitRule.TheVariants as unit'
use Rattle.ada_tree.specs.declared.rules.PackageRule.{PackageRule}
use Rattle.ada_tree.specs.declared.rules.PackageRule.TheVariants as package'
use Rattle.tree_parts.specs.Operations.{joined}
use Rattle.tree_parts.specs.Parts.{◌!◌, after, aspects_of, context_of, decls_of, end_name_of, names_of, place_of, pragma_of, private_of, sub_of, unit_of}

-- Below, the parts after the parts of a production are taken from the front, and what the rule makes of them is put there.

abbrev pub context_rule : ContextRule → List Part → List Part
-- File = Start Unit
context_rule context'.File s = part.Unit (unit_part.SourceUnit (record { span = joined (unwrap_or (context_of (s ! 0)).edge (unit_of (s ! 1)).span) (unit_of (s ! 1)).span; context = (context_of (s ! 0)).value; unit = (unit_of (s ! 1)) })) ∷ after 2 s
-- Start = Pragma Start
context_rule context'.ContextPragma s = part.Unit (unit_part.Context (record { value = context_item.Pragma (pragma_of (s ! 0)) ∷ (context_of (s ! 1)).value; edge = Some (pragma_of (s ! 0)).span })) ∷ after 2 s
-- Start =
context_rule context'.NoContext s = part.Unit (unit_part.Context (record { value = []; edge = None })) ∷ s

abbrev pub clause_rule : ClauseRule → List Part → List Part
-- Start = with Id Ids ; Start
clause_rule clause'.ContextWith s = part.Unit (unit_part.Context (record { value = context_item.With ((place_of (s ! 1)) ∷ (names_of (s ! 2))) ∷ (context_of (s ! 4)).value; edge = Some (place_of (s ! 0)) })) ∷ after 5 s
-- Start = use Id Ids ; Start
clause_rule clause'.ContextUse s = part.Unit (unit_part.Context (record { value = context_item.Use ((place_of (s ! 1)) ∷ (names_of (s ! 2))) ∷ (context_of (s ! 4)).value; edge = Some (place_of (s ! 0)) })) ∷ after 5 s

abbrev pub names_rule : NamesRule → List Part → List Part
-- Ids = , Id Ids
names_rule names'.Names s = part.Unit (unit_part.Names ((place_of (s ! 1)) ∷ (names_of (s ! 2)))) ∷ after 3 s
-- Ids =
names_rule names'.NoNames s = part.Unit (unit_part.Names []) ∷ s
-- EndId = Id
names_rule names'.SomeEndName s = part.Unit (unit_part.EndName (Some (place_of (s ! 0)))) ∷ after 1 s
-- EndId =
names_rule names'.NoEndName s = part.Unit (unit_part.EndName None) ∷ s

abbrev pub unit_rule : UnitRule → List Part → List Part
-- Unit = package Pack
unit_rule unit'.UnitPackage s = part.Unit (unit_part.Unit (record { span = joined (place_of (s ! 0)) (unit_of (s ! 1)).span; form = (unit_of (s ! 1)).form })) ∷ after 2 s
-- Unit = Sub
unit_rule unit'.UnitSub s = part.Unit (unit_part.Unit (record { span = (sub_of (s ! 0)).span; form = unit_form.Sub (sub_of (s ! 0)) })) ∷ after 1 s
-- Priv = private Decls
unit_rule unit'.SomePrivate s = part.Unit (unit_part.Private (Some (decls_of (s ! 1)))) ∷ after 2 s
-- Priv =
unit_rule unit'.NoPrivate s = part.Unit (unit_part.Private None) ∷ s

abbrev pub package_rule : PackageRule → List Part → List Part
-- Pack = body Id Asp is Decls end EndId ;
package_rule package'.PackageBody s = part.Unit (unit_part.Unit (record { span = joined (place_of (s ! 0)) (place_of (s ! 7)); form = unit_form.PackageBody (record { name = (place_of (s ! 1)); aspects = (aspects_of (s ! 2)); declarations = (decls_of (s ! 4)); end_name = (end_name_of (s ! 6)) }) })) ∷ after 8 s
-- Pack = Id Asp is Decls Priv end EndId ;
package_rule package'.PackageSpec s = part.Unit (unit_part.Unit (record { span = joined (place_of (s ! 0)) (place_of (s ! 7)); form = unit_form.Package (record { name = (place_of (s ! 0)); aspects = (aspects_of (s ! 1)); declarations = (decls_of (s ! 3)); private = (private_of (s ! 4)); end_name = (end_name_of (s ! 6)) }) })) ∷ after 8 s
