-- What becomes of primaries and names (Ada RM 4.1, 4.4).
use Rattle.std.specs.Prelude.{List, ◌∷◌, Some, None, [], unwrap_or}
use Rattle.ada_syntax.specs.declared.expressions.Attribute.TheVariants as attribute
use Rattle.ada_syntax.specs.declared.expressions.ExprNode.TheVariants as node
use Rattle.ada_syntax.specs.declared.expressions.Suffix.TheVariants as suffix
use Rattle.tree_parts.specs.declared.expression_parts.ExpressionPart.TheVariants as expression_part
use Rattle.tree_parts.specs.declared.parts.Part.{Part}
use Rattle.tree_parts.specs.declared.parts.Part.TheVariants as part
use Rattle.ada_tree.specs.declared.rules.PrimaryRule.{PrimaryRule}
use Rattle.ada_tree.specs.declared.rules.PrimaryRule.TheVariants as primary'
use Rattle.ada_tree.specs.declared.rules.NameRule.{NameRule}
use Rattle.ada_tree.specs.declared.rules.NameRule.TheVariants as name'
use Rattle.ada_tree.specs.declared.rules.AttributeRule.{AttributeRule}
use Rattle.ada_tree.specs.declared.rules.AttributeRule.TheVariants as attribute'
use Rattle.tree_parts.specs.Missing.{expr_at}
use Rattle.tree_parts.specs.Operations.{joined}
use Rattle.tree_parts.specs.Operators.{number_of}
use Rattle.tree_parts.specs.Parts.{◌!◌, after, args_of, attribute_of, name_of, place_of, suffixes_of, token_of}

-- Below, the parts after the parts of a production are taken from the front, and what the rule makes of them is put there.

abbrev pub primary_rule : PrimaryRule → List Part → List Part
-- Primary = Num
primary_rule primary'.Number s = part.Expression (expression_part.Expr (expr_at (token_of (s ! 0)).span (node.Number (number_of (token_of (s ! 0)).kind)))) ∷ after 1 s
-- Primary = null
primary_rule primary'.Null s = part.Expression (expression_part.Expr (expr_at (place_of (s ! 0)) node.Null)) ∷ after 1 s
-- Primary = Name
primary_rule primary'.Primary s = part.Expression (expression_part.Expr (expr_at (name_of (s ! 0)).span (node.Name (name_of (s ! 0))))) ∷ after 1 s
-- Primary = ( Args )
primary_rule primary'.Group s = part.Expression (expression_part.Expr (expr_at (joined (place_of (s ! 0)) (place_of (s ! 2))) (node.Group (args_of (s ! 1))))) ∷ after 3 s

abbrev pub name_rule : NameRule → List Part → List Part
-- Name = Id Suffix
name_rule name'.Name s = part.Expression (expression_part.Name (record { span = joined (place_of (s ! 0)) (unwrap_or (suffixes_of (s ! 1)).edge (place_of (s ! 0))); first = (place_of (s ! 0)); suffixes = (suffixes_of (s ! 1)).value })) ∷ after 2 s
-- Suffix = . Id Suffix
name_rule name'.Selected s = part.Expression (expression_part.Suffixes (record { value = suffix.Selected (place_of (s ! 1)) ∷ (suffixes_of (s ! 2)).value; edge = Some (unwrap_or (suffixes_of (s ! 2)).edge (place_of (s ! 1))) })) ∷ after 3 s
-- Suffix = ' Tick Suffix
name_rule name'.Ticked s = part.Expression (expression_part.Suffixes (record { value = suffix.Ticked (place_of (s ! 0)) (attribute_of (s ! 1)).value ∷ (suffixes_of (s ! 2)).value; edge = Some (unwrap_or (suffixes_of (s ! 2)).edge (attribute_of (s ! 1)).end) })) ∷ after 3 s
-- Suffix = ( Args ) Suffix
name_rule name'.Applied s = part.Expression (expression_part.Suffixes (record { value = suffix.Applied (args_of (s ! 1)) ∷ (suffixes_of (s ! 3)).value; edge = Some (unwrap_or (suffixes_of (s ! 3)).edge (place_of (s ! 2))) })) ∷ after 4 s
-- Suffix =
name_rule name'.NoSuffixes s = part.Expression (expression_part.Suffixes (record { value = []; edge = None })) ∷ s

abbrev pub attribute_rule : AttributeRule → List Part → List Part
-- Tick = Id
attribute_rule attribute'.NamedAttribute s = part.Expression (expression_part.Attribute (record { value = attribute.Named (place_of (s ! 0)); end = (place_of (s ! 0)) })) ∷ after 1 s
-- Tick = range
attribute_rule attribute'.RangeAttribute s = part.Expression (expression_part.Attribute (record { value = attribute.Range; end = (place_of (s ! 0)) })) ∷ after 1 s
-- Tick = ( Args )
attribute_rule attribute'.Qualified s = part.Expression (expression_part.Attribute (record { value = attribute.Qualified (args_of (s ! 1)); end = (place_of (s ! 2)) })) ∷ after 3 s
