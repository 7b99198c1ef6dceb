-- What becomes of ranges, arguments, and conditional and quantified expressions (Ada RM 3.5, 4.3, 4.5.7, 4.5.8, 6.4).
use Rattle.std.specs.Prelude.{List, ◌∷◌, Some, None, [], unwrap_or}
use Rattle.ada_syntax.specs.declared.expressions.ArgChoice.TheVariants as arg_choice
use Rattle.ada_syntax.specs.declared.expressions.ItemForm.TheVariants as item_form
use Rattle.tree_parts.specs.declared.relations.ArgTail.TheVariants as arg_tail
use Rattle.tree_parts.specs.declared.item_parts.ItemPart.TheVariants as item_part
use Rattle.tree_parts.specs.declared.parts.Part.{Part}
use Rattle.tree_parts.specs.declared.parts.Part.TheVariants as part
use Rattle.ada_tree.specs.declared.rules.OptionalRule.{OptionalRule}
use Rattle.ada_tree.specs.declared.rules.OptionalRule.TheVariants as optional'
use Rattle.ada_tree.specs.declared.rules.ItemRule.{ItemRule}
use Rattle.ada_tree.specs.declared.rules.ItemRule.TheVariants as item'
use Rattle.ada_tree.specs.declared.rules.ConditionalRule.{ConditionalRule}
use Rattle.ada_tree.specs.declared.rules.ConditionalRule.TheVariants as conditional'
use Rattle.ada_tree.specs.declared.rules.ArgsRule.{ArgsRule}
use Rattle.ada_tree.specs.declared.rules.ArgsRule.TheVariants as args'
use Rattle.ada_tree.specs.declared.rules.ArgRule.{ArgRule}
use Rattle.ada_tree.specs.declared.rules.ArgRule.TheVariants as arg'
use Rattle.tree_parts.specs.Ends.{expr_end, item_end}
use Rattle.tree_parts.specs.Operations.{joined, span_of}
use Rattle.tree_parts.specs.Operators.{quantifier_of}
use Rattle.tree_parts.specs.Relations.{argument, plain}
use Rattle.tree_parts.specs.Parts.{◌!◌, after, arg_of, arg_tail_of, args_of, arms_of, expr_of, item_of, operations_of, optional_expr_of, optional_item_of, place_of, range_of, relation_tail_of, token_of}

-- Below, the parts after the parts of a production are taken from the front, and what the rule makes of them is put there.

abbrev pub optional_rule : OptionalRule → List Part → List Part
-- Init = := Expr, and the like
optional_rule optional'.SomeExprAfter s = part.Item (item_part.OptionalExpr (Some (expr_of (s ! 1)))) ∷ after 2 s
-- RetVal = Expr
optional_rule optional'.SomeExpr s = part.Item (item_part.OptionalExpr (Some (expr_of (s ! 0)))) ∷ after 1 s
-- Init =, and the like
optional_rule optional'.NoExpr s = part.Item (item_part.OptionalExpr None) ∷ s
-- AspVal = => Item | ArgVal = => Item
optional_rule optional'.SomeItem s = part.Item (item_part.OptionalItem (Some (item_of (s ! 1)))) ∷ after 2 s
-- AspVal = | ArgVal =
optional_rule optional'.NoItem s = part.Item (item_part.OptionalItem None) ∷ s

abbrev pub item_rule : ItemRule → List Part → List Part
-- Range = Simple RgTail
item_rule item'.Range s = part.Item (item_part.Range (record { low = (expr_of (s ! 0)); high = (optional_expr_of (s ! 1)) })) ∷ after 2 s
-- Item = Expr
item_rule item'.Plain s = part.Item (item_part.Item (plain (expr_of (s ! 0)))) ∷ after 1 s
-- Cond = for AllSome Id in Range => Expr
item_rule item'.Quantified s = part.Item (item_part.Item (record { span = joined (place_of (s ! 0)) (span_of (expr_of (s ! 6))); form = item_form.Quantified (quantifier_of (token_of (s ! 1)).kind) (place_of (s ! 2)) (range_of (s ! 4)) (expr_of (s ! 6)) })) ∷ after 7 s

abbrev pub conditional_rule : ConditionalRule → List Part → List Part
-- Cond = if Expr then Expr IfMore IfElse
conditional_rule conditional'.If s = part.Item (item_part.Item (record { span = joined (place_of (s ! 0)) (expr_end (optional_expr_of (s ! 5)) (unwrap_or (arms_of (s ! 4)).edge (span_of (expr_of (s ! 3))))); form = item_form.If (record { condition = (expr_of (s ! 1)); gives = (expr_of (s ! 3)) } ∷ (arms_of (s ! 4)).value) (optional_expr_of (s ! 5)) })) ∷ after 6 s
-- IfMore = elsif Expr then Expr IfMore
conditional_rule conditional'.Arms s = part.Item (item_part.Arms (record { value = record { condition = (expr_of (s ! 1)); gives = (expr_of (s ! 3)) } ∷ (arms_of (s ! 4)).value; edge = Some (unwrap_or (arms_of (s ! 4)).edge (span_of (expr_of (s ! 3)))) })) ∷ after 5 s
-- IfMore =
conditional_rule conditional'.NoArms s = part.Item (item_part.Arms (record { value = []; edge = None })) ∷ s

abbrev pub args_rule : ArgsRule → List Part → List Part
-- PragArg = ( Args )
args_rule args'.ArgGroup s = part.Item (item_part.Args (args_of (s ! 1))) ∷ after 3 s
-- PragArg = | ArgMore =
args_rule args'.NoArgs s = part.Item (item_part.Args []) ∷ s
-- Args = Arg ArgMore
args_rule args'.Args s = part.Item (item_part.Args ((arg_of (s ! 0)) ∷ (args_of (s ! 1)))) ∷ after 2 s
-- ArgMore = , Arg ArgMore
args_rule args'.ArgsAfter s = part.Item (item_part.Args ((arg_of (s ! 1)) ∷ (args_of (s ! 2)))) ∷ after 3 s

abbrev pub arg_rule : ArgRule → List Part → List Part
-- Arg = others => Item
arg_rule arg'.ArgOthers s = part.Item (item_part.Arg (record { span = joined (place_of (s ! 0)) (item_of (s ! 2)).span; choice = arg_choice.Others; value = Some (item_of (s ! 2)) })) ∷ after 3 s
-- Arg = Cond ArgVal
arg_rule arg'.ArgItem s = part.Item (item_part.Arg (record { span = joined (item_of (s ! 0)).span (item_end (optional_item_of (s ! 1)) (item_of (s ! 0)).span); choice = arg_choice.Item (item_of (s ! 0)); value = (optional_item_of (s ! 1)) })) ∷ after 2 s
-- Arg = Simple ArgMid
arg_rule arg'.ArgSimple s = part.Item (item_part.Arg (argument (expr_of (s ! 0)) (arg_tail_of (s ! 1)))) ∷ after 2 s
-- ArgMid = .. Simple ArgVal
arg_rule arg'.ArgUpTo s = part.Item (item_part.ArgTail (arg_tail.UpTo (expr_of (s ! 1)) (optional_item_of (s ! 2)))) ∷ after 3 s
-- ArgMid = RelTail Logic ArgVal
arg_rule arg'.ArgRest s = part.Item (item_part.ArgTail (arg_tail.Rest (relation_tail_of (s ! 0)) (operations_of (s ! 1)) (optional_item_of (s ! 2)))) ∷ after 3 s
