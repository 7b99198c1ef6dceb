-- The parts of a derivation, each as what it is.
use Rattle.std.specs.Prelude.{ℕ, zero, suc, Bool, false, List, [], ◌∷◌, Option, None}
use Rattle.ada_text.specs.declared.token.Span.{Span}
use Rattle.ada_text.specs.declared.token.Token.{Token}
use Rattle.ada_syntax.specs.declared.expressions.Arg.{Arg}
use Rattle.ada_syntax.specs.declared.expressions.ArgChoice.TheVariants as arg_choice
use Rattle.ada_syntax.specs.declared.expressions.Arm.{Arm}
use Rattle.ada_syntax.specs.declared.expressions.Attribute.{Attribute}
use Rattle.ada_syntax.specs.declared.expressions.Attribute.TheVariants as attribute
use Rattle.ada_syntax.specs.declared.expressions.Expr.{Expr}
use Rattle.ada_syntax.specs.declared.expressions.Item.{Item}
use Rattle.ada_syntax.specs.declared.expressions.Name.{Name}
use Rattle.ada_syntax.specs.declared.expressions.Range.{Range}
use Rattle.ada_syntax.specs.declared.expressions.Suffix.{Suffix}
use Rattle.ada_syntax.specs.declared.statements.Alternative.{Alternative}
use Rattle.ada_syntax.specs.declared.statements.Branch.{Branch}
use Rattle.ada_syntax.specs.declared.statements.Choice.{Choice}
use Rattle.ada_syntax.specs.declared.statements.Choice.TheVariants as choice
use Rattle.ada_syntax.specs.declared.statements.LoopHead.{LoopHead}
use Rattle.ada_syntax.specs.declared.statements.LoopHead.TheVariants as loop_head
use Rattle.ada_syntax.specs.declared.statements.Pragma.{Pragma}
use Rattle.ada_syntax.specs.declared.statements.Stmt.{Stmt}
use Rattle.ada_syntax.specs.declared.declarations.Aspect.{Aspect}
use Rattle.ada_syntax.specs.declared.declarations.Body.{Body}
use Rattle.ada_syntax.specs.declared.declarations.Bounds.{Bounds}
use Rattle.ada_syntax.specs.declared.declarations.Component.{Component}
use Rattle.ada_syntax.specs.declared.declarations.Decl.{Decl}
use Rattle.ada_syntax.specs.declared.declarations.Index.{Index}
use Rattle.ada_syntax.specs.declared.declarations.IndexForm.{IndexForm}
use Rattle.ada_syntax.specs.declared.declarations.IndexForm.TheVariants as index_form
use Rattle.ada_syntax.specs.declared.declarations.Mode.{Mode}
use Rattle.ada_syntax.specs.declared.declarations.Mode.TheVariants as mode
use Rattle.ada_syntax.specs.declared.declarations.Object.{Object}
use Rattle.ada_syntax.specs.declared.declarations.Param.{Param}
use Rattle.ada_syntax.specs.declared.declarations.Sub.{Sub}
use Rattle.ada_syntax.specs.declared.declarations.SubInd.{SubInd}
use Rattle.ada_syntax.specs.declared.declarations.TypeDef.{TypeDef}
use Rattle.ada_syntax.specs.declared.units.ContextItem.{ContextItem}
use Rattle.ada_syntax.specs.declared.units.SourceUnit.{SourceUnit}
use Rattle.ada_syntax.specs.declared.units.Unit.{Unit}
use Rattle.tree_parts.specs.declared.part.Operation.{Operation}
use Rattle.tree_parts.specs.declared.relations.ArgTail.{ArgTail}
use Rattle.tree_parts.specs.declared.relations.ArgTail.TheVariants as arg_tail
use Rattle.tree_parts.specs.declared.part.Edged.{Edged}
use Rattle.tree_parts.specs.declared.part.Ended.{Ended}
use Rattle.tree_parts.specs.declared.part.LogicTail.{LogicTail}
use Rattle.tree_parts.specs.declared.parts.Part.{Part}
use Rattle.tree_parts.specs.declared.parts.Part.TheVariants as part
use Rattle.tree_parts.specs.declared.relations.RelationTail.{RelationTail}
use Rattle.tree_parts.specs.declared.relations.RelationTail.TheVariants as relation_tail
use Rattle.tree_parts.specs.declared.unit_parts.UnitPart.{UnitPart}
use Rattle.tree_parts.specs.declared.unit_parts.UnitPart.TheVariants as unit_part
use Rattle.tree_parts.specs.declared.declaration_parts.DeclarationPart.{DeclarationPart}
use Rattle.tree_parts.specs.declared.declaration_parts.DeclarationPart.TheVariants as declaration_part
use Rattle.tree_parts.specs.declared.type_parts.TypePart.{TypePart}
use Rattle.tree_parts.specs.declared.type_parts.TypePart.TheVariants as type_part
use Rattle.tree_parts.specs.declared.subprogram_parts.SubprogramPart.{SubprogramPart}
use Rattle.tree_parts.specs.declared.subprogram_parts.SubprogramPart.TheVariants as subprogram_part
use Rattle.tree_parts.specs.declared.statement_parts.StatementPart.{StatementPart}
use Rattle.tree_parts.specs.declared.statement_parts.StatementPart.TheVariants as statement_part
use Rattle.tree_parts.specs.declared.statement_parts.ChoicePart.{ChoicePart}
use Rattle.tree_parts.specs.declared.statement_parts.ChoicePart.TheVariants as choice_part
use Rattle.tree_parts.specs.declared.item_parts.ItemPart.{ItemPart}
use Rattle.tree_parts.specs.declared.item_parts.ItemPart.TheVariants as item_part
use Rattle.tree_parts.specs.declared.expression_parts.ExpressionPart.{ExpressionPart}
use Rattle.tree_parts.specs.declared.expression_parts.ExpressionPart.TheVariants as expression_part
use Rattle.tree_parts.specs.Missing.{missing_decl, missing_expr, missing_item, missing_name, missing_source_unit, missing_stmt, missing_sub, missing_sub_ind, missing_type_def, missing_unit, nothing, nowhere}

infixl 90 ◌!◌
-- the first part of a stack
abbrev pub first : List Part → Part
first [] = part.Token nothing
first (p ∷ ps) = p

abbrev pub rest : List Part → List Part
rest [] = []
rest (p ∷ ps) = ps

-- the part at this place, from 0
abbrev pub ◌!◌ : List Part → ℕ → Part
ps ! zero = first ps
ps ! suc k = rest ps ! k

-- the parts after so many
abbrev pub after : ℕ → List Part → List Part
after zero ps = ps
after (suc k) ps = after k (rest ps)

abbrev pub token_of : Part → Token
token_of (part.Token t) = t
token_of _ = nothing

abbrev pub place_of : Part → Span
place_of p = (token_of p).span

abbrev pub unit_part_of : Part → UnitPart
unit_part_of (part.Unit p) = p
unit_part_of _ = unit_part.EndName None

abbrev pub declaration_part_of : Part → DeclarationPart
declaration_part_of (part.Declaration p) = p
declaration_part_of _ = declaration_part.Object (record { constant = false; subtype = None; value = None })

abbrev pub type_part_of : Part → TypePart
type_part_of (part.Type p) = p
type_part_of _ = type_part.Bounds None

abbrev pub subprogram_part_of : Part → SubprogramPart
subprogram_part_of (part.Subprogram p) = p
subprogram_part_of _ = subprogram_part.Mode mode.Unstated

abbrev pub statement_part_of : Part → StatementPart
statement_part_of (part.Statement p) = p
statement_part_of _ = statement_part.Stmts []

abbrev pub choice_part_of : Part → ChoicePart
choice_part_of (part.Choice p) = p
choice_part_of _ = choice_part.Flag false

abbrev pub item_part_of : Part → ItemPart
item_part_of (part.Item p) = p
item_part_of _ = item_part.OptionalExpr None

abbrev pub expression_part_of : Part → ExpressionPart
expression_part_of (part.Expression p) = p
expression_part_of _ = expression_part.RelationTail relation_tail.Nothing

abbrev pub source_unit_from : UnitPart → SourceUnit
source_unit_from (unit_part.SourceUnit x) = x
source_unit_from _ = missing_source_unit

abbrev pub source_unit_of : Part → SourceUnit
source_unit_of p = source_unit_from (unit_part_of p)

abbrev pub context_from : UnitPart → Edged (List ContextItem)
context_from (unit_part.Context x) = x
context_from _ = record { edge = None; value = [] }

abbrev pub context_of : Part → Edged (List ContextItem)
context_of p = context_from (unit_part_of p)

abbrev pub names_from : UnitPart → List Span
names_from (unit_part.Names x) = x
names_from _ = []

abbrev pub names_of : Part → List Span
names_of p = names_from (unit_part_of p)

abbrev pub unit_from : UnitPart → Unit
unit_from (unit_part.Unit x) = x
unit_from _ = missing_unit

abbrev pub unit_of : Part → Unit
unit_of p = unit_from (unit_part_of p)

abbrev pub private_from : UnitPart → Option (List Decl)
private_from (unit_part.Private x) = x
private_from _ = None

abbrev pub private_of : Part → Option (List Decl)
private_of p = private_from (unit_part_of p)

abbrev pub end_name_from : UnitPart → Option Span
end_name_from (unit_part.EndName x) = x
end_name_from _ = None

abbrev pub end_name_of : Part → Option Span
end_name_of p = end_name_from (unit_part_of p)

abbrev pub decls_from : DeclarationPart → List Decl
decls_from (declaration_part.Decls x) = x
decls_from _ = []

abbrev pub decls_of : Part → List Decl
decls_of p = decls_from (declaration_part_of p)

abbrev pub decl_from : DeclarationPart → Decl
decl_from (declaration_part.Decl x) = x
decl_from _ = missing_decl

abbrev pub decl_of : Part → Decl
decl_of p = decl_from (declaration_part_of p)

abbrev pub type_def_from : TypePart → TypeDef
type_def_from (type_part.TypeDef x) = x
type_def_from _ = missing_type_def

abbrev pub type_def_of : Part → TypeDef
type_def_of p = type_def_from (type_part_of p)

abbrev pub index_from : TypePart → Index
index_from (type_part.Index x) = x
index_from _ = record { first = missing_expr; form = index_form.Alone }

abbrev pub index_of : Part → Index
index_of p = index_from (type_part_of p)

abbrev pub index_form_from : TypePart → IndexForm
index_form_from (type_part.IndexForm x) = x
index_form_from _ = index_form.Alone

abbrev pub index_form_of : Part → IndexForm
index_form_of p = index_form_from (type_part_of p)

abbrev pub component_from : TypePart → Component
component_from (type_part.Component x) = x
component_from _ = record { span = nowhere; names = []; subtype = missing_sub_ind }

abbrev pub component_of : Part → Component
component_of p = component_from (type_part_of p)

abbrev pub components_from : TypePart → List Component
components_from (type_part.Components x) = x
components_from _ = []

abbrev pub components_of : Part → List Component
components_of p = components_from (type_part_of p)

abbrev pub sub_ind_from : TypePart → SubInd
sub_ind_from (type_part.SubInd x) = x
sub_ind_from _ = missing_sub_ind

abbrev pub sub_ind_of : Part → SubInd
sub_ind_of p = sub_ind_from (type_part_of p)

abbrev pub bounds_from : TypePart → Option Bounds
bounds_from (type_part.Bounds x) = x
bounds_from _ = None

abbrev pub bounds_of : Part → Option Bounds
bounds_of p = bounds_from (type_part_of p)

abbrev pub object_from : DeclarationPart → Object
object_from (declaration_part.Object x) = x
object_from _ = record { constant = false; subtype = None; value = None }

abbrev pub object_of : Part → Object
object_of p = object_from (declaration_part_of p)

abbrev pub optional_expr_from : ItemPart → Option Expr
optional_expr_from (item_part.OptionalExpr x) = x
optional_expr_from _ = None

abbrev pub optional_expr_of : Part → Option Expr
optional_expr_of p = optional_expr_from (item_part_of p)

abbrev pub sub_from : DeclarationPart → Sub Decl
sub_from (declaration_part.Sub x) = x
sub_from _ = missing_sub

abbrev pub sub_of : Part → Sub Decl
sub_of p = sub_from (declaration_part_of p)

abbrev pub params_from : SubprogramPart → List Param
params_from (subprogram_part.Params x) = x
params_from _ = []

abbrev pub params_of : Part → List Param
params_of p = params_from (subprogram_part_of p)

abbrev pub param_from : SubprogramPart → Param
param_from (subprogram_part.Param x) = x
param_from _ = record { span = nowhere; names = []; mode = mode.Unstated; subtype = missing_sub_ind }

abbrev pub param_of : Part → Param
param_of p = param_from (subprogram_part_of p)

abbrev pub mode_from : SubprogramPart → Mode
mode_from (subprogram_part.Mode x) = x
mode_from _ = mode.Unstated

abbrev pub mode_of : Part → Mode
mode_of p = mode_from (subprogram_part_of p)

abbrev pub body_from : DeclarationPart → Ended (Option (Body Decl))
body_from (declaration_part.Body x) = x
body_from _ = record { value = None; end = nowhere }

abbrev pub body_of : Part → Ended (Option (Body Decl))
body_of p = body_from (declaration_part_of p)

abbrev pub aspects_from : SubprogramPart → List Aspect
aspects_from (subprogram_part.Aspects x) = x
aspects_from _ = []

abbrev pub aspects_of : Part → List Aspect
aspects_of p = aspects_from (subprogram_part_of p)

abbrev pub aspect_from : SubprogramPart → Aspect
aspect_from (subprogram_part.Aspect x) = x
aspect_from _ = record { span = nowhere; name = nowhere; value = None }

abbrev pub aspect_of : Part → Aspect
aspect_of p = aspect_from (subprogram_part_of p)

abbrev pub optional_item_from : ItemPart → Option (Item Expr)
optional_item_from (item_part.OptionalItem x) = x
optional_item_from _ = None

abbrev pub optional_item_of : Part → Option (Item Expr)
optional_item_of p = optional_item_from (item_part_of p)

abbrev pub pragma_from : DeclarationPart → Pragma
pragma_from (declaration_part.Pragma x) = x
pragma_from _ = record { span = nowhere; name = nowhere; args = [] }

abbrev pub pragma_of : Part → Pragma
pragma_of p = pragma_from (declaration_part_of p)

abbrev pub args_from : ItemPart → List (Arg Expr)
args_from (item_part.Args x) = x
args_from _ = []

abbrev pub args_of : Part → List (Arg Expr)
args_of p = args_from (item_part_of p)

abbrev pub arg_from : ItemPart → Arg Expr
arg_from (item_part.Arg x) = x
arg_from _ = record { span = nowhere; choice = arg_choice.Others; value = None }

abbrev pub arg_of : Part → Arg Expr
arg_of p = arg_from (item_part_of p)

abbrev pub arg_tail_from : ItemPart → ArgTail
arg_tail_from (item_part.ArgTail x) = x
arg_tail_from _ = arg_tail.Rest relation_tail.Nothing [] None

abbrev pub arg_tail_of : Part → ArgTail
arg_tail_of p = arg_tail_from (item_part_of p)

abbrev pub stmts_from : StatementPart → List Stmt
stmts_from (statement_part.Stmts x) = x
stmts_from _ = []

abbrev pub stmts_of : Part → List Stmt
stmts_of p = stmts_from (statement_part_of p)

abbrev pub stmt_from : StatementPart → Stmt
stmt_from (statement_part.Stmt x) = x
stmt_from _ = missing_stmt

abbrev pub stmt_of : Part → Stmt
stmt_of p = stmt_from (statement_part_of p)

abbrev pub branches_from : StatementPart → List (Branch Stmt)
branches_from (statement_part.Branches x) = x
branches_from _ = []

abbrev pub branches_of : Part → List (Branch Stmt)
branches_of p = branches_from (statement_part_of p)

abbrev pub alternative_from : StatementPart → Alternative Stmt
alternative_from (statement_part.Alternative x) = x
alternative_from _ = record { choices = []; body = [] }

abbrev pub alternative_of : Part → Alternative Stmt
alternative_of p = alternative_from (statement_part_of p)

abbrev pub alternatives_from : StatementPart → List (Alternative Stmt)
alternatives_from (statement_part.Alternatives x) = x
alternatives_from _ = []

abbrev pub alternatives_of : Part → List (Alternative Stmt)
alternatives_of p = alternatives_from (statement_part_of p)

abbrev pub choice_from : ChoicePart → Choice
choice_from (choice_part.Choice x) = x
choice_from _ = choice.Others

abbrev pub choice_of : Part → Choice
choice_of p = choice_from (choice_part_of p)

abbrev pub choices_from : ChoicePart → List Choice
choices_from (choice_part.Choices x) = x
choices_from _ = []

abbrev pub choices_of : Part → List Choice
choices_of p = choices_from (choice_part_of p)

abbrev pub loop_head_from : ChoicePart → Edged LoopHead
loop_head_from (choice_part.LoopHead x) = x
loop_head_from _ = record { edge = None; value = loop_head.Forever }

abbrev pub loop_head_of : Part → Edged LoopHead
loop_head_of p = loop_head_from (choice_part_of p)

abbrev pub flag_from : ChoicePart → Bool
flag_from (choice_part.Flag x) = x
flag_from _ = false

abbrev pub flag_of : Part → Bool
flag_of p = flag_from (choice_part_of p)

abbrev pub range_from : ItemPart → Range Expr
range_from (item_part.Range x) = x
range_from _ = record { low = missing_expr; high = None }

abbrev pub range_of : Part → Range Expr
range_of p = range_from (item_part_of p)

abbrev pub item_from : ItemPart → Item Expr
item_from (item_part.Item x) = x
item_from _ = missing_item

abbrev pub item_of : Part → Item Expr
item_of p = item_from (item_part_of p)

abbrev pub arms_from : ItemPart → Edged (List (Arm Expr))
arms_from (item_part.Arms x) = x
arms_from _ = record { edge = None; value = [] }

abbrev pub arms_of : Part → Edged (List (Arm Expr))
arms_of p = arms_from (item_part_of p)

abbrev pub expr_from : ExpressionPart → Expr
expr_from (expression_part.Expr x) = x
expr_from _ = missing_expr

abbrev pub expr_of : Part → Expr
expr_of p = expr_from (expression_part_of p)

abbrev pub operations_from : ExpressionPart → List Operation
operations_from (expression_part.Operations x) = x
operations_from _ = []

abbrev pub operations_of : Part → List Operation
operations_of p = operations_from (expression_part_of p)

abbrev pub logic_tail_from : ExpressionPart → LogicTail
logic_tail_from (expression_part.LogicTail x) = x
logic_tail_from _ = record { short = false; operand = missing_expr; more = [] }

abbrev pub logic_tail_of : Part → LogicTail
logic_tail_of p = logic_tail_from (expression_part_of p)

abbrev pub relation_tail_from : ExpressionPart → RelationTail
relation_tail_from (expression_part.RelationTail x) = x
relation_tail_from _ = relation_tail.Nothing

abbrev pub relation_tail_of : Part → RelationTail
relation_tail_of p = relation_tail_from (expression_part_of p)

abbrev pub name_from : ExpressionPart → Name Expr
name_from (expression_part.Name x) = x
name_from _ = missing_name

abbrev pub name_of : Part → Name Expr
name_of p = name_from (expression_part_of p)

abbrev pub suffixes_from : ExpressionPart → Edged (List (Suffix Expr))
suffixes_from (expression_part.Suffixes x) = x
suffixes_from _ = record { edge = None; value = [] }

abbrev pub suffixes_of : Part → Edged (List (Suffix Expr))
suffixes_of p = suffixes_from (expression_part_of p)

abbrev pub attribute_from : ExpressionPart → Ended (Attribute Expr)
attribute_from (expression_part.Attribute x) = x
attribute_from _ = record { value = attribute.Range; end = nowhere }

abbrev pub attribute_of : Part → Ended (Attribute Expr)
attribute_of p = attribute_from (expression_part_of p)
