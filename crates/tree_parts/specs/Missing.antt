-- Nodes of trees with their places, and what stands in for a part that is none. The parts of a derivation never need the latter.
use Rattle.std.specs.Prelude.{[], None}
use Rattle.ada_text.specs.declared.token.Span.{Span}
use Rattle.ada_text.specs.declared.token.Token.{Token}
use Rattle.ada_text.specs.declared.token.TokenKind.TheVariants as kind
use Rattle.ada_syntax.specs.declared.expressions.Expr.{Expr, roll-Expr}
use Rattle.ada_syntax.specs.declared.expressions.ExprNode.{ExprNode}
use Rattle.ada_syntax.specs.declared.expressions.ExprNode.TheVariants as node
use Rattle.ada_syntax.specs.declared.expressions.Item.{Item}
use Rattle.ada_syntax.specs.declared.expressions.ItemForm.{ItemForm}
use Rattle.ada_syntax.specs.declared.expressions.ItemForm.TheVariants as item_form
use Rattle.ada_syntax.specs.declared.expressions.Name.{Name}
use Rattle.ada_syntax.specs.declared.statements.Action.{Action}
use Rattle.ada_syntax.specs.declared.statements.Action.TheVariants as action
use Rattle.ada_syntax.specs.declared.statements.Stmt.{Stmt, roll-Stmt}
use Rattle.ada_syntax.specs.declared.declarations.Decl.{Decl, roll-Decl}
use Rattle.ada_syntax.specs.declared.declarations.DeclForm.{DeclForm}
use Rattle.ada_syntax.specs.declared.declarations.DeclForm.TheVariants as decl_form
use Rattle.ada_syntax.specs.declared.declarations.Sub.{Sub}
use Rattle.ada_syntax.specs.declared.declarations.SubInd.{SubInd}
use Rattle.ada_syntax.specs.declared.declarations.TypeDef.{TypeDef}
use Rattle.ada_syntax.specs.declared.declarations.TypeForm.{TypeForm}
use Rattle.ada_syntax.specs.declared.declarations.TypeForm.TheVariants as type_form
use Rattle.ada_syntax.specs.declared.units.SourceUnit.{SourceUnit}
use Rattle.ada_syntax.specs.declared.units.Unit.{Unit}
use Rattle.ada_syntax.specs.declared.units.UnitForm.{UnitForm}
use Rattle.ada_syntax.specs.declared.units.UnitForm.TheVariants as unit_form

abbrev pub nowhere : Span
nowhere = record { from = 0; to = 0 }

abbrev pub nothing : Token
nothing = record { kind = kind.Id; span = nowhere }

abbrev pub expr_at : Span → ExprNode Expr → Expr
expr_at s n = roll-Expr (record { span = s; node = n })

abbrev pub stmt_at : Span → Action Stmt → Stmt
stmt_at s a = roll-Stmt (record { span = s; action = a })

abbrev pub decl_at : Span → DeclForm Decl → Decl
decl_at s f = roll-Decl (record { span = s; form = f })

abbrev pub item_at : Span → ItemForm Expr → Item Expr
item_at s f = record { span = s; form = f }

abbrev pub type_def_at : Span → TypeForm → TypeDef
type_def_at s f = record { span = s; form = f }

abbrev pub unit_at : Span → UnitForm → Unit
unit_at s f = record { span = s; form = f }

abbrev pub missing_expr : Expr
missing_expr = expr_at nowhere node.Null

abbrev pub missing_item : Item Expr
missing_item = item_at nowhere (item_form.Plain missing_expr)

abbrev pub missing_stmt : Stmt
missing_stmt = stmt_at nowhere action.Null

abbrev pub missing_decl : Decl
missing_decl = decl_at nowhere (decl_form.Use [])

abbrev pub missing_type_def : TypeDef
missing_type_def = type_def_at nowhere (type_form.Enumeration [])

abbrev pub missing_name : Name Expr
missing_name = record { span = nowhere; first = nowhere; suffixes = [] }

abbrev pub missing_sub_ind : SubInd
missing_sub_ind = record { span = nowhere; name = missing_name; bounds = None }

abbrev pub missing_sub : Sub Decl
missing_sub = record { span = nowhere; name = nowhere; params = []; result = None; aspects = []; body = None }

abbrev pub missing_unit : Unit
missing_unit = unit_at nowhere (unit_form.Sub missing_sub)

abbrev pub missing_source_unit : SourceUnit
missing_source_unit = record { span = nowhere; context = []; unit = missing_unit }
