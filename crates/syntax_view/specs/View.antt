-- The trees of definitions that the code's trees are.
use Rattle.std.specs.Prelude.{List, [], ◌∷◌, map, Option, Some, None, option_map}
use Rattle.ada_syntax.specs.declared.expressions.Arg.{Arg}
use Rattle.ada_syntax.specs.declared.expressions.ArgChoice.{ArgChoice}
use Rattle.ada_syntax.specs.declared.expressions.ArgChoice.TheVariants as choice'
use Rattle.ada_syntax.specs.declared.expressions.Arm.{Arm}
use Rattle.ada_syntax.specs.declared.expressions.Attribute.{Attribute}
use Rattle.ada_syntax.specs.declared.expressions.Attribute.TheVariants as attribute'
use Rattle.ada_syntax.specs.declared.expressions.Expr.{Expr, fold-Expr}
use Rattle.ada_syntax.specs.declared.expressions.Expr.TheOpen.{Expr-F}
use Rattle.ada_syntax.specs.declared.expressions.ExprNode.{ExprNode}
use Rattle.ada_syntax.specs.declared.expressions.ExprNode.TheVariants as node'
use Rattle.ada_syntax.specs.declared.expressions.Item.{Item}
use Rattle.ada_syntax.specs.declared.expressions.ItemForm.{ItemForm}
use Rattle.ada_syntax.specs.declared.expressions.ItemForm.TheVariants as item'
use Rattle.ada_syntax.specs.declared.expressions.Name.{Name}
use Rattle.ada_syntax.specs.declared.expressions.Range.{Range}
use Rattle.ada_syntax.specs.declared.expressions.Suffix.{Suffix}
use Rattle.ada_syntax.specs.declared.expressions.Suffix.TheVariants as suffix'
use Rattle.ada_syntax.specs.declared.statements.Action.{Action}
use Rattle.ada_syntax.specs.declared.statements.Action.TheVariants as action'
use Rattle.ada_syntax.specs.declared.statements.Alternative.{Alternative}
use Rattle.ada_syntax.specs.declared.statements.Branch.{Branch}
use Rattle.ada_syntax.specs.declared.statements.Choice.{Choice}
use Rattle.ada_syntax.specs.declared.statements.Choice.TheVariants as case_choice'
use Rattle.ada_syntax.specs.declared.statements.LoopHead.{LoopHead}
use Rattle.ada_syntax.specs.declared.statements.LoopHead.TheVariants as head'
use Rattle.ada_syntax.specs.declared.statements.Pragma.{Pragma}
use Rattle.ada_syntax.specs.declared.statements.Stmt.{Stmt, fold-Stmt}
use Rattle.ada_syntax.specs.declared.statements.Stmt.TheOpen.{Stmt-F}
use Rattle.ada_syntax.specs.declared.declarations.Aspect.{Aspect}
use Rattle.ada_syntax.specs.declared.declarations.Body.{Body}
use Rattle.ada_syntax.specs.declared.declarations.Bounds.{Bounds}
use Rattle.ada_syntax.specs.declared.declarations.Component.{Component}
use Rattle.ada_syntax.specs.declared.declarations.Decl.{Decl, fold-Decl}
use Rattle.ada_syntax.specs.declared.declarations.Decl.TheOpen.{Decl-F}
use Rattle.ada_syntax.specs.declared.declarations.DeclForm.{DeclForm}
use Rattle.ada_syntax.specs.declared.declarations.DeclForm.TheVariants as decl'
use Rattle.ada_syntax.specs.declared.declarations.Index.{Index}
use Rattle.ada_syntax.specs.declared.declarations.IndexForm.{IndexForm}
use Rattle.ada_syntax.specs.declared.declarations.IndexForm.TheVariants as index'
use Rattle.ada_syntax.specs.declared.declarations.Object.{Object}
use Rattle.ada_syntax.specs.declared.declarations.Param.{Param}
use Rattle.ada_syntax.specs.declared.declarations.Sub.{Sub}
use Rattle.ada_syntax.specs.declared.declarations.SubInd.{SubInd}
use Rattle.ada_syntax.specs.declared.declarations.TypeDef.{TypeDef}
use Rattle.ada_syntax.specs.declared.declarations.TypeForm.{TypeForm}
use Rattle.ada_syntax.specs.declared.declarations.TypeForm.TheVariants as type'
use Rattle.ada_syntax.specs.declared.units.ContextItem.{ContextItem}
use Rattle.ada_syntax.specs.declared.units.ContextItem.TheVariants as context'
use Rattle.ada_syntax.specs.declared.units.Package.{Package}
use Rattle.ada_syntax.specs.declared.units.PackageBody.{PackageBody}
use Rattle.ada_syntax.specs.declared.units.SourceUnit.{SourceUnit}
use Rattle.ada_syntax.specs.declared.units.Unit.{Unit}
use Rattle.ada_syntax.specs.declared.units.UnitForm.{UnitForm}
use Rattle.ada_syntax.specs.declared.units.UnitForm.TheVariants as unit'
use Rattle.syntax_view.specs.Trees as tree

-- ---- expressions; `f` is the tree that an expression inside is

abbrev pub maybe_of : {E : Type 0} → (E → tree.Expr) → Option E → tree.MaybeExpr
maybe_of f None = tree.no_expr
maybe_of f (Some e) = tree.an_expr (f e)

abbrev pub range_of : {E : Type 0} → (E → tree.Expr) → Range E → tree.Range
range_of f r = tree.range (f r.low) (maybe_of f r.high)

abbrev pub arms_of : {E : Type 0} → (E → tree.Expr) → List (Arm E) → tree.Arms
arms_of f [] = tree.no_arms
arms_of f (a ∷ as') = tree.arm (f a.condition) (f a.gives) (arms_of f as')

abbrev pub form_of : {E : Type 0} → (E → tree.Expr) → ItemForm E → tree.Form
form_of f (item'.Plain e) = tree.plain (f e)
form_of f (item'.If as' e) = tree.choose (arms_of f as') (maybe_of f e)
form_of f (item'.Quantified q n r p) = tree.quantified q n (range_of f r) (f p)

abbrev pub item_of : {E : Type 0} → (E → tree.Expr) → Item E → tree.Item
item_of f i = tree.item i.span (form_of f i.form)

abbrev pub choice_of : {E : Type 0} → (E → tree.Expr) → ArgChoice E → tree.ArgChoice
choice_of f choice'.Others = tree.other_parts
choice_of f (choice'.Item i) = tree.part (item_of f i)
choice_of f (choice'.Range l h) = tree.parts (f l) (f h)

abbrev pub value_of : {E : Type 0} → (E → tree.Expr) → Option (Item E) → tree.Value
value_of f None = tree.no_value
value_of f (Some i) = tree.value (item_of f i)

abbrev pub arg_of : {E : Type 0} → (E → tree.Expr) → Arg E → tree.Arg
arg_of f a = tree.arg a.span (choice_of f a.choice) (value_of f a.value)

abbrev pub args_of : {E : Type 0} → (E → tree.Expr) → List (Arg E) → tree.Args
args_of f [] = tree.no_args
args_of f (a ∷ as') = tree.args (arg_of f a) (args_of f as')

abbrev pub attribute_of : {E : Type 0} → (E → tree.Expr) → Attribute E → tree.Attribute
attribute_of f (attribute'.Named n) = tree.attribute n
attribute_of f attribute'.Range = tree.range_attribute
attribute_of f (attribute'.Qualified as') = tree.qualified (args_of f as')

abbrev pub suffix_of : {E : Type 0} → (E → tree.Expr) → Suffix E → tree.Suffix
suffix_of f (suffix'.Selected n) = tree.selected n
suffix_of f (suffix'.Ticked p a) = tree.ticked p (attribute_of f a)
suffix_of f (suffix'.Applied as') = tree.applied (args_of f as')

abbrev pub suffixes_of : {E : Type 0} → (E → tree.Expr) → List (Suffix E) → tree.Suffixes
suffixes_of f [] = tree.no_suffixes
suffixes_of f (s ∷ ss) = tree.suffixes (suffix_of f s) (suffixes_of f ss)

abbrev pub name_of : {E : Type 0} → (E → tree.Expr) → Name E → tree.Name
name_of f n = tree.named n.span n.first (suffixes_of f n.suffixes)

abbrev pub node_of : {E : Type 0} → (E → tree.Expr) → ExprNode E → tree.Node
node_of f (node'.Number n) = tree.number n
node_of f node'.Null = tree.null
node_of f (node'.Name n) = tree.name (name_of f n)
node_of f (node'.Group as') = tree.group (args_of f as')
node_of f (node'.Unary p o a) = tree.unary p o (f a)
node_of f (node'.Binary p o a b) = tree.binary p o (f a) (f b)
node_of f (node'.Member p n a r) = tree.member p n (f a) (range_of f r)

abbrev pub expr_step : Expr-F tree.Expr → tree.Expr
expr_step e = tree.at e.span (node_of (λ t. t) e.node)

-- the tree of an expression
abbrev pub expr : Expr → tree.Expr
expr = fold-Expr tree.Expr expr_step

-- ---- statements; `f` is the tree that a statement inside is

abbrev pub pragma_of : Pragma → tree.Pragma
pragma_of p = record { span = p.span; name = p.name; args = args_of expr p.args }

abbrev pub case_choice_of : Choice → tree.Choice
case_choice_of case_choice'.Others = tree.other_values
case_choice_of (case_choice'.Range r) = tree.values (range_of expr r)

abbrev pub head_of : LoopHead → tree.LoopHead
head_of head'.Forever = tree.forever
head_of (head'.While e) = tree.while (expr e)
head_of (head'.For n b r) = tree.for n b (range_of expr r)

abbrev pub stmts_of : {S : Type 0} → (S → tree.Stmt) → List S → tree.Stmts
stmts_of f [] = tree.no_stmts
stmts_of f (s ∷ ss) = tree.stmts (f s) (stmts_of f ss)

abbrev pub branches_of : {S : Type 0} → (S → tree.Stmt) → List (Branch S) → tree.Branches
branches_of f [] = tree.no_branches
branches_of f (b ∷ bs) = tree.branch (expr b.condition) (stmts_of f b.body) (branches_of f bs)

abbrev pub alternatives_of : {S : Type 0} → (S → tree.Stmt) → List (Alternative S) → tree.Alternatives
alternatives_of f [] = tree.no_alternatives
alternatives_of f (a ∷ as') = tree.alternative (map case_choice_of a.choices) (stmts_of f a.body) (alternatives_of f as')

abbrev pub action_of : {S : Type 0} → (S → tree.Stmt) → Action S → tree.Action
action_of f action'.Null = tree.skip
action_of f (action'.Call n) = tree.call (name_of expr n)
action_of f (action'.Assign n e) = tree.assign (name_of expr n) (expr e)
action_of f (action'.If bs ss) = tree.branches (branches_of f bs) (stmts_of f ss)
action_of f (action'.Case e as') = tree.case_of (expr e) (alternatives_of f as')
action_of f (action'.Loop h ss) = tree.loop (head_of h) (stmts_of f ss)
action_of f (action'.Exit e) = tree.exit (option_map expr e)
action_of f (action'.Return e) = tree.return (option_map expr e)
action_of f (action'.Pragma p) = tree.pragma_stmt (pragma_of p)

abbrev pub stmt_step : Stmt-F tree.Stmt → tree.Stmt
stmt_step s = tree.statement s.span (action_of (λ t. t) s.action)

-- the tree of a statement
abbrev pub stmt : Stmt → tree.Stmt
stmt = fold-Stmt tree.Stmt stmt_step

-- ---- declarations; `f` is the tree that a declaration inside is

abbrev pub bounds_of : Bounds → tree.Bounds
bounds_of b = record { low = expr b.low; high = expr b.high }

abbrev pub sub_ind : SubInd → tree.SubInd
sub_ind s = record { span = s.span; name = name_of expr s.name; bounds = option_map bounds_of s.bounds }

abbrev pub index_form_of : IndexForm → tree.IndexForm
index_form_of index'.Alone = tree.alone
index_form_of (index'.UpTo h) = tree.up_to (expr h)
index_form_of index'.Unconstrained = tree.unconstrained
index_form_of (index'.Within b) = tree.constrained (bounds_of b)

abbrev pub index_of : Index → tree.Index
index_of i = record { first = expr i.first; form = index_form_of i.form }

abbrev pub component_of : Component → tree.Component
component_of c = record { span = c.span; names = c.names; subtype = sub_ind c.subtype }

abbrev pub type_form_of : TypeForm → tree.TypeForm
type_form_of (type'.Range b) = tree.signed (bounds_of b)
type_form_of (type'.Modular e) = tree.modular (expr e)
type_form_of (type'.Enumeration ns) = tree.enumeration ns
type_form_of (type'.Array i s) = tree.array_of (index_of i) (sub_ind s)
type_form_of (type'.Record cs) = tree.record_of (map component_of cs)
type_form_of (type'.Derived s) = tree.derived (sub_ind s)

abbrev pub type_def_of : TypeDef → tree.TypeDef
type_def_of t = record { span = t.span; form = type_form_of t.form }

abbrev pub object_of : Object → tree.Object
object_of o = record { constant = o.constant; subtype = option_map sub_ind o.subtype; value = option_map expr o.value }

abbrev pub param_of : Param → tree.Param
param_of p = record { span = p.span; names = p.names; mode = p.mode; subtype = sub_ind p.subtype }

abbrev pub aspect_of : Aspect → tree.Aspect
aspect_of a = record { span = a.span; name = a.name; value = option_map (item_of expr) a.value }

abbrev pub heading_of : {D : Type 0} → Sub D → tree.Heading
heading_of s = record {
  span = s.span;
  name = s.name;
  params = map param_of s.params;
  result = option_map (name_of expr) s.result;
  aspects = map aspect_of s.aspects;
}

abbrev pub decls_of : {D : Type 0} → (D → tree.Decl) → List D → tree.Decls
decls_of f [] = tree.no_decls
decls_of f (d ∷ ds) = tree.decls (f d) (decls_of f ds)

abbrev pub body_of : {D : Type 0} → (D → tree.Decl) → Option (Body D) → tree.Body
body_of f None = tree.no_body
body_of f (Some b) = tree.body (decls_of f b.declarations) (stmts_of stmt b.statements) b.end_name

abbrev pub sub_of : {D : Type 0} → (D → tree.Decl) → Sub D → tree.Sub
sub_of f s = tree.sub (heading_of s) (body_of f s.body)

abbrev pub decl_form_of : {D : Type 0} → (D → tree.Decl) → DeclForm D → tree.DeclForm
decl_form_of f (decl'.Type n t) = tree.type_decl n (type_def_of t)
decl_form_of f (decl'.Subtype n s) = tree.subtype_decl n (sub_ind s)
decl_form_of f (decl'.Object ns o) = tree.object_decl ns (object_of o)
decl_form_of f (decl'.Sub s) = tree.sub_decl (sub_of f s)
decl_form_of f (decl'.Pragma p) = tree.pragma_decl (pragma_of p)
decl_form_of f (decl'.Use ns) = tree.use_decl ns

abbrev pub decl_step : Decl-F tree.Decl → tree.Decl
decl_step d = tree.declaration d.span (decl_form_of (λ t. t) d.form)

-- the tree of a declaration
abbrev pub decl : Decl → tree.Decl
decl = fold-Decl tree.Decl decl_step

-- ---- units

abbrev pub context_item_of : ContextItem → tree.ContextItem
context_item_of (context'.Pragma p) = tree.pragma_item (pragma_of p)
context_item_of (context'.With ns) = tree.with_item ns
context_item_of (context'.Use ns) = tree.use_item ns

abbrev pub package_of : Package → tree.Package
package_of p = record {
  name = p.name;
  aspects = map aspect_of p.aspects;
  declarations = decls_of decl p.declarations;
  hidden = option_map (decls_of decl) p.private;
  end_name = p.end_name;
}

abbrev pub package_body_of : PackageBody → tree.PackageBody
package_body_of p = record {
  name = p.name;
  aspects = map aspect_of p.aspects;
  declarations = decls_of decl p.declarations;
  end_name = p.end_name;
}

abbrev pub unit_form_of : UnitForm → tree.UnitForm
unit_form_of (unit'.Package p) = tree.package_unit (package_of p)
unit_form_of (unit'.PackageBody p) = tree.package_body_unit (package_body_of p)
unit_form_of (unit'.Sub s) = tree.sub_unit (sub_of decl s)

abbrev pub unit : Unit → tree.LibraryUnit
unit u = record { span = u.span; form = unit_form_of u.form }

-- the tree of a file
abbrev pub source_unit : SourceUnit → tree.SourceUnit
source_unit u = record { span = u.span; context = map context_item_of u.context; unit = unit u.unit }
