-- What an expression, a statement or a declaration is as a tree of definitions, by its form.
use Rattle.std.proofs.Common.{◌≡◌, refl, ◌∙◌, ap, ap₂, List, [], ◌∷◌, map, Option, Some, None}
use Rattle.ada_text.specs.declared.token.Span.{Span}
use Rattle.ada_syntax.specs.declared.expressions.Arg.{Arg}
use Rattle.ada_syntax.specs.declared.expressions.ArgChoice.{ArgChoice}
use Rattle.ada_syntax.specs.declared.expressions.ArgChoice.TheVariants as cho
use Rattle.ada_syntax.specs.declared.expressions.Arm.{Arm}
use Rattle.ada_syntax.specs.declared.expressions.Attribute.TheVariants as att
use Rattle.ada_syntax.specs.declared.expressions.Expr.{Expr, out-Expr, roll-Expr, map-Expr, fold-roll-Expr, fold_out-Expr}
use Rattle.ada_syntax.specs.declared.expressions.Expr.TheShapes as shapes
use Rattle.ada_syntax.specs.declared.expressions.ExprNode.{ExprNode}
use Rattle.ada_syntax.specs.declared.expressions.ExprNode.TheVariants as node
use Rattle.ada_syntax.specs.declared.expressions.Item.{Item}
use Rattle.ada_syntax.specs.declared.expressions.ItemForm.{ItemForm}
use Rattle.ada_syntax.specs.declared.expressions.ItemForm.TheVariants as itm
use Rattle.ada_syntax.specs.declared.expressions.Suffix.{Suffix}
use Rattle.ada_syntax.specs.declared.expressions.Suffix.TheVariants as suf
use Rattle.ada_syntax.specs.declared.expressions.Name.{Name}
use Rattle.ada_syntax.specs.declared.statements.Action.{Action}
use Rattle.ada_syntax.specs.declared.statements.Action.TheVariants as act
use Rattle.ada_syntax.specs.declared.statements.Alternative.{Alternative}
use Rattle.ada_syntax.specs.declared.statements.Branch.{Branch}
use Rattle.ada_syntax.specs.declared.statements.Stmt.{Stmt, out-Stmt, roll-Stmt, map-Stmt, fold-roll-Stmt, fold_out-Stmt}
use Rattle.ada_syntax.specs.declared.statements.Stmt.TheShapes as stmt_shapes
use Rattle.ada_syntax.specs.declared.declarations.Aspect.{Aspect}
use Rattle.ada_syntax.specs.declared.declarations.Body.{Body}
use Rattle.ada_syntax.specs.declared.declarations.Decl.{Decl, out-Decl, roll-Decl, map-Decl, fold-roll-Decl, fold_out-Decl}
use Rattle.ada_syntax.specs.declared.declarations.DeclForm.{DeclForm}
use Rattle.ada_syntax.specs.declared.declarations.DeclForm.TheVariants as dec
use Rattle.ada_syntax.specs.declared.declarations.Param.{Param}
use Rattle.syntax_view.specs.Trees as tree
use Rattle.syntax_view.specs.View.{action_of, alternatives_of, arg_of, args_of, arms_of, branches_of, case_choice_of, decl, decl_form_of, decl_step, decls_of, expr, expr_step, form_of, head_of, heading_of, item_of, node_of, stmt, stmt_step, stmts_of, sub_of, suffix_of, suffixes_of}

-- ---- what is mapped, and then seen: parts of expressions

abbrev It : Type 0
It = tree.Expr

arms_map : (m : Arm Expr → Arm It) → ((a : Arm Expr) → m a ≡ record { condition = expr a.condition; gives = expr a.gives }) → (as' : List (Arm Expr)) → arms_of (λ t. t) (map m as') ≡ arms_of expr as'
arms_map m h [] = refl
arms_map m h (a ∷ as') = ap₂ (λ (b : Arm It) (r : tree.Arms). tree.arm b.condition b.gives r) (h a) (arms_map m h as')

choose_map : (s : Span) (m : Arm Expr → Arm It) → ((a : Arm Expr) → m a ≡ record { condition = expr a.condition; gives = expr a.gives }) → (as' : List (Arm Expr)) (e : tree.MaybeExpr) → tree.item s (tree.choose (arms_of (λ t. t) (map m as')) e) ≡ tree.item s (tree.choose (arms_of expr as') e)
choose_map s m h as' e = ap (λ (r : tree.Arms). tree.item s (tree.choose r e)) (arms_map m h as')

args_map : (m : Arg Expr → Arg It) → ((a : Arg Expr) → arg_of (λ t. t) (m a) ≡ arg_of expr a) → (as' : List (Arg Expr)) → args_of (λ t. t) (map m as') ≡ args_of expr as'
args_map m h [] = refl
args_map m h (a ∷ as') = ap₂ (λ (b : tree.Arg) (r : tree.Args). tree.args b r) (h a) (args_map m h as')

applied_map : (m : Arg Expr → Arg It) → ((a : Arg Expr) → arg_of (λ t. t) (m a) ≡ arg_of expr a) → (as' : List (Arg Expr)) → tree.applied (args_of (λ t. t) (map m as')) ≡ tree.applied (args_of expr as')
applied_map m h as' = ap tree.applied (args_map m h as')

qualified_map : (p : Span) (m : Arg Expr → Arg It) → ((a : Arg Expr) → arg_of (λ t. t) (m a) ≡ arg_of expr a) → (as' : List (Arg Expr)) → tree.ticked p (tree.qualified (args_of (λ t. t) (map m as'))) ≡ tree.ticked p (tree.qualified (args_of expr as'))
qualified_map p m h as' = ap (λ (r : tree.Args). tree.ticked p (tree.qualified r)) (args_map m h as')

group_map : (s : Span) (m : Arg Expr → Arg It) → ((a : Arg Expr) → arg_of (λ t. t) (m a) ≡ arg_of expr a) → (as' : List (Arg Expr)) → tree.at s (tree.group (args_of (λ t. t) (map m as'))) ≡ tree.at s (tree.group (args_of expr as'))
group_map s m h as' = ap (λ (r : tree.Args). tree.at s (tree.group r)) (args_map m h as')

suffixes_map : (m : Suffix Expr → Suffix It) → ((a : Suffix Expr) → suffix_of (λ t. t) (m a) ≡ suffix_of expr a) → (ss : List (Suffix Expr)) → suffixes_of (λ t. t) (map m ss) ≡ suffixes_of expr ss
suffixes_map m h [] = refl
suffixes_map m h (a ∷ ss) = ap₂ (λ (b : tree.Suffix) (r : tree.Suffixes). tree.suffixes b r) (h a) (suffixes_map m h ss)

name_map : (s t f : Span) (m : Suffix Expr → Suffix It) → ((a : Suffix Expr) → suffix_of (λ t. t) (m a) ≡ suffix_of expr a) → (ss : List (Suffix Expr)) → tree.at s (tree.name (tree.named t f (suffixes_of (λ t. t) (map m ss)))) ≡ tree.at s (tree.name (tree.named t f (suffixes_of expr ss)))
name_map s t f m h ss = ap (λ (r : tree.Suffixes). tree.at s (tree.name (tree.named t f r))) (suffixes_map m h ss)

item_map : (s : Span) (f : ItemForm Expr) → item_of (λ t. t) ((shapes.former-Expr-node-at-24).map Expr It expr (record { span = s; form = f })) ≡ tree.item s (form_of expr f)
item_map s (itm.Plain e) = refl
item_map s (itm.If as' None) = choose_map s _ (λ a. refl) as' _
item_map s (itm.If as' (Some e)) = choose_map s _ (λ a. refl) as' _
item_map s (itm.Quantified q n r p) = elim (r.high) as (λ (h : Option Expr). item_of (λ t. t) ((shapes.former-Expr-node-at-24).map Expr It expr (record { span = s; form = itm.Quantified q n (record { low = r.low; high = h }) p })) ≡ tree.item s (form_of expr (itm.Quantified q n (record { low = r.low; high = h }) p))) [ None ↦ refl | Some h ↦ refl ]

arg_map : (s : Span) (c : ArgChoice Expr) (v : Option (Item Expr)) → arg_of (λ t. t) ((shapes.former-Expr-node-at-47).map Expr It expr (record { span = s; choice = c; value = v })) ≡ arg_of expr (record { span = s; choice = c; value = v })
arg_map s cho.Others None = refl
arg_map s cho.Others (Some i) = ap (λ (j : tree.Item). tree.arg s tree.other_parts (tree.value j)) (item_map i.span i.form)
arg_map s (cho.Range l h) None = refl
arg_map s (cho.Range l h) (Some i) = ap (λ (j : tree.Item). tree.arg s (tree.parts (expr l) (expr h)) (tree.value j)) (item_map i.span i.form)
arg_map s (cho.Item i) None = ap (λ (j : tree.Item). tree.arg s (tree.part j) tree.no_value) (item_map i.span i.form)
arg_map s (cho.Item i) (Some k) = ap₂ (λ (j l : tree.Item). tree.arg s (tree.part j) (tree.value l)) (item_map i.span i.form) (item_map k.span k.form)

suffix_map : (x : Suffix Expr) → suffix_of (λ t. t) ((shapes.former-Expr-node-at-93).map Expr It expr x) ≡ suffix_of expr x
suffix_map (suf.Selected n) = refl
suffix_map (suf.Ticked p (att.Named n)) = refl
suffix_map (suf.Ticked p att.Range) = refl
suffix_map (suf.Ticked p (att.Qualified as')) = qualified_map p _ (λ x. arg_map x.span x.choice x.value) as'
suffix_map (suf.Applied as') = applied_map _ (λ x. arg_map x.span x.choice x.value) as'

node_map : (s : Span) (n : ExprNode Expr) → expr_step (map-Expr Expr It expr (record { span = s; node = n })) ≡ tree.at s (node_of expr n)
node_map s (node.Number n) = refl
node_map s node.Null = refl
node_map s (node.Name n) = name_map s n.span n.first _ suffix_map n.suffixes
node_map s (node.Group as') = group_map s _ (λ x. arg_map x.span x.choice x.value) as'
node_map s (node.Unary p o a) = refl
node_map s (node.Binary p o a b) = refl
node_map s (node.Member p n a r) = elim (r.high) as (λ (h : Option Expr). expr_step (map-Expr Expr It expr (record { span = s; node = node.Member p n a (record { low = r.low; high = h }) })) ≡ tree.at s (node_of expr (node.Member p n a (record { low = r.low; high = h })))) [ None ↦ refl | Some h ↦ refl ]

-- ---- parts of statements and declarations

stmts_map : (ss : List Stmt) → stmts_of (λ t. t) (map stmt ss) ≡ stmts_of stmt ss
stmts_map [] = refl
stmts_map (s ∷ ss) = ap (tree.stmts (stmt s)) (stmts_map ss)

branches_map : (m : Branch Stmt → Branch tree.Stmt) → ((b : Branch Stmt) → m b ≡ record { condition = b.condition; body = map stmt b.body }) → (bs : List (Branch Stmt)) → branches_of (λ t. t) (map m bs) ≡ branches_of stmt bs
branches_map m h [] = refl
branches_map m h (b ∷ bs) =
    ap₂ (λ (c : Branch tree.Stmt) (r : tree.Branches). tree.branch (expr c.condition) (stmts_of (λ t. t) c.body) r) (h b) (branches_map m h bs)
    ∙ ap (λ (r : tree.Stmts). tree.branch (expr b.condition) r (branches_of stmt bs)) (stmts_map b.body)

alternatives_map : (m : Alternative Stmt → Alternative tree.Stmt) → ((a : Alternative Stmt) → m a ≡ record { choices = a.choices; body = map stmt a.body }) → (as' : List (Alternative Stmt)) → alternatives_of (λ t. t) (map m as') ≡ alternatives_of stmt as'
alternatives_map m h [] = refl
alternatives_map m h (a ∷ as') =
    ap₂ (λ (c : Alternative tree.Stmt) (r : tree.Alternatives). tree.alternative (map case_choice_of c.choices) (stmts_of (λ t. t) c.body) r) (h a) (alternatives_map m h as')
    ∙ ap (λ (r : tree.Stmts). tree.alternative (map case_choice_of a.choices) r (alternatives_of stmt as')) (stmts_map a.body)

action_map : (s : Span) (a : Action Stmt) → stmt_step (map-Stmt Stmt tree.Stmt stmt (record { span = s; action = a })) ≡ tree.statement s (action_of stmt a)
action_map s act.Null = refl
action_map s (act.Call n) = refl
action_map s (act.Assign n e) = refl
action_map s (act.If bs ss) = ap₂ (λ (b : tree.Branches) (r : tree.Stmts). tree.statement s (tree.branches b r)) (branches_map ((stmt_shapes.former-Stmt-action-at-6).map Stmt tree.Stmt stmt) (λ b. refl) bs) (stmts_map ss)
action_map s (act.Case e as') = ap (λ (r : tree.Alternatives). tree.statement s (tree.case_of (expr e) r)) (alternatives_map ((stmt_shapes.former-Stmt-action-at-14).map Stmt tree.Stmt stmt) (λ a. refl) as')
action_map s (act.Loop h ss) = ap (λ (r : tree.Stmts). tree.statement s (tree.loop (head_of h) r)) (stmts_map ss)
action_map s (act.Exit e) = refl
action_map s (act.Return e) = refl
action_map s (act.Pragma p) = refl

decls_map : (ds : List Decl) → decls_of (λ t. t) (map decl ds) ≡ decls_of decl ds
decls_map [] = refl
decls_map (d ∷ ds) = ap (tree.decls (decl d)) (decls_map ds)

sub_map : (s t n : Span) (ps : List Param) (r : Option (Name Expr)) (as' : List Aspect) (b : Option (Body Decl)) → decl_step (map-Decl Decl tree.Decl decl (record { span = s; form = dec.Sub (record { span = t; name = n; params = ps; result = r; aspects = as'; body = b }) })) ≡ tree.declaration s (tree.sub_decl (sub_of decl (record { span = t; name = n; params = ps; result = r; aspects = as'; body = b })))
sub_map s t n ps r as' None = refl
sub_map s t n ps r as' (Some b) = ap (λ (ds : tree.Decls). tree.declaration s (tree.sub_decl (tree.sub (heading_of (record { span = t; name = n; params = ps; result = r; aspects = as'; body = Some b })) (tree.body ds (stmts_of stmt b.statements) b.end_name)))) (decls_map b.declarations)

form_map : (s : Span) (f : DeclForm Decl) → decl_step (map-Decl Decl tree.Decl decl (record { span = s; form = f })) ≡ tree.declaration s (decl_form_of decl f)
form_map s (dec.Type n t) = refl
form_map s (dec.Subtype n t) = refl
form_map s (dec.Object ns o) = refl
form_map s (dec.Sub q) = sub_map s q.span q.name q.params q.result q.aspects q.body
form_map s (dec.Pragma p) = refl
form_map s (dec.Use ns) = refl

-- ---- expressions

-- one that is made of a node
pub expr_made : (s : Span) (n : ExprNode Expr) → expr (roll-Expr (record { span = s; node = n })) ≡ tree.at s (node_of expr n)
expr_made s n = fold-roll-Expr It expr_step (record { span = s; node = n }) ∙ node_map s n

-- one that has this node
pub expr_has : (e : Expr) (n : ExprNode Expr) → (out-Expr e).node ≡ n → expr e ≡ tree.at (out-Expr e).span (node_of expr n)
expr_has e n h = fold_out-Expr It expr_step e ∙ node_map (out-Expr e).span (out-Expr e).node ∙ ap (λ (m : ExprNode Expr). tree.at (out-Expr e).span (node_of expr m)) h

-- ---- statements

-- one that is made of an action
pub stmt_made : (s : Span) (a : Action Stmt) → stmt (roll-Stmt (record { span = s; action = a })) ≡ tree.statement s (action_of stmt a)
stmt_made s a = fold-roll-Stmt tree.Stmt stmt_step (record { span = s; action = a }) ∙ action_map s a

-- one that has this action
pub stmt_has : (s : Stmt) (a : Action Stmt) → (out-Stmt s).action ≡ a → stmt s ≡ tree.statement (out-Stmt s).span (action_of stmt a)
stmt_has s a h = fold_out-Stmt tree.Stmt stmt_step s ∙ action_map (out-Stmt s).span (out-Stmt s).action ∙ ap (λ (b : Action Stmt). tree.statement (out-Stmt s).span (action_of stmt b)) h

-- ---- declarations

-- one that is made of a form
pub decl_made : (s : Span) (f : DeclForm Decl) → decl (roll-Decl (record { span = s; form = f })) ≡ tree.declaration s (decl_form_of decl f)
decl_made s f = fold-roll-Decl tree.Decl decl_step (record { span = s; form = f }) ∙ form_map s f

-- one that has this form
pub decl_has : (d : Decl) (f : DeclForm Decl) → (out-Decl d).form ≡ f → decl d ≡ tree.declaration (out-Decl d).span (decl_form_of decl f)
decl_has d f h = fold_out-Decl tree.Decl decl_step d ∙ form_map (out-Decl d).span (out-Decl d).form ∙ ap (λ (g : DeclForm Decl). tree.declaration (out-Decl d).span (decl_form_of decl g)) h
