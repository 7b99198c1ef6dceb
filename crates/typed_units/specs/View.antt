-- The text that a typed program is.
use Rattle.std.specs.Prelude.{ℕ, zero, suc, List, [], ◌∷◌, map, Option, Some, None, pos}
use Rattle.ada_values.specs.Value.{value}
use Rattle.ada_values.specs.declared.scalars.Scalar.{Scalar}
use Rattle.ada_values.specs.declared.shapes.Shape.{Shape}
use Rattle.ada_values.specs.declared.shapes.Shape.TheVariants as shape
use Rattle.typed_units.specs.declared.operators.Object.{Object}
use Rattle.typed_units.specs.declared.operators.Object.TheVariants as object
use Rattle.typed_units.specs.declared.expressions.Step.{Step}
use Rattle.typed_units.specs.declared.expressions.Step.TheVariants as step
use Rattle.typed_units.specs.declared.expressions.Target.{Target}
use Rattle.typed_units.specs.declared.expressions.Actual.{Actual}
use Rattle.typed_units.specs.declared.expressions.Actual.TheVariants as actual
use Rattle.typed_units.specs.declared.expressions.Argument.{Argument}
use Rattle.typed_units.specs.declared.expressions.Arm.{Arm}
use Rattle.typed_units.specs.declared.expressions.Association.{Association}
use Rattle.typed_units.specs.declared.expressions.ExprNode.{ExprNode}
use Rattle.typed_units.specs.declared.expressions.ExprNode.TheVariants as node
use Rattle.typed_units.specs.declared.expressions.Expr.{Expr, fold-Expr}
use Rattle.typed_units.specs.declared.expressions.Expr.TheOpen.{Expr-F}
use Rattle.typed_units.specs.declared.statements.Way.{Way}
use Rattle.typed_units.specs.declared.statements.Demand.{Demand}
use Rattle.typed_units.specs.declared.statements.Demand.TheVariants as demand
use Rattle.typed_units.specs.declared.statements.Head.{Head}
use Rattle.typed_units.specs.declared.statements.Head.TheVariants as head
use Rattle.typed_units.specs.declared.statements.Branch.{Branch}
use Rattle.typed_units.specs.declared.statements.Alternative.{Alternative}
use Rattle.typed_units.specs.declared.statements.Action.{Action}
use Rattle.typed_units.specs.declared.statements.Action.TheVariants as action
use Rattle.typed_units.specs.declared.statements.Stmt.{Stmt, fold-Stmt}
use Rattle.typed_units.specs.declared.statements.Stmt.TheOpen.{Stmt-F}
use Rattle.typed_units.specs.declared.programs.Contract.{Contract}
use Rattle.typed_units.specs.declared.programs.Sub.{Sub}
use Rattle.typed_units.specs.declared.programs.Program.{Program}
use Rattle.typed_units.specs.Syntax as text
use Rattle.typed_units.specs.Syntax.{Var, param, local, global, turn, index, answer, present, entry, loop_entry, first, last, length_at, succ_at, pred_at, same, negation, unary, convert, component, binary, compare, item, Ex, at, Nd, static, read, op1, op2, connect, member, call, aggregate, choose, quantified, Path, here, to_component, to_item, Actuals, no_actuals, Arms, other, arm, Assocs, no_assocs, assoc}

abbrev pub var : Object → Var
var (object.Param k) = param k
var (object.Local k) = local k
var (object.Global k) = global k
var (object.Turn k) = turn k
var (object.Index k) = index k

-- the scalar subtype of a subtype's number; an empty one where it is no number
abbrev pub scalar_in : Shape → Scalar
scalar_in (shape.Number s) = s
scalar_in _ = record { lo = pos 1; hi = pos 0; base_lo = pos 1; base_hi = pos 0; modulus = None }

abbrev pub scalar_at : List Shape → ℕ → Scalar
scalar_at [] k = record { lo = pos 1; hi = pos 0; base_lo = pos 1; base_hi = pos 0; modulus = None }
scalar_at (s ∷ ss) zero = scalar_in s
scalar_at (s ∷ ss) (suc k) = scalar_at ss k

-- ---- objects that are assigned and passed, by what their parts are seen as

abbrev pub path_of : {E : Type 0} → (E → Ex) → List (Step E) → Path
path_of see [] = here
path_of see (step.Component k n ∷ rest) = to_component k n (path_of see rest)
path_of see (step.Item b i ∷ rest) = to_item b i.checked (see i.value) (path_of see rest)

abbrev pub target_of : {E : Type 0} → (E → Ex) → Target E → text.Target
target_of see t = text.target t.place (var t.object) (path_of see t.path)

abbrev pub actual_of : {E : Type 0} → (E → Ex) → ℕ → Actual E → text.Actual
actual_of see k (actual.In a) = text.pass_in k a.bounds (see a.value)
actual_of see k (actual.Out t b) = text.pass_out k (target_of see t) b
actual_of see k (actual.InOut t a b) = text.pass_in_out k (target_of see t) a b

abbrev pub actuals_of : {E : Type 0} → (E → Ex) → List (Argument E) → Actuals
actuals_of see [] = no_actuals
actuals_of see (a ∷ as') = text.actual (actual_of see a.formal a.value) (actuals_of see as')

-- ---- expressions

abbrev pub arms_of : List (Arm Ex) → Ex → Arms
arms_of [] e = other e
arms_of (a ∷ as') e = arm a.condition a.gives (arms_of as' e)

abbrev pub assocs_of : List (Association Ex) → Assocs
assocs_of [] = no_assocs
assocs_of (a ∷ as') = assoc a.ranges a.others a.checks a.value (assocs_of as')

abbrev pub node_of : Scalar → ExprNode Ex → Nd
node_of s (node.Static v) = static (value v)
node_of s (node.Read p o) = read p present (var o)
node_of s (node.Old p o) = read p entry (var o)
node_of s (node.LoopEntry p k o) = read p (loop_entry k) (var o)
node_of s (node.Result p) = read p present answer
node_of s (node.First a) = op1 first a
node_of s (node.Last a) = op1 last a
node_of s (node.Length p a) = op1 (length_at p s) a
node_of s (node.Succ p a) = op1 (succ_at p s) a
node_of s (node.Pred p a) = op1 (pred_at p s) a
node_of s (node.Same a) = op1 same a
node_of s (node.Not a) = op1 negation a
node_of s (node.Unary p o a) = op1 (unary o s p) a
node_of s (node.Binary p o a b) = op2 (binary o s p) a b
node_of s (node.Compare r a b) = op2 (compare r) a b
node_of s (node.Connect c a b) = connect c a b
node_of s (node.Member is a l h) = member is a l h
node_of s (node.Convert b a) = op1 (convert b) a
node_of s (node.Call p q as') = call p q (actuals_of (λ e. e) as')
node_of s (node.Item a i) = op2 (item i.checked) a i.value
node_of s (node.Component a k) = component k a
node_of s (node.Aggregate c b as') = aggregate c b (assocs_of as')
node_of s (node.If as' e) = choose (arms_of as' e)
node_of s (node.Quantified q k l h p) = quantified q k.number l h p

abbrev pub expr_step : List Shape → Expr-F Ex → Ex
expr_step shapes e = at e.place e.subtype (node_of (scalar_at shapes e.subtype) e.node)

-- the expression that the code's expression is, over the shapes of its program
abbrev pub expr : List Shape → Expr → Ex
expr shapes = fold-Expr Ex (expr_step shapes)

-- ---- statements

abbrev pub way_of : List Shape → Way → text.Way
way_of shapes w = record { direction = w.direction; value = expr shapes w.value }

abbrev pub demand_of : List Shape → Demand → text.Demand
demand_of shapes (demand.Invariant e) = text.invariant (expr shapes e)
demand_of shapes (demand.Variant ws) = text.variant (map (way_of shapes) ws)

abbrev pub head_of : List Shape → Head → text.Head
head_of shapes head.Forever = text.forever
head_of shapes (head.While e) = text.while (expr shapes e)
head_of shapes (head.For r k l h) = text.for r k.number (expr shapes l) (expr shapes h)

abbrev pub sts_of : List text.St → text.Sts
sts_of [] = text.done
sts_of (a ∷ rest) = text.then a (sts_of rest)

abbrev pub branches_of : List Shape → List (Branch text.St) → List text.St → text.Branches
branches_of shapes [] els = text.otherwise (sts_of els)
branches_of shapes (b ∷ rest) els = text.when (expr shapes b.condition) (sts_of b.body) (branches_of shapes rest els)

abbrev pub alternatives_of : List (Alternative text.St) → text.Alternatives
alternatives_of [] = text.no_alternatives
alternatives_of (a ∷ rest) = text.alternative a.choices a.others (sts_of a.body) (alternatives_of rest)

abbrev pub action_of : List Shape → Action text.St → text.Ac
action_of shapes action.Null = text.skip
action_of shapes (action.Assign t a) = text.assign (target_of (expr shapes) t) a.bounds (expr shapes a.value)
action_of shapes (action.Call q as') = text.invoke q (actuals_of (expr shapes) as')
action_of shapes (action.If bs els) = text.branch (branches_of shapes bs els)
action_of shapes (action.Case e as') = text.case_of (expr shapes e) (alternatives_of as')
action_of shapes (action.Loop l) = text.loop l.number (head_of shapes l.head) (sts_of l.before) (map (demand_of shapes) l.group) (sts_of l.after)
action_of shapes action.Exit = text.exit
action_of shapes (action.ExitWhen e) = text.exit_when (expr shapes e)
action_of shapes action.Return = text.return
action_of shapes (action.Give a) = text.give a.bounds (expr shapes a.value)
action_of shapes (action.Assert e) = text.assert (expr shapes e)
action_of shapes (action.Assume e) = text.assume (expr shapes e)

abbrev pub stmt_step : List Shape → Stmt-F text.St → text.St
stmt_step shapes s = text.st s.place (action_of shapes s.action)

-- the statement that the code's statement is
abbrev pub stmt : List Shape → Stmt → text.St
stmt shapes = fold-Stmt text.St (stmt_step shapes)

abbrev pub stmts : List Shape → List Stmt → text.Sts
stmts shapes ss = sts_of (map (stmt shapes) ss)

abbrev pub condition_of : List Shape → Option Contract → Option Ex
condition_of shapes None = None
condition_of shapes (Some c) = Some (expr shapes c.condition)

abbrev pub routine : List Shape → Sub → text.Routine
routine shapes q = record {
  formals = map (λ p. record { mode = p.mode; subtype = p.subtype }) q.params;
  result = q.result;
  pre = condition_of shapes q.pre;
  post = condition_of shapes q.post;
  locals = map (λ l. l.subtype) q.locals;
  opening = stmts shapes q.opening;
  body = stmts shapes q.body;
}

-- the text that the code's program is
abbrev pub text_of : Program → text.Text
text_of p = record {
  shapes = p.shapes;
  kinds = map (λ t. record { of = t.of; class = t.class }) p.types;
  globals = map (λ g. g.subtype) p.globals;
  routines = map (routine p.shapes) p.subs;
}
