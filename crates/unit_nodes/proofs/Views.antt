-- What the code's expressions and statements with lists of parts are seen as, and their nodes.
use Rattle.std.proofs.Common.{◌≡◌, refl, sym, ◌∙◌, ap, ap₂, subst, ℕ, List, [], ◌∷◌, ◌++◌, map, Option}
use Rattle.ada_values.specs.declared.place.Place.{Place}
use Rattle.ada_values.specs.declared.shapes.Shape.{Shape}
use Rattle.typed_units.specs.declared.expressions.Actual.{Actual}
use Rattle.typed_units.specs.declared.expressions.Actual.TheVariants as actual
use Rattle.typed_units.specs.declared.expressions.Argument.{Argument}
use Rattle.typed_units.specs.declared.expressions.Arm.{Arm}
use Rattle.typed_units.specs.declared.expressions.Association.{Association}
use Rattle.typed_units.specs.declared.expressions.Fitted.{Fitted}
use Rattle.typed_units.specs.declared.expressions.Indexed.{Indexed}
use Rattle.typed_units.specs.declared.expressions.Step.{Step}
use Rattle.typed_units.specs.declared.expressions.Step.TheVariants as step
use Rattle.typed_units.specs.declared.expressions.Target.{Target}
use Rattle.typed_units.specs.declared.expressions.Expr.{Expr, out-Expr, roll-Expr, roll-out-Expr, fold-roll-Expr}
use Rattle.typed_units.specs.declared.expressions.ExprNode.{ExprNode}
use Rattle.typed_units.specs.declared.expressions.ExprNode.TheVariants as node
use Rattle.typed_units.specs.declared.operators.Bounds.{Bounds}
use Rattle.typed_units.specs.declared.operators.Composite.{Composite}
use Rattle.typed_units.specs.View.{expr, expr_step, path_of, actual_of, actuals_of, target_of, arms_of, assocs_of, var}
use Rattle.typed_units.specs.Syntax as text
use Rattle.typed_units.specs.Syntax.{Ex}
use Rattle.unit_nodes.specs.declared.node.Asked.{Asked}
use Rattle.unit_nodes.specs.declared.node.Asked.TheVariants as asked
use Rattle.unit_nodes.specs.Nodes.{Node, expression, onto, actuals_onto, arms_onto, assocs_onto}
use Rattle.unit_nodes.specs.View.{assocs_seen, each_arm_onto}

-- ---- lists of parts, where m makes of each part what its expressions are seen as

path_seen : (see : Expr → Ex) (m : Step Expr → Step Ex)
    → ((k n : ℕ) → m (step.Component k n) ≡ step.Component k n)
    → ((b : Option Bounds) (i : Indexed Expr) → m (step.Item b i) ≡ step.Item b (record { checked = i.checked; value = see i.value }))
    → (steps : List (Step Expr)) → path_of (λ e. e) (map m steps) ≡ path_of see steps
path_seen see m c i [] = refl
path_seen see m c i (step.Component k n ∷ rest) =
    ap (λ (s : Step Ex). path_of (λ e. e) (s ∷ map m rest)) (c k n) ∙ ap (text.to_component k n) (path_seen see m c i rest)
path_seen see m c i (step.Item b x ∷ rest) =
    ap (λ (s : Step Ex). path_of (λ e. e) (s ∷ map m rest)) (i b x) ∙ ap (text.to_item b x.checked (see x.value)) (path_seen see m c i rest)

actual_seen : (see : Expr → Ex) (m : Argument Expr → Argument Ex)
    → ((k : ℕ) (f : Fitted Expr) → actual_of (λ e. e) (m (record { formal = k; value = actual.In f })).formal (m (record { formal = k; value = actual.In f })).value ≡ text.pass_in k f.bounds (see f.value))
    → ((k : ℕ) (t : Target Expr) (b : Option Bounds) → actual_of (λ e. e) (m (record { formal = k; value = actual.Out t b })).formal (m (record { formal = k; value = actual.Out t b })).value ≡ text.pass_out k (target_of see t) b)
    → ((k : ℕ) (t : Target Expr) (a b : Option Bounds) → actual_of (λ e. e) (m (record { formal = k; value = actual.InOut t a b })).formal (m (record { formal = k; value = actual.InOut t a b })).value ≡ text.pass_in_out k (target_of see t) a b)
    → (k : ℕ) (v : Actual Expr) → actual_of (λ e. e) (m (record { formal = k; value = v })).formal (m (record { formal = k; value = v })).value ≡ actual_of see k v
actual_seen see m i o io k (actual.In f) = i k f
actual_seen see m i o io k (actual.Out t b) = o k t b
actual_seen see m i o io k (actual.InOut t a b) = io k t a b

actuals_seen : (see : Expr → Ex) (m : Argument Expr → Argument Ex)
    → ((k : ℕ) (f : Fitted Expr) → actual_of (λ e. e) (m (record { formal = k; value = actual.In f })).formal (m (record { formal = k; value = actual.In f })).value ≡ text.pass_in k f.bounds (see f.value))
    → ((k : ℕ) (t : Target Expr) (b : Option Bounds) → actual_of (λ e. e) (m (record { formal = k; value = actual.Out t b })).formal (m (record { formal = k; value = actual.Out t b })).value ≡ text.pass_out k (target_of see t) b)
    → ((k : ℕ) (t : Target Expr) (a b : Option Bounds) → actual_of (λ e. e) (m (record { formal = k; value = actual.InOut t a b })).formal (m (record { formal = k; value = actual.InOut t a b })).value ≡ text.pass_in_out k (target_of see t) a b)
    → (as' : List (Argument Expr)) → actuals_of (λ e. e) (map m as') ≡ actuals_of see as'
actuals_seen see m i o io [] = refl
actuals_seen see m i o io (a ∷ rest) = ap₂ text.actual (actual_seen see m i o io a.formal a.value) (actuals_seen see m i o io rest)

arms_are : (shapes : List Shape) (xs : List Node) (as' : List (Arm Expr)) (e : Expr)
    → arms_onto xs (arms_of (map (λ (a : Arm Expr). record { condition = expr shapes a.condition; gives = expr shapes a.gives }) as') (expr shapes e)) ≡ onto asked.Whole (each_arm_onto shapes xs as') (expr shapes e)
arms_are shapes xs [] e = refl
arms_are shapes xs (a ∷ rest) e = arms_are shapes (onto asked.Whole (onto asked.Whole xs (expr shapes a.condition)) (expr shapes a.gives)) rest e

assocs_are : (shapes : List Shape) (as' : List (Association Expr)) → assocs_of (map (λ (a : Association Expr). record { ranges = a.ranges; others = a.others; checks = a.checks; value = expr shapes a.value }) as') ≡ assocs_seen shapes as'
assocs_are shapes [] = refl
assocs_are shapes (a ∷ rest) = ap (text.assoc a.ranges a.others a.checks (expr shapes a.value)) (assocs_are shapes rest)

-- ---- expressions

abbrev made : Place → ℕ → ExprNode Expr → Expr
made p s n = roll-Expr (record { place = p; subtype = s; node = n })

view_at : (shapes : List Shape) (e : Expr) (n : ExprNode Expr) → (out-Expr e).node ≡ n → expr shapes e ≡ expr shapes (made (out-Expr e).place (out-Expr e).subtype n)
view_at shapes e n h = ap (expr shapes) (sym (roll-out-Expr e)) ∙ ap (λ m. expr shapes (made (out-Expr e).place (out-Expr e).subtype m)) h

view_call : (shapes : List Shape) (p : Place) (s : ℕ) (c : Place) (q : ℕ) (as' : List (Argument Expr)) → expr shapes (made p s (node.Call c q as')) ≡ text.at p s (text.call c q (actuals_of (expr shapes) as'))
view_call shapes p s c q as' =
    fold-roll-Expr Ex (expr_step shapes) (record { place = p; subtype = s; node = node.Call c q as' })
    ∙ ap (λ (x : text.Actuals). text.at p s (text.call c q x)) (actuals_seen (expr shapes) _
    (λ k f. refl)
    (λ k t b. ap (λ (x : text.Path). text.pass_out k (text.target t.place (var t.object) x) b) (path_seen (expr shapes) _ (λ k n. refl) (λ b i. refl) t.path))
    (λ k t a b. ap (λ (x : text.Path). text.pass_in_out k (text.target t.place (var t.object) x) a b) (path_seen (expr shapes) _ (λ k n. refl) (λ b i. refl) t.path))
    as')

view_aggregate : (shapes : List Shape) (p : Place) (s : ℕ) (c : Composite) (b : Bounds) (as' : List (Association Expr)) → expr shapes (made p s (node.Aggregate c b as')) ≡ text.at p s (text.aggregate c b (assocs_seen shapes as'))
view_aggregate shapes p s c b as' =
    fold-roll-Expr Ex (expr_step shapes) (record { place = p; subtype = s; node = node.Aggregate c b as' })
    ∙ ap (λ (x : text.Assocs). text.at p s (text.aggregate c b x)) (assocs_are shapes as')

abbrev arms_view : List Shape → List (Arm Expr) → Expr → text.Arms
arms_view shapes as' e = arms_of (map (λ (a : Arm Expr). record { condition = expr shapes a.condition; gives = expr shapes a.gives }) as') (expr shapes e)

view_if : (shapes : List Shape) (p : Place) (s : ℕ) (as' : List (Arm Expr)) (e : Expr) → expr shapes (made p s (node.If as' e)) ≡ text.at p s (text.choose (arms_view shapes as' e))
view_if shapes p s as' e = fold-roll-Expr Ex (expr_step shapes) (record { place = p; subtype = s; node = node.If as' e })

pub call_nodes : (shapes : List Shape) (a : Asked) (xs : List Node) (e : Expr) (c : Place) (q : ℕ) (as' : List (Argument Expr)) → (out-Expr e).node ≡ node.Call c q as' → onto a xs (expr shapes e) ≡ actuals_onto q (xs ++ expression a (expr shapes e) ∷ []) (actuals_of (expr shapes) as')
call_nodes shapes a xs e c q as' h =
    let P : Ex → Type 0 = λ x. onto a xs x ≡ actuals_onto q (xs ++ expression a x ∷ []) (actuals_of (expr shapes) as') in
    subst P (sym (view_at shapes e (node.Call c q as') h ∙ view_call shapes (out-Expr e).place (out-Expr e).subtype c q as')) refl

pub aggregate_nodes : (shapes : List Shape) (a : Asked) (xs : List Node) (e : Expr) (c : Composite) (b : Bounds) (as' : List (Association Expr)) → (out-Expr e).node ≡ node.Aggregate c b as' → onto a xs (expr shapes e) ≡ assocs_onto (xs ++ expression a (expr shapes e) ∷ []) (assocs_seen shapes as')
aggregate_nodes shapes a xs e c b as' h =
    let P : Ex → Type 0 = λ x. onto a xs x ≡ assocs_onto (xs ++ expression a x ∷ []) (assocs_seen shapes as') in
    subst P (sym (view_at shapes e (node.Aggregate c b as') h ∙ view_aggregate shapes (out-Expr e).place (out-Expr e).subtype c b as')) refl

pub if_nodes : (shapes : List Shape) (a : Asked) (xs : List Node) (e : Expr) (as' : List (Arm Expr)) (o : Expr) → (out-Expr e).node ≡ node.If as' o → onto a xs (expr shapes e) ≡ onto asked.Whole (each_arm_onto shapes (xs ++ expression a (expr shapes e) ∷ []) as') (expr shapes o)
if_nodes shapes a xs e as' o h =
    let v = view_at shapes e (node.If as' o) h ∙ view_if shapes (out-Expr e).place (out-Expr e).subtype as' o in
    let P : Ex → Type 0 = λ x. onto a xs x ≡ onto asked.Whole (each_arm_onto shapes (xs ++ expression a x ∷ []) as') (expr shapes o) in
    subst P (sym v) (arms_are shapes (xs ++ expression a (text.at (out-Expr e).place (out-Expr e).subtype (text.choose (arms_view shapes as' o))) ∷ []) as' o)
