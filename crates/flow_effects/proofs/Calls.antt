-- What the code's calls are seen as.
use Rattle.std.proofs.Common.{◌≡◌, refl, sym, ◌∙◌, ap, ap₂, ℕ, List, [], ◌∷◌, ◌++◌, map, Option}
use Rattle.ada_values.specs.declared.place.Place.{Place}
use Rattle.ada_values.specs.declared.shapes.Shape.{Shape}
use Rattle.typed_units.specs.declared.expressions.Actual.{Actual}
use Rattle.typed_units.specs.declared.expressions.Actual.TheVariants as actual
use Rattle.typed_units.specs.declared.expressions.Argument.{Argument}
use Rattle.typed_units.specs.declared.expressions.Fitted.{Fitted}
use Rattle.typed_units.specs.declared.expressions.Indexed.{Indexed}
use Rattle.typed_units.specs.declared.expressions.Step.{Step}
use Rattle.typed_units.specs.declared.expressions.Step.TheVariants as step
use Rattle.typed_units.specs.declared.expressions.Target.{Target}
use Rattle.typed_units.specs.declared.expressions.Expr.{Expr, out-Expr, roll-Expr, roll-out-Expr, fold-roll-Expr}
use Rattle.typed_units.specs.declared.expressions.ExprNode.{ExprNode}
use Rattle.typed_units.specs.declared.expressions.ExprNode.TheVariants as node
use Rattle.typed_units.specs.declared.operators.Bounds.{Bounds}
use Rattle.typed_units.specs.View.{expr, expr_step, path_of, actual_of, actuals_of, target_of, var}
use Rattle.typed_units.specs.Syntax as text
use Rattle.typed_units.specs.Syntax.{Ex, Text}
use Rattle.flow_rules.specs.Aliases.{all_passed, form_faults, global_faults, overlap_faults}
use Rattle.flow_rules.specs.Base.{form_of}
use Rattle.flow_rules.specs.declared.faults.Effects.{Effects}

-- ---- lists of parts, where m makes of each part what its expressions are seen as

path_seen : (see : Expr → Ex) (m : Step Expr → Step Ex)
    → ((k n : ℕ) → m (step.Component k n) ≡ step.Component k n)
    → ((b : Option Bounds) (i : Indexed Expr) → m (step.Item b i) ≡ step.Item b (record { checked = i.checked; value = see i.value }))
    → (steps : List (Step Expr)) → path_of (λ e. e) (map m steps) ≡ path_of see steps
path_seen see m c i [] = refl
path_seen see m c i (step.Component k n ∷ rest) =
    ap (λ (s : Step Ex). path_of (λ e. e) (s ∷ map m rest)) (c k n) ∙ ap (text.to_component k n) (path_seen see m c i rest)
path_seen see m c i (step.Item b x ∷ rest) =
    ap (λ (s : Step Ex). path_of (λ e. e) (s ∷ map m rest)) (i b x) ∙ ap (text.to_item b x.checked (see x.value)) (path_seen see m c i rest)

actual_seen : (see : Expr → Ex) (m : Argument Expr → Argument Ex)
    → ((k : ℕ) (f : Fitted Expr) → actual_of (λ e. e) (m (record { formal = k; value = actual.In f })).formal (m (record { formal = k; value = actual.In f })).value ≡ text.pass_in k f.bounds (see f.value))
    → ((k : ℕ) (t : Target Expr) (b : Option Bounds) → actual_of (λ e. e) (m (record { formal = k; value = actual.Out t b })).formal (m (record { formal = k; value = actual.Out t b })).value ≡ text.pass_out k (target_of see t) b)
    → ((k : ℕ) (t : Target Expr) (a b : Option Bounds) → actual_of (λ e. e) (m (record { formal = k; value = actual.InOut t a b })).formal (m (record { formal = k; value = actual.InOut t a b })).value ≡ text.pass_in_out k (target_of see t) a b)
    → (k : ℕ) (v : Actual Expr) → actual_of (λ e. e) (m (record { formal = k; value = v })).formal (m (record { formal = k; value = v })).value ≡ actual_of see k v
actual_seen see m i o io k (actual.In f) = i k f
actual_seen see m i o io k (actual.Out t b) = o k t b
actual_seen see m i o io k (actual.InOut t a b) = io k t a b

actuals_seen : (see : Expr → Ex) (m : Argument Expr → Argument Ex)
    → ((k : ℕ) (f : Fitted Expr) → actual_of (λ e. e) (m (record { formal = k; value = actual.In f })).formal (m (record { formal = k; value = actual.In f })).value ≡ text.pass_in k f.bounds (see f.value))
    → ((k : ℕ) (t : Target Expr) (b : Option Bounds) → actual_of (λ e. e) (m (record { formal = k; value = actual.Out t b })).formal (m (record { formal = k; value = actual.Out t b })).value ≡ text.pass_out k (target_of see t) b)
    → ((k : ℕ) (t : Target Expr) (a b : Option Bounds) → actual_of (λ e. e) (m (record { formal = k; value = actual.InOut t a b })).formal (m (record { formal = k; value = actual.InOut t a b })).value ≡ text.pass_in_out k (target_of see t) a b)
    → (as' : List (Argument Expr)) → actuals_of (λ e. e) (map m as') ≡ actuals_of see as'
actuals_seen see m i o io [] = refl
actuals_seen see m i o io (a ∷ rest) = ap₂ text.actual (actual_seen see m i o io a.formal a.value) (actuals_seen see m i o io rest)

-- ---- expressions

abbrev made : Place → ℕ → ExprNode Expr → Expr
made p s n = roll-Expr (record { place = p; subtype = s; node = n })

view_at : (shapes : List Shape) (e : Expr) (n : ExprNode Expr) → (out-Expr e).node ≡ n → expr shapes e ≡ expr shapes (made (out-Expr e).place (out-Expr e).subtype n)
view_at shapes e n h = ap (expr shapes) (sym (roll-out-Expr e)) ∙ ap (λ m. expr shapes (made (out-Expr e).place (out-Expr e).subtype m)) h

view_call : (shapes : List Shape) (p : Place) (s : ℕ) (c : Place) (q : ℕ) (as' : List (Argument Expr)) → expr shapes (made p s (node.Call c q as')) ≡ text.at p s (text.call c q (actuals_of (expr shapes) as'))
view_call shapes p s c q as' =
    fold-roll-Expr Ex (expr_step shapes) (record { place = p; subtype = s; node = node.Call c q as' })
    ∙ ap (λ (x : text.Actuals). text.at p s (text.call c q x)) (actuals_seen (expr shapes) _
    (λ k f. refl)
    (λ k t b. ap (λ (x : text.Path). text.pass_out k (text.target t.place (var t.object) x) b) (path_seen (expr shapes) _ (λ k n. refl) (λ b i. refl) t.path))
    (λ k t a b. ap (λ (x : text.Path). text.pass_in_out k (text.target t.place (var t.object) x) a b) (path_seen (expr shapes) _ (λ k n. refl) (λ b i. refl) t.path))
    as')

call_form : (shapes : List Shape) (e : Expr) (c : Place) (q : ℕ) (as' : List (Argument Expr)) → (out-Expr e).node ≡ node.Call c q as' → form_of (expr shapes e) ≡ text.call c q (actuals_of (expr shapes) as')
call_form shapes e c q as' h = ap form_of (view_at shapes e (node.Call c q as') h ∙ view_call shapes (out-Expr e).place (out-Expr e).subtype c q as')

pub call_faults_are : (t : Text) (f : Effects) (shapes : List Shape) (e : Expr) (c : Place) (q : ℕ) (as' : List (Argument Expr)) → (out-Expr e).node ≡ node.Call c q as'
    → form_faults t f (form_of (expr shapes e)) ≡ overlap_faults [] (all_passed t.shapes (actuals_of (expr shapes) as')) ++ global_faults f q (all_passed t.shapes (actuals_of (expr shapes) as'))
call_faults_are t f shapes e c q as' h = ap (form_faults t f) (call_form shapes e c q as' h)
