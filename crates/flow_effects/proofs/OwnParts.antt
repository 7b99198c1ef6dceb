-- A statement's own expressions, by the code's forms.
use Rattle.std.proofs.Common.{◌≡◌, refl, sym, ◌∙◌, ap, ℕ, List, [], ◌∷◌, ◌++◌, map}
use Rattle.ada_values.specs.declared.place.Place.{Place}
use Rattle.ada_values.specs.declared.shapes.Shape.{Shape}
use Rattle.typed_units.specs.declared.expressions.Argument.{Argument}
use Rattle.typed_units.specs.declared.expressions.Expr.{Expr}
use Rattle.typed_units.specs.declared.expressions.Fitted.{Fitted}
use Rattle.typed_units.specs.declared.expressions.Target.{Target}
use Rattle.typed_units.specs.declared.statements.Action.{Action}
use Rattle.typed_units.specs.declared.statements.Action.TheVariants as action
use Rattle.typed_units.specs.declared.statements.Alternative.{Alternative}
use Rattle.typed_units.specs.declared.statements.Branch.{Branch}
use Rattle.typed_units.specs.declared.statements.LoopParts.{LoopParts}
use Rattle.typed_units.specs.declared.statements.Stmt.{Stmt, out-Stmt, roll-Stmt, roll-out-Stmt, fold-roll-Stmt}
use Rattle.typed_units.specs.View.{actuals_of, branches_of, demand_of, expr, head_of, path_of, stmt, stmt_step}
use Rattle.typed_units.specs.Syntax as text
use Rattle.typed_units.specs.Syntax.{Ex, St}
use Rattle.unit_nodes.specs.declared.node.Asked.TheVariants as asked
use Rattle.unit_nodes.specs.Inner.{action_of, branches_parts, demand_parts, demands_parts, head_parts, own_parts}
use Rattle.unit_nodes.specs.Parts.{actual_parts, actuals_parts, path_parts}
use Rattle.unit_nodes.specs.Nodes.{Node, onto}
use Rattle.flow_rules.specs.Functions.{each_onto}
use Rattle.flow_effects.specs.OwnParts.{conditions_of, each_actual_onto, each_demand_onto}

-- expressions, then more
pub one_then_more : (xs : List Node) (es : List Ex) (fs : List Ex) → each_onto xs (es ++ fs) ≡ each_onto (each_onto xs es) fs
one_then_more xs [] fs = refl
one_then_more xs (e ∷ es) fs = one_then_more (onto asked.Whole xs e) es fs

abbrev made : Place → Action Stmt → Stmt
made p a = roll-Stmt (record { place = p; action = a })

view_at : (shapes : List Shape) (s : Stmt) (a : Action Stmt) → (out-Stmt s).action ≡ a → stmt shapes s ≡ stmt shapes (made (out-Stmt s).place a)
view_at shapes s a h = ap (stmt shapes) (sym (roll-out-Stmt s)) ∙ ap (λ b. stmt shapes (made (out-Stmt s).place b)) h

abbrev parts_of : St → List Ex
parts_of s = own_parts (action_of s)

conditions_are : (shapes : List Shape) (bs : List (Branch Stmt)) (els : List St)
    → branches_parts (branches_of shapes (map (λ (b : Branch Stmt). record { condition = b.condition; body = map (stmt shapes) b.body }) bs) els) ≡ conditions_of shapes bs
conditions_are shapes [] els = refl
conditions_are shapes (b ∷ bs) els = ap (λ es. expr shapes b.condition ∷ es) (conditions_are shapes bs els)

pub branch_parts : (shapes : List Shape) (s : Stmt) (bs : List (Branch Stmt)) (els : List Stmt) → (out-Stmt s).action ≡ action.If bs els → own_parts (action_of (stmt shapes s)) ≡ conditions_of shapes bs
branch_parts shapes s bs els h =
    ap parts_of (view_at shapes s (action.If bs els) h ∙ fold-roll-Stmt St (stmt_step shapes) (record { place = (out-Stmt s).place; action = action.If bs els }))
    ∙ conditions_are shapes bs (map (stmt shapes) els)

pub case_parts : (shapes : List Shape) (s : Stmt) (e : Expr) (as' : List (Alternative Stmt)) → (out-Stmt s).action ≡ action.Case e as' → own_parts (action_of (stmt shapes s)) ≡ expr shapes e ∷ []
case_parts shapes s e as' h =
    ap parts_of (view_at shapes s (action.Case e as') h ∙ fold-roll-Stmt St (stmt_step shapes) (record { place = (out-Stmt s).place; action = action.Case e as' }))

actuals_onto_are : (xs : List Node) (as' : text.Actuals) → each_onto xs (actuals_parts as') ≡ each_actual_onto xs as'
actuals_onto_are xs text.no_actuals = refl
actuals_onto_are xs (text.actual a rest) = one_then_more xs (actual_parts a) (actuals_parts rest) ∙ actuals_onto_are (each_onto xs (actual_parts a)) rest

demands_onto_are : (xs : List Node) (ds : List text.Demand) → each_onto xs (demands_parts ds) ≡ each_demand_onto xs ds
demands_onto_are xs [] = refl
demands_onto_are xs (d ∷ ds) = one_then_more xs (demand_parts d) (demands_parts ds) ∙ demands_onto_are (each_onto xs (demand_parts d)) ds

pub loop_parts : (shapes : List Shape) (xs : List Node) (s : Stmt) (l : LoopParts Stmt) → (out-Stmt s).action ≡ action.Loop l
    → each_onto xs (own_parts (action_of (stmt shapes s))) ≡ each_demand_onto (each_onto xs (head_parts (head_of shapes l.head))) (map (demand_of shapes) l.group)
loop_parts shapes xs s l h =
    ap (λ x. each_onto xs (parts_of x)) (view_at shapes s (action.Loop l) h ∙ fold-roll-Stmt St (stmt_step shapes) (record { place = (out-Stmt s).place; action = action.Loop l }))
    ∙ one_then_more xs (head_parts (head_of shapes l.head)) (demands_parts (map (demand_of shapes) l.group))
    ∙ demands_onto_are (each_onto xs (head_parts (head_of shapes l.head))) (map (demand_of shapes) l.group)

pub call_parts : (shapes : List Shape) (xs : List Node) (s : Stmt) (q : ℕ) (as' : List (Argument Expr)) → (out-Stmt s).action ≡ action.Call q as'
    → each_onto xs (own_parts (action_of (stmt shapes s))) ≡ each_actual_onto xs (actuals_of (expr shapes) as')
call_parts shapes xs s q as' h =
    ap (λ x. each_onto xs (parts_of x)) (view_at shapes s (action.Call q as') h ∙ fold-roll-Stmt St (stmt_step shapes) (record { place = (out-Stmt s).place; action = action.Call q as' }))
    ∙ actuals_onto_are xs (actuals_of (expr shapes) as')

pub assign_parts : (shapes : List Shape) (xs : List Node) (s : Stmt) (t : Target Expr) (v : Fitted Expr) → (out-Stmt s).action ≡ action.Assign t v
    → each_onto xs (own_parts (action_of (stmt shapes s))) ≡ onto asked.Whole (each_onto xs (path_parts (path_of (expr shapes) t.path))) (expr shapes v.value)
assign_parts shapes xs s t v h =
    ap (λ x. each_onto xs (parts_of x)) (view_at shapes s (action.Assign t v) h ∙ fold-roll-Stmt St (stmt_step shapes) (record { place = (out-Stmt s).place; action = action.Assign t v }))
    ∙ one_then_more xs (path_parts (path_of (expr shapes) t.path)) (expr shapes v.value ∷ [])
