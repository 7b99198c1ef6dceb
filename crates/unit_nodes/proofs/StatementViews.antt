-- What the code's statements with lists of statements are seen as, and their nodes.
use Rattle.std.proofs.Common.{◌≡◌, refl, sym, ◌∙◌, ap, subst, List, [], ◌∷◌, ◌++◌, map}
use Rattle.ada_values.specs.declared.place.Place.{Place}
use Rattle.ada_values.specs.declared.shapes.Shape.{Shape}
use Rattle.typed_units.specs.declared.expressions.Expr.{Expr}
use Rattle.typed_units.specs.declared.statements.Action.{Action}
use Rattle.typed_units.specs.declared.statements.Action.TheVariants as action
use Rattle.typed_units.specs.declared.statements.Alternative.{Alternative}
use Rattle.typed_units.specs.declared.statements.Branch.{Branch}
use Rattle.typed_units.specs.declared.statements.LoopParts.{LoopParts}
use Rattle.typed_units.specs.declared.statements.Stmt.{Stmt, out-Stmt, roll-Stmt, roll-out-Stmt, fold-roll-Stmt}
use Rattle.typed_units.specs.View.{alternatives_of, branches_of, demand_of, expr, head_of, stmt, stmt_step, stmts}
use Rattle.typed_units.specs.Syntax as text
use Rattle.typed_units.specs.Syntax.{St}
use Rattle.unit_nodes.specs.declared.node.Asked.TheVariants as asked
use Rattle.unit_nodes.specs.Nodes.{Node, statement, onto, st_onto, sts_onto, branches_onto, alternatives_onto, demands_onto, head_onto}
use Rattle.unit_nodes.specs.View.{alternatives_seen, each_branch_onto}

abbrev branches_view : List Shape → List (Branch Stmt) → List Stmt → text.Branches
branches_view shapes bs els = branches_of shapes (map (λ (b : Branch Stmt). record { condition = b.condition; body = map (stmt shapes) b.body }) bs) (map (stmt shapes) els)

branches_are : (shapes : List Shape) (xs : List Node) (bs : List (Branch Stmt)) (els : List Stmt) → branches_onto xs (branches_view shapes bs els) ≡ sts_onto (each_branch_onto shapes xs bs) (stmts shapes els)
branches_are shapes xs [] els = refl
branches_are shapes xs (b ∷ rest) els = branches_are shapes (sts_onto (onto asked.Whole xs (expr shapes b.condition)) (stmts shapes b.body)) rest els

alternatives_are : (shapes : List Shape) (as' : List (Alternative Stmt)) → alternatives_of (map (λ (a : Alternative Stmt). record { choices = a.choices; others = a.others; body = map (stmt shapes) a.body }) as') ≡ alternatives_seen shapes as'
alternatives_are shapes [] = refl
alternatives_are shapes (a ∷ rest) = ap (text.alternative a.choices a.others (stmts shapes a.body)) (alternatives_are shapes rest)

abbrev made : Place → Action Stmt → Stmt
made p a = roll-Stmt (record { place = p; action = a })

view_at : (shapes : List Shape) (s : Stmt) (a : Action Stmt) → (out-Stmt s).action ≡ a → stmt shapes s ≡ stmt shapes (made (out-Stmt s).place a)
view_at shapes s a h = ap (stmt shapes) (sym (roll-out-Stmt s)) ∙ ap (λ b. stmt shapes (made (out-Stmt s).place b)) h

view_branch : (shapes : List Shape) (p : Place) (bs : List (Branch Stmt)) (els : List Stmt) → stmt shapes (made p (action.If bs els)) ≡ text.st p (text.branch (branches_view shapes bs els))
view_branch shapes p bs els = fold-roll-Stmt St (stmt_step shapes) (record { place = p; action = action.If bs els })

view_case : (shapes : List Shape) (p : Place) (e : Expr) (as' : List (Alternative Stmt)) → stmt shapes (made p (action.Case e as')) ≡ text.st p (text.case_of (expr shapes e) (alternatives_seen shapes as'))
view_case shapes p e as' =
    fold-roll-Stmt St (stmt_step shapes) (record { place = p; action = action.Case e as' })
    ∙ ap (λ (x : text.Alternatives). text.st p (text.case_of (expr shapes e) x)) (alternatives_are shapes as')

view_loop : (shapes : List Shape) (p : Place) (l : LoopParts Stmt) → stmt shapes (made p (action.Loop l)) ≡ text.st p (text.loop l.number (head_of shapes l.head) (stmts shapes l.before) (map (demand_of shapes) l.group) (stmts shapes l.after))
view_loop shapes p l = fold-roll-Stmt St (stmt_step shapes) (record { place = p; action = action.Loop l })

pub branch_nodes : (shapes : List Shape) (xs : List Node) (s : Stmt) (bs : List (Branch Stmt)) (els : List Stmt) → (out-Stmt s).action ≡ action.If bs els → st_onto xs (stmt shapes s) ≡ sts_onto (each_branch_onto shapes (xs ++ statement (stmt shapes s) ∷ []) bs) (stmts shapes els)
branch_nodes shapes xs s bs els h =
    let v = view_at shapes s (action.If bs els) h ∙ view_branch shapes (out-Stmt s).place bs els in
    let P : St → Type 0 = λ x. st_onto xs x ≡ sts_onto (each_branch_onto shapes (xs ++ statement x ∷ []) bs) (stmts shapes els) in
    subst P (sym v) (branches_are shapes (xs ++ statement (text.st (out-Stmt s).place (text.branch (branches_view shapes bs els))) ∷ []) bs els)

pub case_nodes : (shapes : List Shape) (xs : List Node) (s : Stmt) (e : Expr) (as' : List (Alternative Stmt)) → (out-Stmt s).action ≡ action.Case e as' → st_onto xs (stmt shapes s) ≡ alternatives_onto (onto asked.Whole (xs ++ statement (stmt shapes s) ∷ []) (expr shapes e)) (alternatives_seen shapes as')
case_nodes shapes xs s e as' h =
    let P : St → Type 0 = λ x. st_onto xs x ≡ alternatives_onto (onto asked.Whole (xs ++ statement x ∷ []) (expr shapes e)) (alternatives_seen shapes as') in
    subst P (sym (view_at shapes s (action.Case e as') h ∙ view_case shapes (out-Stmt s).place e as')) refl

pub loop_nodes : (shapes : List Shape) (xs : List Node) (s : Stmt) (l : LoopParts Stmt) → (out-Stmt s).action ≡ action.Loop l → st_onto xs (stmt shapes s) ≡ sts_onto (demands_onto (sts_onto (head_onto (xs ++ statement (stmt shapes s) ∷ []) (head_of shapes l.head)) (stmts shapes l.before)) (map (demand_of shapes) l.group)) (stmts shapes l.after)
loop_nodes shapes xs s l h =
    let P : St → Type 0 = λ x. st_onto xs x ≡ sts_onto (demands_onto (sts_onto (head_onto (xs ++ statement x ∷ []) (head_of shapes l.head)) (stmts shapes l.before)) (map (demand_of shapes) l.group)) (stmts shapes l.after) in
    subst P (sym (view_at shapes s (action.Loop l) h ∙ view_loop shapes (out-Stmt s).place l)) refl
