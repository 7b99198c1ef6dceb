-- The last of some statements.
use Rattle.std.proofs.Common.{◌≡◌, ◌+◌, ◌∙◌, ap, refl, sym, ℕ, zero, suc, List, [], ◌∷◌, length, get_or, arith}
use Rattle.ada_syntax.specs.declared.statements.Stmt.{Stmt, out-Stmt}
use Rattle.ada_values.specs.declared.place.Place.{Place}
use Rattle.syntax_view.specs.Trees as tree
use Rattle.syntax_view.specs.View.{stmt, stmts_of}
use Rattle.syntax_view.proofs.Forms.{stmt_has}
use Rattle.type_base.specs.Scope.{Scope}
use Rattle.statement_typing.specs.Statements.{ends, last_place, returns}

-- statements end as the last of them does
pub last_ends : (ss : List Stmt) (k : ℕ) (s : Stmt) → k + 1 ≡ length ss → s ≡ get_or ss k s → returns (stmt s) ≡ ends (stmts_of stmt ss)
last_ends [] k s l e = absurd (omega arith)
last_ends (t ∷ []) zero s l e = ap (λ (x : Stmt). returns (stmt x)) e
last_ends (t ∷ []) (suc k) s l e = absurd (omega arith)
last_ends (t ∷ u ∷ ss) zero s l e = absurd (omega arith)
last_ends (t ∷ u ∷ ss) (suc k) s l e = last_ends (u ∷ ss) k s (omega arith) e

before_others : (c : Scope) (p : Place) (t : Stmt) (ss : tree.Stmts) → last_place c p (tree.stmts (stmt t) ss) ≡ last_place c (c.place (out-Stmt t).span.from) ss
before_others c p t ss = ap (λ (x : tree.Stmt). last_place c p (tree.stmts x ss)) (stmt_has t (out-Stmt t).action refl)

-- the last statement is where its first token is
pub last_from : (c : Scope) (p : Place) (ss : List Stmt) (k : ℕ) (s : Stmt) → k + 1 ≡ length ss → s ≡ get_or ss k s → c.place (out-Stmt s).span.from ≡ last_place c p (stmts_of stmt ss)
last_from c p [] k s l e = absurd (omega arith)
last_from c p (t ∷ []) zero s l e = ap (λ (x : Stmt). c.place (out-Stmt x).span.from) e ∙ sym (before_others c p t tree.no_stmts)
last_from c p (t ∷ []) (suc k) s l e = absurd (omega arith)
last_from c p (t ∷ u ∷ ss) zero s l e = absurd (omega arith)
last_from c p (t ∷ u ∷ ss) (suc k) s l e =
    last_from c (c.place (out-Stmt t).span.from) (u ∷ ss) k s (omega arith) e ∙ sym (before_others c p t (stmts_of stmt (u ∷ ss)))
