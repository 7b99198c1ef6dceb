-- What the walk does with the parts of a statement is what the rules say.
use Rattle.std.proofs.Common.{◌≡◌, refl, ap, sym, ◌∙◌, ℕ, Bool, true, false, ◌&&◌}
use Rattle.std.specs.Prelude.{if◌then◌else◌}
use Rattle.ada_syntax.specs.declared.statements.Stmt.{Stmt as Written, out-Stmt}
use Rattle.ada_text.specs.declared.token.Span.{Span}
use Rattle.ada_values.specs.declared.place.Place.{Place}
use Rattle.syntax_view.specs.Trees as tree
use Rattle.typed_units.specs.declared.statements.Action.{Action}
use Rattle.typed_units.specs.declared.statements.Stmt.{Stmt}
use Rattle.syntax_view.specs.View.{stmt}
use Rattle.syntax_view.proofs.Forms.{stmt_has}
use Rattle.typing_rules.specs.declared.prefix.Found.{Found}
use Rattle.typing_rules.specs.declared.prefix.Found.TheVariants.{Is}
use Rattle.statement_typing.specs.Statements.{Around, Body, Entry, Stage, action_at, before_group, body_onto, demand_of, empty, entry, inside, is_demand, loop_of, may_stand, sort_of, stage_after, stmt_place, with_demand, with_stmt}
use Rattle.statement_typing.specs.Statements as rules
use Rattle.statement_reader.specs.declared.heads.LoopEntry as code
use Rattle.statement_reader.specs.Loops.{body_with, entry_from, loop_by}

pub placed : (a : Around) (s : Written) → a.scope.place (out-Stmt s).span.from ≡ stmt_place a (stmt s)
placed a s = ap (stmt_place a) (sym (stmt_has s (out-Stmt s).action refl))

-- a loop, by what stands before its body
abbrev by_entry : Around → Place → ℕ → tree.Stmts → Entry → Found (Action Stmt)
by_entry a p n ss e = loop_of n e.head (body_onto (inside a p n e) before_group (Is empty) ss)

pub looped : (a : Around) (p : Place) (s : Span) (y : code.LoopEntry) (h : tree.LoopHead) (ss : tree.Stmts)
    → entry_from a.scope y ≡ entry a.scope h → loop_by a (a.scope.number s.from) y ss ≡ action_at a p s (tree.loop h ss)
looped a p s y h ss e = ap (by_entry a p (a.scope.number s.from) ss) e

chosen : (b : Bool) (a : Around) (t : Stage) (d e : Found Body) (ss : tree.Stmts)
    → body_onto a t (if b then d else e) ss ≡ (if b then body_onto a t d ss else body_onto a t e ss)
chosen true a t d e ss = refl
chosen false a t d e ss = refl

-- the body of a loop goes on after one statement
pub turn : (a : Around) (t : Stage) (d : Found Body) (s : tree.Stmt) (ss : tree.Stmts)
    → body_onto a (stage_after t (sort_of a s)) (body_with a t d s) ss ≡ body_onto a t d (tree.stmts s ss)
turn a t d s ss = chosen (is_demand (sort_of a s) && may_stand t (sort_of a s)) a (stage_after t (sort_of a s)) (with_demand d (demand_of a (stmt_place a s) (sort_of a s))) (with_stmt t d (rules.stmt a s)) ss
