-- Loops and `case` by what has been read before their statements, in the words of the rules.
use Rattle.std.specs.Prelude.{ℕ, true, Some, [], ◌&&◌, if◌then◌else◌}
use Rattle.ada_values.specs.declared.place.Place.{Place}
use Rattle.front_codes.specs.declared.codes.Code.TheVariants.{L21}
use Rattle.typed_units.specs.declared.statements.Action.{Action}
use Rattle.typed_units.specs.declared.statements.Stmt.{Stmt}
use Rattle.type_base.specs.Scope.{Scope}
use Rattle.syntax_view.specs.Trees as tree
use Rattle.typing_rules.specs.declared.prefix.Found.{Found}
use Rattle.typing_rules.specs.declared.prefix.Found.TheVariants.{Is}
use Rattle.statement_typing.specs.declared.parts.Selected.{Selected}
use Rattle.statement_typing.specs.Checks.{unless}
use Rattle.statement_typing.specs.Choices.{cover, others_last, selector_want}
use Rattle.statement_typing.specs.Statements.{Around, Body, Entry, Stage, alternatives_onto, before_group, body_onto, case_at, demand_of, empty, is_demand, loop_of, may_stand, sort_of, stmt, stmt_place, with_demand, with_stmt}
use Rattle.statement_reader.specs.declared.heads.LoopEntry as code

abbrev pub entry_from : Scope → code.LoopEntry → Entry
entry_from c y = record { head = y.head; scope = record c { parameters = y.parameters }; parameter = y.parameter }

-- around the body of a loop
abbrev pub inside_by : Around → ℕ → code.LoopEntry → Around
inside_by a n y = record a { scope = record (a.scope) { parameters = y.parameters }; loop = Some (record { number = n; parameter = y.parameter }) }

-- a loop, by what stands before its body
abbrev pub loop_by : Around → ℕ → code.LoopEntry → tree.Stmts → Found (Action Stmt)
loop_by a n y ss = loop_of n y.head (body_onto (inside_by a n y) before_group (Is empty) ss)

-- the body of a loop with one statement more
abbrev pub body_with : Around → Stage → Found Body → tree.Stmt → Found Body
body_with a t done s =
    if is_demand (sort_of a s) && may_stand t (sort_of a s)
    then with_demand done (demand_of a (stmt_place a s) (sort_of a s))
    else with_stmt t done (stmt a s)

-- a `case` at p, by its selector
abbrev pub case_by : Around → Place → Found Selected → tree.Alternatives → Found (Action Stmt)
case_by a p s as' = case_at p s (unless (others_last as') L21 p true) (cover a.scope p s as') (alternatives_onto a (selector_want s) (Is []) as')
