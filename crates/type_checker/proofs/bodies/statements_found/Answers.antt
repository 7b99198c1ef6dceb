use Rattle.std.proofs.Common.{◌≡◌, ◌∙◌, None, ap}
use Rattle.std.specs.Option.{option_map}
use Rattle.name_numbers.specs.Numbers.{word_of}
use Rattle.reading_scope.specs.Scopes.{scope_of}
use Rattle.statement_typing.specs.Statements.{Returns, stmts}
use Rattle.statement_typing.specs.Units.{returns_of}
use Rattle.syntax_view.specs.View.{expr, name_of, stmt, stmts_of}
use Rattle.type_base.specs.Scope.{Scope}
use Rattle.type_checker.proofs.bodies.statements_found.Goals as goal

pub returns-clause-statements : goal.returns-clause-statements
returns-clause-statements c =
    c.in_ok-statements.ensures
    ∙ ap (λ (r : Returns). stmts (record { scope = scope_of c.scope-scope.result; word = λ at. word_of ((scope_of c.scope-scope.result).name at); returns = r; loop = None }) (stmts_of stmt c.args.body.now.statements)) c.in_ok-returns.ensures
    ∙ ap (λ (s : Scope). stmts (record { scope = s; word = λ at. word_of (s.name at); returns = returns_of s (option_map (name_of expr) c.args.sub.now.result); loop = None }) (stmts_of stmt c.args.body.now.statements)) c.scope-scope.ensures
