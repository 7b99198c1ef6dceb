use Rattle.std.proofs.Common.{◌≡◌, IfOk, List, None, Option, subst}
use Rattle.ada_syntax.specs.declared.expressions.Arg.{Arg}
use Rattle.ada_syntax.specs.declared.expressions.Expr.{Expr}
use Rattle.name_numbers.specs.declared.words.Word.{Word}
use Rattle.name_numbers.specs.Numbers.{word_of}
use Rattle.program_scope.specs.Homes.{home_of}
use Rattle.statement_typing.specs.Statements.{nothing, pragma_by}
use Rattle.statement_typing.specs.Units.{around}
use Rattle.syntax_view.specs.View.{args_of, expr}
use Rattle.type_base.specs.Scope.{Scope}
use Rattle.type_checker.proofs.simple.pragma_found.Goals as goal

pub returns : goal.returns
returns c =
    subst (λ (as' : List (Arg Expr)). IfOk c.pragma_by.result (λ f. f ≡ pragma_by (around (home_of c.args.home.now) nothing c.args.world.now) c.args.place ((home_of c.args.home.now).file.word c.args.pragma.now.name.from) (args_of expr as'))) c.as_slice.ensures
    (subst (λ (w : Option Word). IfOk c.pragma_by.result (λ f. f ≡ pragma_by (around (home_of c.args.home.now) nothing c.args.world.now) c.args.place w (args_of expr c.as_slice.result.now))) c.word-word.ensures
    (subst (λ (s : Scope). IfOk c.pragma_by.result (λ f. f ≡ pragma_by (record { scope = s; word = λ at. word_of (s.name at); returns = nothing; loop = None }) c.args.place c.word-word.result (args_of expr c.as_slice.result.now))) c.scope-scope.ensures c.pragma_by.ensures))
