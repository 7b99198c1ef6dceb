use Rattle.std.proofs.Common.{◌≡◌, ◌++◌, drop}
use Rattle.reading_scope.specs.Scopes.{scope_of}
use Rattle.statement_typing.specs.Aspects.{listed_args}
use Rattle.syntax_view.specs.View.{args_of, expr}
use Rattle.routine_rules.proofs.listed.list_args.Given as goal

abbrev pub invariant-loop-arg : goal.invariant-loop-arg
invariant-loop-arg l = l.found ++ listed_args (scope_of l.scope) l.mode (args_of expr (drop l.arg-index l.args)) ≡ l.fn.found ++ listed_args (scope_of l.scope) l.mode (args_of expr l.args)
