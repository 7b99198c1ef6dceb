use Rattle.std.proofs.Common.{subst, ◌≤◌, List, length}
use Rattle.ada_syntax.specs.declared.expressions.Arg.{Arg}
use Rattle.ada_syntax.specs.declared.expressions.Expr.{Expr}
use Rattle.reading_scope.specs.Scopes.{scope_of}
use Rattle.expression_kinds.proofs.Alone.{no_kind}
use Rattle.expression_kinds.proofs.expressions.+walk.Goals as goal

pub group_kind-returns-in_default-4 : goal.group_kind-returns-in_default-4
group_kind-returns-in_default-4 t c = no_kind (scope_of c.args.scope.now) c.args.args.now (subst (λ (as' : List (Arg Expr)). 2 ≤ length as') c.as_slice.ensures c.in_default.len_at_least)
