use Rattle.std.proofs.Common.{◌≡◌, drop, map}
use Rattle.reading_scope.specs.Scopes.{scope_of}
use Rattle.statement_typing.specs.Checks.{all_of, all_onto}
use Rattle.statement_typing.specs.Routines.{formals}
use Rattle.syntax_view.specs.View.{param_of}
use Rattle.routine_reader.proofs.profiles.all_formals.Given as goal

abbrev pub invariant-loop-param : goal.invariant-loop-param
invariant-loop-param l = all_onto l.found (map (formals (scope_of l.scope)) (map param_of (drop l.param-index l.params))) ≡ all_of (map (formals (scope_of l.scope)) (map param_of l.params))
