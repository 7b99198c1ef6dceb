use Rattle.std.proofs.Common.{◌≡◌, ◌++◌, List, [], drop}
use Rattle.program_scope.specs.Homes.{home_of}
use Rattle.reading_scope.specs.Scopes.{scope_of}
use Rattle.routine_rules.specs.Standing.{HasModes}
use Rattle.statement_typing.specs.Aspects.{moded_args}
use Rattle.syntax_view.specs.View.{args_of, expr}
use Rattle.typed_units.specs.declared.programs.GlobalMode.{GlobalMode}
use Rattle.routine_rules.proofs.listed.moded_args.Given as goal

abbrev pub invariant-loop-arg : goal.invariant-loop-arg
invariant-loop-arg l =
    (stood : List GlobalMode) × HasModes l.modes stood
    × (l.found ++ moded_args (home_of l.home) (scope_of l.scope) stood (args_of expr (drop l.arg-index l.args)) ≡ moded_args (home_of l.home) (scope_of l.scope) [] (args_of expr l.args))
