use Rattle.std.proofs.Common.{◌≡◌, length}
use Rattle.reading_scope.specs.Scopes.{scope_of}
use Rattle.statement_typing.specs.Subtypes.{mark_from}
use Rattle.syntax_view.specs.View.{expr, suffixes_of}
use Rattle.routine_rules.proofs.marks.mark_of.Given as goal

abbrev pub invariant-loop-rest : goal.invariant-loop-rest
invariant-loop-rest l = mark_from (scope_of l.scope) l.at (suffixes_of expr l.rest) ≡ mark_from (scope_of l.scope) l.initial.at (suffixes_of expr l.initial.rest)

abbrev pub decreases-loop-rest : goal.decreases-loop-rest
decreases-loop-rest l = length l.rest
