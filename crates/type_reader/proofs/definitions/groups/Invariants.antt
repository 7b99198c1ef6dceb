use Rattle.std.proofs.Common.{◌≡◌, length, map}
use Rattle.reading_scope.specs.Scopes.{scope_of}
use Rattle.statement_typing.specs.Checks.{all_of, all_onto}
use Rattle.statement_typing.specs.Types.{group}
use Rattle.syntax_view.specs.View.{component_of}
use Rattle.type_reader.proofs.definitions.groups.Given as goal

abbrev pub invariant-loop-components : goal.invariant-loop-components
invariant-loop-components l = all_onto l.done (map (group (scope_of l.scope)) (map component_of l.components)) ≡ all_of (map (group (scope_of l.scope)) (map component_of l.initial.components))

abbrev pub decreases-loop-components : goal.decreases-loop-components
decreases-loop-components l = length l.components
