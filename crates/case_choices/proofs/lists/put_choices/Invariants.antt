use Rattle.std.proofs.Common.{◌≡◌, length, map}
use Rattle.reading_scope.specs.Scopes.{scope_of}
use Rattle.syntax_view.specs.View.{case_choice_of}
use Rattle.case_choices.specs.Choosing.{spreads_after}
use Rattle.case_choices.proofs.lists.put_choices.Given as goal

abbrev pub invariant-loop-choices : goal.invariant-loop-choices
invariant-loop-choices l =
    spreads_after (scope_of l.scope) l.want l.spreads (map case_choice_of l.choices)
    ≡ spreads_after (scope_of l.scope) l.want l.initial.spreads (map case_choice_of l.initial.choices)

abbrev pub decreases-loop-choices : goal.decreases-loop-choices
decreases-loop-choices l = length l.choices
