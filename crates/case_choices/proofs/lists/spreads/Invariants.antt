use Rattle.std.proofs.Common.{◌≡◌, [], length}
use Rattle.reading_scope.specs.Scopes.{scope_of}
use Rattle.syntax_view.specs.View.{alternatives_of, stmt}
use Rattle.case_choices.specs.Choosing.{all_spreads_after}
use Rattle.case_choices.proofs.lists.spreads.Given as goal

abbrev pub invariant-loop-alternatives : goal.invariant-loop-alternatives
invariant-loop-alternatives l =
    all_spreads_after (scope_of l.scope) l.want l.found (alternatives_of stmt l.alternatives)
    ≡ all_spreads_after (scope_of l.scope) l.want [] (alternatives_of stmt l.initial.alternatives)

abbrev pub decreases-loop-alternatives : goal.decreases-loop-alternatives
decreases-loop-alternatives l = length l.alternatives
