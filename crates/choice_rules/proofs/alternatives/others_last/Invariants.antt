use Rattle.std.proofs.Common.{◌≡◌, length}
use Rattle.syntax_view.specs.View.{alternatives_of, stmt}
use Rattle.statement_typing.specs.Choices.{others_last}
use Rattle.choice_rules.proofs.alternatives.others_last.Given as goal

abbrev pub invariant-loop-alternatives : goal.invariant-loop-alternatives
invariant-loop-alternatives l = others_last (alternatives_of stmt l.alternatives) ≡ others_last (alternatives_of stmt l.initial.alternatives)

abbrev pub decreases-loop-alternatives : goal.decreases-loop-alternatives
decreases-loop-alternatives l = length l.alternatives
