use Rattle.std.proofs.Common.{◌≡◌, length}
use Rattle.syntax_view.specs.View.{alternatives_of, stmt}
use Rattle.statement_typing.specs.Choices.{any_others}
use Rattle.statement_rules.proofs.choices.any_others.Given as goal

abbrev pub invariant-loop-alternatives : goal.invariant-loop-alternatives
invariant-loop-alternatives l = any_others (alternatives_of stmt l.alternatives) ≡ any_others (alternatives_of stmt l.initial.alternatives)

abbrev pub decreases-loop-alternatives : goal.decreases-loop-alternatives
decreases-loop-alternatives l = length l.alternatives
