use Rattle.std.proofs.Common.{◌≡◌, ◌+◌, ◌*◌, drop}
use Rattle.syntax_view.specs.View.{alternatives_of, branches_of, stmt}
use Rattle.statement_typing.specs.Statements.{alternatives_end, branches_end}
use Rattle.statement_rules.proofs.endings.+ends.Given as goal

abbrev pub decreases-returns : goal.decreases-returns
decreases-returns l = 4 * goal.size-returns l

abbrev pub decreases-ends : goal.decreases-ends
decreases-ends l = 4 * goal.size-ends l + 1

abbrev pub decreases-branches_end : goal.decreases-branches_end
decreases-branches_end l = 4 * goal.size-branches_end l + 2

abbrev pub decreases-alternatives_end : goal.decreases-alternatives_end
decreases-alternatives_end l = 4 * goal.size-alternatives_end l + 2

abbrev pub invariant-branches_end-loop-branch : goal.invariant-branches_end-loop-branch
invariant-branches_end-loop-branch l = branches_end (branches_of stmt (drop l.branch-index l.branch-items)) ≡ branches_end (branches_of stmt l.branch-items)

abbrev pub invariant-alternatives_end-loop-alternative : goal.invariant-alternatives_end-loop-alternative
invariant-alternatives_end-loop-alternative l = alternatives_end (alternatives_of stmt (drop l.alternative-index l.alternative-items)) ≡ alternatives_end (alternatives_of stmt l.alternative-items)
