use Rattle.std.proofs.Common.{◌≡◌, ◌+◌, ◌*◌, drop}
use Rattle.syntax_view.specs.View.{alternatives_of, branches_of, stmt, stmts_of}
use Rattle.statement_typing.specs.Statements.{alternatives_exit, branches_exit, has_exit}
use Rattle.statement_rules.proofs.endings.+exits.Given as goal

abbrev pub decreases-exits : goal.decreases-exits
decreases-exits l = 4 * goal.size-exits l

abbrev pub decreases-has_exit : goal.decreases-has_exit
decreases-has_exit l = 4 * goal.size-has_exit l + 1

abbrev pub decreases-branches_exit : goal.decreases-branches_exit
decreases-branches_exit l = 4 * goal.size-branches_exit l + 2

abbrev pub decreases-alternatives_exit : goal.decreases-alternatives_exit
decreases-alternatives_exit l = 4 * goal.size-alternatives_exit l + 2

abbrev pub invariant-has_exit-loop-statement : goal.invariant-has_exit-loop-statement
invariant-has_exit-loop-statement l = has_exit (stmts_of stmt (drop l.statement-index l.statement-items)) ≡ has_exit (stmts_of stmt l.statement-items)

abbrev pub invariant-branches_exit-loop-branch : goal.invariant-branches_exit-loop-branch
invariant-branches_exit-loop-branch l = branches_exit (branches_of stmt (drop l.branch-index l.branch-items)) ≡ branches_exit (branches_of stmt l.branch-items)

abbrev pub invariant-alternatives_exit-loop-alternative : goal.invariant-alternatives_exit-loop-alternative
invariant-alternatives_exit-loop-alternative l = alternatives_exit (alternatives_of stmt (drop l.alternative-index l.alternative-items)) ≡ alternatives_exit (alternatives_of stmt l.alternative-items)
