use Rattle.std.proofs.Common.{◌≡◌, ◌+◌, ◌*◌, ◌++◌, drop}
use Rattle.syntax_view.specs.View.{alternatives_of, branches_of, stmt, stmts_of}
use Rattle.statement_typing.specs.Numbers.{loops_in, loops_in_alternatives, loops_in_branches}
use Rattle.text_numbers.proofs.loops.+loops.Given as goal

abbrev pub decreases-push_in_stmt : goal.decreases-push_in_stmt
decreases-push_in_stmt l = 4 * goal.size-push_in_stmt l

abbrev pub decreases-push_loops : goal.decreases-push_loops
decreases-push_loops l = 4 * goal.size-push_loops l + 1

abbrev pub decreases-push_in_branches : goal.decreases-push_in_branches
decreases-push_in_branches l = 4 * goal.size-push_in_branches l + 2

abbrev pub decreases-push_in_alternatives : goal.decreases-push_in_alternatives
decreases-push_in_alternatives l = 4 * goal.size-push_in_alternatives l + 2

abbrev pub invariant-push_loops-loop-statement : goal.invariant-push_loops-loop-statement
invariant-push_loops-loop-statement l = l.found ++ loops_in (stmts_of stmt (drop l.statement-index l.statement-items)) ≡ l.initial.found ++ loops_in (stmts_of stmt l.statement-items)

abbrev pub invariant-push_in_branches-loop-branch : goal.invariant-push_in_branches-loop-branch
invariant-push_in_branches-loop-branch l = l.found ++ loops_in_branches (branches_of stmt (drop l.branch-index l.branch-items)) ≡ l.initial.found ++ loops_in_branches (branches_of stmt l.branch-items)

abbrev pub invariant-push_in_alternatives-loop-alternative : goal.invariant-push_in_alternatives-loop-alternative
invariant-push_in_alternatives-loop-alternative l = l.found ++ loops_in_alternatives (alternatives_of stmt (drop l.alternative-index l.alternative-items)) ≡ l.initial.found ++ loops_in_alternatives (alternatives_of stmt l.alternative-items)
