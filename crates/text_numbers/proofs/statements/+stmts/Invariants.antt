use Rattle.std.proofs.Common.{◌≡◌, ◌+◌, ◌*◌, ◌++◌, drop}
use Rattle.syntax_view.specs.View.{alternatives_of, branches_of, stmt, stmts_of}
use Rattle.statement_typing.specs.Numbers.{in_alternatives, in_branches, in_stmts}
use Rattle.text_numbers.proofs.statements.+stmts.Given as goal

abbrev pub decreases-push_stmt : goal.decreases-push_stmt
decreases-push_stmt l = 4 * goal.size-push_stmt l

abbrev pub decreases-push_stmts : goal.decreases-push_stmts
decreases-push_stmts l = 4 * goal.size-push_stmts l + 1

abbrev pub decreases-push_branch : goal.decreases-push_branch
decreases-push_branch l = 4 * goal.size-push_branch l + 2

abbrev pub decreases-push_branches : goal.decreases-push_branches
decreases-push_branches l = 4 * goal.size-push_branches l + 3

abbrev pub decreases-push_alternative : goal.decreases-push_alternative
decreases-push_alternative l = 4 * goal.size-push_alternative l + 2

abbrev pub decreases-push_alternatives : goal.decreases-push_alternatives
decreases-push_alternatives l = 4 * goal.size-push_alternatives l + 3

abbrev pub invariant-push_stmts-loop-statement : goal.invariant-push_stmts-loop-statement
invariant-push_stmts-loop-statement l = l.found ++ in_stmts (stmts_of stmt (drop l.statement-index l.statement-items)) ≡ l.initial.found ++ in_stmts (stmts_of stmt l.statement-items)

abbrev pub invariant-push_branches-loop-branch : goal.invariant-push_branches-loop-branch
invariant-push_branches-loop-branch l = l.found ++ in_branches (branches_of stmt (drop l.branch-index l.branch-items)) ≡ l.initial.found ++ in_branches (branches_of stmt l.branch-items)

abbrev pub invariant-push_alternatives-loop-alternative : goal.invariant-push_alternatives-loop-alternative
invariant-push_alternatives-loop-alternative l = l.found ++ in_alternatives (alternatives_of stmt (drop l.alternative-index l.alternative-items)) ≡ l.initial.found ++ in_alternatives (alternatives_of stmt l.alternative-items)
