use Rattle.std.proofs.Common.{◌≡◌, ◌+◌, ◌*◌, drop}
use Rattle.name_numbers.specs.Numbers.{number_at}
use Rattle.syntax_view.specs.View.{alternatives_of, branches_of, stmt, stmts_of}
use Rattle.name_events.specs.Statements.{alternatives_onto, branches_onto, stmts_onto}
use Rattle.name_events.proofs.statements.+stmts.Given as goal

abbrev pub decreases-push_stmt : goal.decreases-push_stmt
decreases-push_stmt l = 4 * goal.size-push_stmt l

abbrev pub decreases-push_stmts : goal.decreases-push_stmts
decreases-push_stmts l = 4 * goal.size-push_stmts l + 1

abbrev pub decreases-push_branches : goal.decreases-push_branches
decreases-push_branches l = 4 * goal.size-push_branches l + 2

abbrev pub decreases-push_loop : goal.decreases-push_loop
decreases-push_loop l = 4 * goal.size-push_loop l + 2

abbrev pub decreases-push_alternative : goal.decreases-push_alternative
decreases-push_alternative l = 4 * goal.size-push_alternative l + 2

abbrev pub decreases-push_alternatives : goal.decreases-push_alternatives
decreases-push_alternatives l = 4 * goal.size-push_alternatives l + 3

abbrev pub invariant-push_stmts-loop-statement : goal.invariant-push_stmts-loop-statement
invariant-push_stmts-loop-statement l = stmts_onto (number_at l.names) l.found (stmts_of stmt (drop l.statement-index l.statement-items)) ≡ stmts_onto (number_at l.names) l.initial.found (stmts_of stmt l.statement-items)

abbrev pub invariant-push_branches-loop-branch : goal.invariant-push_branches-loop-branch
invariant-push_branches-loop-branch l = branches_onto (number_at l.names) l.found (branches_of stmt (drop l.branch-index l.branch-items)) ≡ branches_onto (number_at l.names) l.initial.found (branches_of stmt l.branch-items)

abbrev pub invariant-push_alternatives-loop-alternative : goal.invariant-push_alternatives-loop-alternative
invariant-push_alternatives-loop-alternative l = alternatives_onto (number_at l.names) l.found (alternatives_of stmt (drop l.alternative-index l.alternative-items)) ≡ alternatives_onto (number_at l.names) l.initial.found (alternatives_of stmt l.alternative-items)
