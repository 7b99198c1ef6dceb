use Rattle.std.proofs.Common.{◌≡◌, ◌+◌, ◌*◌, map, drop}
use Rattle.typed_units.specs.View.{stmts}
use Rattle.unit_nodes.specs.Nodes.{alternatives_onto, sts_onto}
use Rattle.unit_nodes.specs.View.{alternatives_seen, each_branch_onto, node_of}
use Rattle.unit_nodes.proofs.statements.+statements.Given as goal

abbrev pub decreases-push_statement : goal.decreases-push_statement
decreases-push_statement l = 4 * goal.size-push_statement l

abbrev pub decreases-push_statements : goal.decreases-push_statements
decreases-push_statements l = 4 * goal.size-push_statements l + 1

abbrev pub decreases-push_branches : goal.decreases-push_branches
decreases-push_branches l = 4 * goal.size-push_branches l + 2

abbrev pub decreases-push_alternatives : goal.decreases-push_alternatives
decreases-push_alternatives l = 4 * goal.size-push_alternatives l + 2

abbrev pub invariant-push_statements-loop-s : goal.invariant-push_statements-loop-s
invariant-push_statements-loop-s l =
    sts_onto (map (node_of l.shapes) l.found) (stmts l.shapes (drop l.s-index l.s-items)) ≡ sts_onto (map (node_of l.shapes) l.initial.found) (stmts l.shapes l.s-items)

abbrev pub invariant-push_branches-loop-branch : goal.invariant-push_branches-loop-branch
invariant-push_branches-loop-branch l =
    each_branch_onto l.shapes (map (node_of l.shapes) l.found) (drop l.branch-index l.branch-items) ≡ each_branch_onto l.shapes (map (node_of l.shapes) l.initial.found) l.branch-items

abbrev pub invariant-push_alternatives-loop-alternative : goal.invariant-push_alternatives-loop-alternative
invariant-push_alternatives-loop-alternative l =
    alternatives_onto (map (node_of l.shapes) l.found) (alternatives_seen l.shapes (drop l.alternative-index l.alternative-items)) ≡ alternatives_onto (map (node_of l.shapes) l.initial.found) (alternatives_seen l.shapes l.alternative-items)
