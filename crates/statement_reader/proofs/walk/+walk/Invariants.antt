use Rattle.std.proofs.Common.{◌≡◌, ◌+◌, ◌*◌, [], drop}
use Rattle.statement_rules.specs.Arounds.{around_of}
use Rattle.statement_rules.specs.Bodies.{bodies, stage_as}
use Rattle.statement_typing.specs.Statements as rules
use Rattle.syntax_view.specs.View.{alternatives_of, branches_of, stmt, stmts_of}
use Rattle.typing_rules.specs.declared.prefix.Found.TheVariants.{Is}
use Rattle.statement_reader.proofs.walk.+walk.Given as goal

abbrev pub decreases-stmt : goal.decreases-stmt
decreases-stmt l = 16 * goal.size-stmt l

abbrev pub decreases-action_at : goal.decreases-action_at
decreases-action_at l = 16 * goal.size-action_at l + 5

abbrev pub decreases-stmts : goal.decreases-stmts
decreases-stmts l = 16 * goal.size-stmts l + 1

abbrev pub decreases-read_branch : goal.decreases-read_branch
decreases-read_branch l = 16 * goal.size-read_branch l + 2

abbrev pub decreases-branches_onto : goal.decreases-branches_onto
decreases-branches_onto l = 16 * goal.size-branches_onto l + 3

abbrev pub decreases-read_alternative : goal.decreases-read_alternative
decreases-read_alternative l = 16 * goal.size-read_alternative l + 2

abbrev pub decreases-alternatives_onto : goal.decreases-alternatives_onto
decreases-alternatives_onto l = 16 * goal.size-alternatives_onto l + 3

abbrev pub decreases-case_by : goal.decreases-case_by
decreases-case_by l = 16 * goal.size-case_by l + 4

abbrev pub decreases-body_with : goal.decreases-body_with
decreases-body_with l = 16 * goal.size-body_with l + 1

abbrev pub decreases-body_onto : goal.decreases-body_onto
decreases-body_onto l = 16 * goal.size-body_onto l + 2

abbrev pub decreases-loop_by : goal.decreases-loop_by
decreases-loop_by l = 16 * goal.size-loop_by l + 3

abbrev pub invariant-stmts-loop-statement : goal.invariant-stmts-loop-statement
invariant-stmts-loop-statement l = rules.stmts_onto (around_of l.around) l.done (stmts_of stmt (drop l.statement-index l.statement-items)) ≡ rules.stmts_onto (around_of l.around) (Is []) (stmts_of stmt l.statement-items)

abbrev pub invariant-branches_onto-loop-branch : goal.invariant-branches_onto-loop-branch
invariant-branches_onto-loop-branch l = rules.branches_onto (around_of l.around) l.done (branches_of stmt (drop l.branch-index l.branch-items)) ≡ rules.branches_onto (around_of l.around) (Is []) (branches_of stmt l.branch-items)

abbrev pub invariant-alternatives_onto-loop-alternative : goal.invariant-alternatives_onto-loop-alternative
invariant-alternatives_onto-loop-alternative l = rules.alternatives_onto (around_of l.around) l.want l.done (alternatives_of stmt (drop l.alternative-index l.alternative-items)) ≡ rules.alternatives_onto (around_of l.around) l.want (Is []) (alternatives_of stmt l.alternative-items)

abbrev pub invariant-body_onto-loop-statement : goal.invariant-body_onto-loop-statement
invariant-body_onto-loop-statement l = rules.body_onto (around_of l.around) (stage_as l.stage) (bodies l.done) (stmts_of stmt (drop l.statement-index l.statement-items)) ≡ rules.body_onto (around_of l.around) rules.before_group (Is rules.empty) (stmts_of stmt l.statement-items)
