use Rattle.std.proofs.Common.{sym, subst}
use Rattle.logic_text.specs.Answers.{IsGoalFault}
use Rattle.logic_text.proofs.Wholes.{goal_fault}
use Rattle.logic_text.proofs.goal_reader.read_goal.Goals as goal

pub returns-in-Err-clause-fault : goal.returns-in-Err-clause-fault
returns-in-Err-clause-fault c =
    subst (IsGoalFault c.args.bytes.now) (sym c.from.ensures)
    (goal_fault c.args.bytes.now c.in-Err.fault c.if-bytes-gt-MOST_GOAL_BYTES.false c.in-Err.ensures.fault)
