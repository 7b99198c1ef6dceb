use Rattle.linear_prover.specs.Elimination.{eliminate_next}
use Rattle.linear_prover.specs.View.{state}
use Rattle.linear_prover.proofs.Running.{rounds_next, rounds_ends, rounds_done}
use Rattle.linear_prover.proofs.Stating.{went_on, ended_by}
use Rattle.linear_prover.proofs.machine.LinearMachine.eliminate_all.Goals as goal

pub loop-round-preserved : goal.loop-round-preserved
loop-round-preserved c =
    rounds_next c.args.count c.loop-round.round (state c.loop-round.self) (state c.eliminate_next.new.self) _ c.loop-round-test.true
    (went_on (eliminate_next (state c.loop-round.self)) c.eliminate_next.new.self c.in_ok-answer.field-0 c.in_ok-answer.ensures c.in_default.is)
    c.loop-round.invariant

pub returns-in-Some : goal.returns-in-Some
returns-in-Some c =
    rounds_ends c.args.count c.loop-round.round (state c.loop-round.self) _ _ _ c.loop-round-test.true
    (ended_by (eliminate_next (state c.loop-round.self)) c.eliminate_next.new.self c.in_ok-answer.field-0 c.in-Some.answer c.in_ok-answer.ensures c.in-Some.is)
    c.loop-round.invariant

pub returns : goal.returns
returns c = rounds_done c.args.count c.loop-round.round (state c.loop-round.self) _ c.loop-round-test.false c.loop-round.invariant
