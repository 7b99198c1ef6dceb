use Rattle.linear_forms.specs.View.{linear}
use Rattle.linear_prover.specs.Machine.{appended}
use Rattle.linear_prover.specs.View.{state}
use Rattle.linear_prover.proofs.Running.{entered_next, entered_ends, entered_done}
use Rattle.linear_prover.proofs.Stating.{went_on, ended_by}
use Rattle.linear_prover.proofs.machine.LinearMachine.enter.Goals as goal

pub loop-i-preserved : goal.loop-i-preserved
loop-i-preserved c =
    entered_next c.args.forms.now c.loop-i.i c.in_ok-number.number c.index-forms-i.result (state c.loop-i.self) (state c.append.new.self) _ c.loop-i-test.true c.index-forms-i.is c.in_ok-number.ensures
    (went_on (appended (linear c.index-forms-i.result) c.in_ok-number.number (state c.loop-i.self)) c.append.new.self c.in_ok-answer.field-0 c.in_ok-answer.ensures c.in_default.is)
    c.loop-i.invariant

pub returns-in-Some : goal.returns-in-Some
returns-in-Some c =
    entered_ends c.args.forms.now c.loop-i.i c.in_ok-number.number c.index-forms-i.result (state c.loop-i.self) _ _ _ c.loop-i-test.true c.index-forms-i.is c.in_ok-number.ensures
    (ended_by (appended (linear c.index-forms-i.result) c.in_ok-number.number (state c.loop-i.self)) c.append.new.self c.in_ok-answer.field-0 c.in-Some.answer c.in_ok-answer.ensures c.in-Some.is)
    c.loop-i.invariant

pub returns : goal.returns
returns c = entered_done c.args.forms.now c.loop-i.i (state c.loop-i.self) _ c.loop-i-test.false c.loop-i.invariant
