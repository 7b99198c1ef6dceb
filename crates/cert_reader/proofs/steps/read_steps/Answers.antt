use Rattle.std.proofs.Common.{sym, ◌∙◌, arith, lit<}
use Rattle.term_reader.proofs.Fronts.{first_is}
use Rattle.term_reader.proofs.Places.{bad_at, steps_at}
use Rattle.cert_reader.specs.Phases.{steps, Has}
use Rattle.cert_reader.proofs.Lists.{next_step_text, steps_over}
use Rattle.cert_reader.proofs.steps.read_steps.Goals as goal

pub read_step-requires-clause-place : goal.read_step-requires-clause-place
read_step-requires-clause-place c =
    (first_is c.args.bytes.now c.loop-fault.to 32 (sym c.byte_at.ensures ∙ c.loop-fault-test.true) (lit< tt)).0

pub read_step-requires-clause-space : goal.read_step-requires-clause-space
read_step-requires-clause-space c =
    (first_is c.args.bytes.now c.loop-fault.to 32 (sym c.byte_at.ensures ∙ c.loop-fault-test.true) (lit< tt)).1

pub returns-in-Err-clause-fault : goal.returns-in-Err-clause-fault
returns-in-Err-clause-fault c =
    bad_at (Has steps) (Has steps) c.args.bytes.now c.args.at c.loop-fault.to c.in-Err.fault c.loop-fault.invariant.on c.in-Err.ensures.fault

pub loop-fault-preserved : goal.loop-fault-preserved
loop-fault-preserved c =
    let i = c.loop-fault.invariant in
    let h = c.in-Ok.ensures in
    let b = i.before in
    let d = h.before in record {
      before = omega arith;
      inside = h.inside;
      text = next_step_text c.loop-fault.steps _ c.in-Ok.read.step _ _ _ c.in-Ok-push.ensures.ok i.text h.text;
      on = steps_at (Has steps) (Has steps) (Has steps) c.args.bytes.now c.args.at c.loop-fault.to c.in-Ok.read.to i.on h.on;
    }

pub returns-clause-on : goal.returns-clause-on
returns-clause-on c =
    steps_over c.args.bytes.now c.args.at c.loop-fault.to (λ e. c.loop-fault-test.false (c.byte_at.ensures ∙ e)) c.loop-fault.invariant.on
