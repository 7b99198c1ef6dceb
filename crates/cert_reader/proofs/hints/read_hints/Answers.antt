use Rattle.std.proofs.Common.{◌∙◌, arith}
use Rattle.term_reader.proofs.Places.{bad_at, steps_at}
use Rattle.cert_reader.specs.Phases.{hints, Has}
use Rattle.cert_reader.proofs.Lists.{hints_over}
use Rattle.cert_reader.proofs.hints.read_hints.Goals as goal

pub returns-in-Err-clause-fault : goal.returns-in-Err-clause-fault
returns-in-Err-clause-fault c =
    bad_at (Has hints) (Has hints) c.args.bytes.now c.args.at c.loop-hints.to c.in-Err.fault c.loop-hints.invariant.on c.in-Err.ensures.fault

pub returns-clause-on : goal.returns-clause-on
returns-clause-on c =
    hints_over c.args.bytes.now c.args.at c.loop-hints.to (λ e. c.loop-hints-test.false (c.byte_at.ensures ∙ e)) c.loop-hints.invariant.on

pub loop-hints-preserved : goal.loop-hints-preserved
loop-hints-preserved c =
    let i = c.loop-hints.invariant in
    let h = c.in-Ok.ensures in
    let b = i.before in
    let d = h.before in record {
      before = omega arith;
      inside = h.inside;
      text = h.text _ i.text;
      on = steps_at (Has hints) (Has hints) (Has hints) c.args.bytes.now c.args.at c.loop-hints.to c.in-Ok.next i.on h.on;
    }
