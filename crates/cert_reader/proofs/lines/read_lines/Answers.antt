use Rattle.std.proofs.Common.{drop, arith}
use Rattle.term_reader.proofs.Places.{bad_at, steps_at}
use Rattle.cert_reader.specs.Phases.{InLines}
use Rattle.cert_reader.specs.Entries.{IsEntry}
use Rattle.cert_reader.proofs.Wholes.{line_added}
use Rattle.cert_reader.proofs.lines.read_lines.Goals as goal

pub returns-in-Err-clause-fault : goal.returns-in-Err-clause-fault
returns-in-Err-clause-fault c =
    bad_at InLines InLines c.args.bytes.now c.args.at c.loop-fault.to c.in-Err.fault c.loop-fault.invariant.on c.in-Err.ensures.fault

pub loop-fault-preserved : goal.loop-fault-preserved
loop-fault-preserved c =
    let i = c.loop-fault.invariant in
    let h : IsEntry c.in-Ok-Some.read.line c.args.bytes.now c.loop-fault.to c.in-Ok-Some.read.to = rw c.in-Ok-Some.field-0-is at c.in-Ok-Some.ensures.ok in
    let b = i.before in
    let d = h.before in record {
      before = omega arith;
      inside = h.inside;
      text = line_added c.loop-fault.lines _ c.in-Ok-Some.read.line (drop c.args.at c.args.bytes.now) (drop c.loop-fault.to c.args.bytes.now) (drop c.in-Ok-Some.read.to c.args.bytes.now) c.in-Ok.ensures.ok i.text h.text;
      on = steps_at InLines InLines InLines c.args.bytes.now c.args.at c.loop-fault.to c.in-Ok-Some.read.to i.on h.on;
    }
