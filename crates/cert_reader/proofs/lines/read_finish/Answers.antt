use Rattle.std.proofs.Common.{◌<◌, length, arith}
use Rattle.cert_reader.proofs.Wholes.{finish_bad, finish_more, finish_text}
use Rattle.cert_reader.proofs.lines.read_finish.Goals as goal

pub returns-in-Err-clause-fault : goal.returns-in-Err-clause-fault
returns-in-Err-clause-fault c =
    finish_bad c.args.bytes.now c.args.at c.in-Err.to c.in-Err.ensures.place c.in-Err.ensures.fault

pub returns-then-to-bytes-clause-text : goal.returns-then-to-bytes-clause-text
returns-then-to-bytes-clause-text c =
    finish_text c.args.bytes.now c.args.at c.in-Ok.to c.in-Ok.ensures.text c.if-to-bytes.true

pub returns-else-to-bytes-clause-fault : goal.returns-else-to-bytes-clause-fault
returns-else-to-bytes-clause-fault c =
    let b = c.args.bytes.now in
    let to = c.in-Ok.to in
    let i = c.in-Ok.ensures.inside in
    let n = c.if-to-bytes.false in
    let l : to < length b = omega arith in
    finish_more b c.args.at to c.in-Ok.ensures.text l (omega (arith, c.type_inv.bytes to))
