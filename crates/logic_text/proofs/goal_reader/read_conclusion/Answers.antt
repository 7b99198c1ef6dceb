use Rattle.std.proofs.Common.{◌<◌, length, arith}
use Rattle.logic_text.proofs.Formulas.{conclusion_bad, more_bad}
use Rattle.term_reader.proofs.WholeTexts.{byte_before_end}
use Rattle.logic_text.proofs.goal_reader.read_conclusion.Goals as goal

pub returns-in-Err-clause-fault : goal.returns-in-Err-clause-fault
returns-in-Err-clause-fault c = conclusion_bad c.args.bytes.now c.args.at c.in-Err.fault c.requires.letter c.in-Err.ensures.fault

pub returns-else-read-bytes-clause-fault : goal.returns-else-read-bytes-clause-fault
returns-else-read-bytes-clause-fault c =
    let b = c.args.bytes.now in
    let to = c.in-Ok.read.to in
    let i = c.in-Ok.ensures.inside in
    let n = c.if-read-bytes.false in
    let l : to < length b = omega arith in
    more_bad b c.args.at to c.requires.letter c.in-Ok.ensures.on i (byte_before_end b to l (omega (arith, c.type_inv.bytes to)))
