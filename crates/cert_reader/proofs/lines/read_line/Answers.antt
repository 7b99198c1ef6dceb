use Rattle.cert_reader.proofs.Wholes.{line_end_bad, line_ended}
use Rattle.cert_reader.proofs.lines.read_line.Goals as goal

pub returns-in-Err-read_word-clause-fault : goal.returns-in-Err-read_word-clause-fault
returns-in-Err-read_word-clause-fault c =
    line_end_bad c.args.word c.in-Ok.read.line c.args.bytes.now c.args.at c.in-Ok.read.to c.in-Err-read_word.to c.in-Ok.ensures.ok c.in-Err-read_word.ensures.place c.in-Err-read_word.ensures.fault

pub returns-in-Ok-read_word-clause-ok : goal.returns-in-Ok-read_word-clause-ok
returns-in-Ok-read_word-clause-ok c =
    let h = c.in-Ok-read_word.ensures in line_ended c.args.word c.in-Ok.read.line c.args.bytes.now c.args.at c.in-Ok.read.to c.in-Ok-read_word.to c.in-Ok.ensures.ok h.to h.inside h.text
