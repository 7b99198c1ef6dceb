use Rattle.std.proofs.Common.{◌≡◌, rules}
use Rattle.cert_reader.specs.declared.line_word.LineWord.TheVariants.{End}
use Rattle.cert_reader.proofs.Wholes.{entry_word_bad, entry_bad, end_bad, entry_read}
use Rattle.cert_reader.proofs.lines.read_entry.Goals as goal

pub returns-in-Err-clause-fault : goal.returns-in-Err-clause-fault
returns-in-Err-clause-fault c =
    entry_word_bad c.args.bytes.now c.args.at c.in-Err.to c.in-Err.ensures.place c.in-Err.ensures.fault

pub returns-in-Err-read_finish-clause-fault : goal.returns-in-Err-read_finish-clause-fault
returns-in-Err-read_finish-clause-fault c =
    let e : c.in-Ok.chosen.line ≡ End = search rules in
    end_bad c.in-Ok.chosen.line c.args.bytes.now c.args.at c.in-Ok.chosen.to c.in-Err-read_finish.fault e c.in-Ok.ensures.text c.in-Err-read_finish.ensures.fault

pub returns-in-Err-read_line-clause-fault : goal.returns-in-Err-read_line-clause-fault
returns-in-Err-read_line-clause-fault c =
    entry_bad c.in-Ok.chosen.line c.args.bytes.now c.args.at c.in-Ok.chosen.to c.in-Err-read_line.fault c.in-Ok.ensures.text c.in-Err-read_line.ensures.fault

pub returns-in-Ok-read_line-clause-ok : goal.returns-in-Ok-read_line-clause-ok
returns-in-Ok-read_line-clause-ok c =
    entry_read c.in-Ok.chosen.line c.in-Ok-read_line.read.line c.args.bytes.now c.args.at c.in-Ok.chosen.to c.in-Ok-read_line.read.to c.in-Ok.ensures.before c.in-Ok.ensures.text c.in-Ok-read_line.ensures.ok
