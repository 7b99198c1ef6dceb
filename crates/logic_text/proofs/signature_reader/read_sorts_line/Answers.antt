use Rattle.std.proofs.Common.{codes}
use Rattle.logic_text.specs.Answers.{kinds_of}
use Rattle.logic_text.specs.Goals.{sorts_text}
use Rattle.logic_text.proofs.Signatures.{start_bad, sorts_bad, sorts_end_on, sorts_end_bad, ended_text}
use Rattle.logic_text.proofs.signature_reader.read_sorts_line.Goals as goal

pub returns-in-Err-clause-fault : goal.returns-in-Err-clause-fault
returns-in-Err-clause-fault c = start_bad c.args.bytes.now c.in-Err.to c.in-Err.ensures.place c.in-Err.ensures.fault

pub returns-in-Err-read_symbols-clause-fault : goal.returns-in-Err-read_symbols-clause-fault
returns-in-Err-read_symbols-clause-fault c =
    sorts_bad c.args.bytes.now c.in-Ok.to c.in-Err-read_symbols.fault c.in-Ok.ensures.text c.in-Err-read_symbols.ensures.fault

pub returns-in-Err-read_word-clause-fault : goal.returns-in-Err-read_word-clause-fault
returns-in-Err-read_word-clause-fault c =
    let r = c.in-Ok-read_symbols.ensures in
    sorts_end_bad c.args.bytes.now c.in-Ok.to c.in-Ok-read_symbols.read.to c.in-Err-read_word.to c.in-Ok.ensures.text r.on r.next c.in-Err-read_word.ensures.place c.in-Err-read_word.ensures.fault

pub returns-in-Ok-read_word-clause-text : goal.returns-in-Ok-read_word-clause-text
returns-in-Ok-read_word-clause-text c =
    let r = c.in-Ok-read_symbols.ensures in
    ended_text (codes "sorts") (sorts_text (kinds_of c.in-Ok-read_symbols.read.symbols)) c.args.bytes.now 0 c.in-Ok.to c.in-Ok-read_symbols.read.to c.in-Ok-read_word.to
    c.in-Ok.ensures.text r.text c.in-Ok-read_word.ensures.text

pub returns-in-Ok-read_word-clause-on : goal.returns-in-Ok-read_word-clause-on
returns-in-Ok-read_word-clause-on c =
    let r = c.in-Ok-read_symbols.ensures in
    sorts_end_on c.args.bytes.now c.in-Ok.to c.in-Ok-read_symbols.read.to c.in-Ok-read_word.to c.in-Ok.ensures.text r.on r.next c.in-Ok-read_word.ensures.text
