use Rattle.std.proofs.Common.{codes, map}
use Rattle.logic_terms.specs.Goal.{called_as}
use Rattle.logic_text.specs.Goals.{calls_text}
use Rattle.logic_text.proofs.Signatures.{calls_word_bad, calls_bad, calls_end_on, calls_end_bad, ended_text}
use Rattle.logic_text.proofs.signature_reader.read_calls_line.Goals as goal

pub returns-in-Err-clause-fault : goal.returns-in-Err-clause-fault
returns-in-Err-clause-fault c = calls_word_bad c.args.bytes.now c.args.at c.in-Err.to c.in-Err.ensures.place c.in-Err.ensures.fault

pub returns-in-Err-read_calls-clause-fault : goal.returns-in-Err-read_calls-clause-fault
returns-in-Err-read_calls-clause-fault c =
    calls_bad c.args.bytes.now c.args.at c.in-Ok.to c.in-Err-read_calls.fault c.in-Ok.ensures.text c.in-Err-read_calls.ensures.fault

pub returns-in-Err-read_word-clause-fault : goal.returns-in-Err-read_word-clause-fault
returns-in-Err-read_word-clause-fault c =
    let r = c.in-Ok-read_calls.ensures in
    calls_end_bad c.args.bytes.now c.args.at c.in-Ok.to c.in-Ok-read_calls.read.to c.in-Err-read_word.to c.in-Ok.ensures.text r.on r.next c.in-Err-read_word.ensures.place c.in-Err-read_word.ensures.fault

pub returns-in-Ok-read_word-clause-text : goal.returns-in-Ok-read_word-clause-text
returns-in-Ok-read_word-clause-text c =
    let r = c.in-Ok-read_calls.ensures in
    ended_text (codes "calls") (calls_text (map called_as c.in-Ok-read_calls.read.calls)) c.args.bytes.now c.args.at c.in-Ok.to c.in-Ok-read_calls.read.to c.in-Ok-read_word.to
    c.in-Ok.ensures.text r.text c.in-Ok-read_word.ensures.text

pub returns-in-Ok-read_word-clause-on : goal.returns-in-Ok-read_word-clause-on
returns-in-Ok-read_word-clause-on c =
    let r = c.in-Ok-read_calls.ensures in
    calls_end_on c.args.bytes.now c.args.at c.in-Ok.to c.in-Ok-read_calls.read.to c.in-Ok-read_word.to c.in-Ok.ensures.text r.on r.next c.in-Ok-read_word.ensures.text
