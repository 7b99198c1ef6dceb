use Rattle.logic_text.proofs.Signatures.{next_call_text, next_call_on, next_call_bad, bracket_bad}
use Rattle.logic_text.proofs.signature_reader.read_next_call.Goals as goal

pub returns-in-Err-clause-fault : goal.returns-in-Err-clause-fault
returns-in-Err-clause-fault c = bracket_bad c.args.bytes.now c.args.at c.in-Err.to c.requires.space c.in-Err.ensures.place c.in-Err.ensures.fault

pub returns-in-Err-read_call-clause-fault : goal.returns-in-Err-read_call-clause-fault
returns-in-Err-read_call-clause-fault c =
    next_call_bad c.args.bytes.now c.args.at c.in-Ok.to c.in-Err-read_call.fault c.requires.space c.in-Ok.ensures.text c.in-Err-read_call.ensures.fault

pub returns-in-Ok-push-clause-text : goal.returns-in-Ok-push-clause-text
returns-in-Ok-push-clause-text c = λ s h.
    next_call_text c.args.calls.now _ c.in-Ok-read_call.read.call c.args.bytes.now c.args.at c.in-Ok.to c.in-Ok-read_call.read.to c.in-Ok-push.ensures.ok c.in-Ok.ensures.text c.in-Ok-read_call.ensures.text s h

pub returns-in-Ok-push-clause-on : goal.returns-in-Ok-push-clause-on
returns-in-Ok-push-clause-on c =
    next_call_on c.args.bytes.now c.args.at c.in-Ok.to c.in-Ok-read_call.read.to c.requires.space c.in-Ok.ensures.text c.in-Ok-read_call.ensures.on
