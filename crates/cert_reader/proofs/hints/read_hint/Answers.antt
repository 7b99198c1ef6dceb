use Rattle.cert_reader.proofs.Lists.{hint_text, hint_on, hint_bad}
use Rattle.cert_reader.proofs.hints.read_hint.Goals as goal

pub returns-in-Err-clause-fault : goal.returns-in-Err-clause-fault
returns-in-Err-clause-fault c =
    hint_bad c.args.bytes.now c.args.at c.in-Err.fault c.requires.space c.in-Err.ensures.fault

pub returns-in-Ok-push-clause-text : goal.returns-in-Ok-push-clause-text
returns-in-Ok-push-clause-text c =
    λ s h. hint_text c.args.hints.now _ c.in-Ok.read.value _ _ c.in-Ok-push.ensures.ok c.in-Ok.ensures.text s h

pub returns-in-Ok-push-clause-on : goal.returns-in-Ok-push-clause-on
returns-in-Ok-push-clause-on c =
    hint_on c.args.bytes.now c.args.at c.in-Ok.read.to c.requires.space c.in-Ok.ensures.on
