use Rattle.std.proofs.Common.{◌+◌}
use Rattle.cert_reader.proofs.Lists.{tightened_is, tighten_on, tighten_bad}
use Rattle.cert_reader.proofs.steps.read_tightened.Goals as goal

pub returns-in-Err-clause-fault : goal.returns-in-Err-clause-fault
returns-in-Err-clause-fault c =
    tighten_bad c.args.bytes.now c.args.at (c.args.at + 2) c.in-Err.fault c.requires.mark c.in-Err.ensures.fault

pub returns-in-Ok-clause-text : goal.returns-in-Ok-clause-text
returns-in-Ok-clause-text c =
    tightened_is c.in-Ok.form.value _ _ _ c.requires.mark c.in-Ok.ensures.text

pub returns-in-Ok-clause-on : goal.returns-in-Ok-clause-on
returns-in-Ok-clause-on c =
    tighten_on c.args.bytes.now c.args.at (c.args.at + 2) c.in-Ok.form.to c.requires.mark c.in-Ok.ensures.on
